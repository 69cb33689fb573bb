-- After a move was played from the position after `ms`, the text of the last move (`text_of_last`) is the text of this
-- move in that position, by squares or in SAN (`text_at_last`). So the two texts that `play` makes, all but the check
-- mark before it plays the move, are those of the last move (`texts_of_last`).
use Rattle.std.proofs.Common.{◌≡◌, ℕ, ◌-◌, Bool, List, [], ◌∷◌, ◌++◌, length, length-append, refl, ap, sym, ◌∙◌, Option, None, Some, arith, if◌then◌else◌}
use Rattle.std.specs.List.{last_or}
use Rattle.std.proofs.Math.Seq.{take-append_seam}
use Rattle.chess_base.specs.{declared.man.Move.Move, declared.setup.Setup.Setup, Moves.after}
use Rattle.chess_game.specs.Line.{position_after}
use Rattle.chess_text.specs.San.{check_mark, san, shown_move}
use Rattle.chess_match.specs.Rules.{text_of_last}
use Rattle.chess_game.proofs.shared.Lines.{position_after-snoc}

-- the last of some moves and one more is that one
last_is : (o : Option Move) (ms : List Move) (m : Move) → last_or o (ms ++ m ∷ []) ≡ Some m
last_is o [] m = refl
last_is o (x ∷ ms) m = last_is (Some x) ms m

-- the text of the last move, after the moves `ms` and then `m`, is that of `m` in the position after `ms`
pub text_at_last : (as_san : Bool) (start : Setup) (ms : List Move) (m : Move)
    → text_of_last as_san start (ms ++ m ∷ [])
    ≡ (let p = position_after start ms in if as_san then san p m else shown_move p m)
text_at_last as_san start ms m =
    let few : length (ms ++ m ∷ []) - 1 ≡ length ms = omega (arith, length-append ms (m ∷ [])) in
    rw (few, take-append_seam ms (m ∷ []), last_is None ms m) refl

-- the two texts that `play` makes are those of the last move: the one by squares and the SAN without its mark (`+` or
-- `#`) are made before the move is played, and the mark is that of the position after it
pub texts_of_last : (start : Setup) (ms : List Move) (m : Move) (unmarked written squares : List ℕ) (next : Setup)
    → next ≡ position_after start (ms ++ m ∷ []) → unmarked ++ check_mark (after (position_after start ms) m)
    ≡ san (position_after start ms) m
    → written ≡ unmarked ++ check_mark next → squares ≡ shown_move (position_after start ms) m
    → (as_san : Bool) → (if as_san then written else squares) ≡ text_of_last as_san start (ms ++ m ∷ [])
texts_of_last start ms m unmarked written squares next at before marked shown as_san =
    let in_san : written ≡ san (position_after start ms) m =
    marked ∙ ap (λ (q : Setup). unmarked ++ check_mark q) (at ∙ position_after-snoc start ms m) ∙ before in
    rw (in_san, shown) (sym (text_at_last as_san start ms m))
