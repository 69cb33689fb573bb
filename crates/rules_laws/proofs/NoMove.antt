-- A game ends by mate exactly if no move is legal and the side on move is in check, and by stalemate exactly if no move
-- is legal and it isn't in check. The verdict is a chain of tests (`judged`), of which the first is that no move is
-- legal; so the law follows from the tests alone.
use Rattle.std.proofs.Common.{ℕ, ◌≡◌, Bool, true, false, List, [], ◌∷◌, length, Some, None, Option, refl, sym, ◌∙◌, arith, ◌==◌, nat_le, filter, if◌then◌else◌}
use Rattle.std.proofs.lemmas.Bool.{eqb-true, eq-eqb, false_from_ne_true, ltb-true}
use Rattle.chess_base.specs.{declared.man.Colour.Colour, declared.man.Colour.TheVariants.White, declared.man.Colour.TheVariants.Black, declared.man.Move.Move, declared.setup.Setup.Setup, Attacks.is_in_check, ByColour.by_colour, Men.other, MoveList.all_moves, MoveList.moves, Moves.is_legal}
use Rattle.chess_moves.proofs.shared.LegalMoves.{some_legal}
use Rattle.chess_game.specs.{declared.verdicts.Verdict.Verdict, Ends.has_insufficient_material, Ends.verdict, Line.position_after, Same.repetition_count}
use Rattle.chess_game.specs.declared.verdicts.Verdict.TheVariants.{WhiteMates, BlackMates, Stalemate, InsufficientMaterial, FivefoldRepetition, SeventyFiveMoves}
use Rattle.rules_laws.specs.Endings.{HasNoMove, NoMoveEnds}

-- a verdict by its tests: no legal move, insufficient material, fivefold repetition, 75 moves; in check; the side on
-- move
abbrev pub judged : Bool → Bool → Bool → Bool → Bool → Colour → Option Verdict
judged none bare five quiet check side =
    if none then Some (if check then by_colour WhiteMates BlackMates (other side) else Stalemate)
    else if bare then Some InsufficientMaterial
    else if five then Some FivefoldRepetition
    else if quiet then Some SeventyFiveMoves
    else None

-- no move is legal: the list of legal moves is empty
abbrev pub has_none : Setup → Bool
has_none p = length (moves p) == 0

-- the verdict of a game, if it is drawn at the n-th repetition and after k quiet half-moves
abbrev pub judged_at : ℕ → ℕ → Setup → List Move → Option Verdict
judged_at n k start ms =
    let p = position_after start ms in
    judged (has_none p) (has_insufficient_material p.men) (nat_le n (repetition_count start ms)) (nat_le k p.halfmove)
    (is_in_check p.men p.side) p.side

-- some such numbers make the verdict; which they are does not matter here
pub record Numbers : Type 0 where
  pub times : ℕ
  pub clock : ℕ
  pub is : (start : Setup) (ms : List Move) → verdict start ms ≡ judged_at times clock start ms

pub some_numbers : Numbers
unfolding verdict
some_numbers = record { times = _; clock = _; is = λ start ms. refl }

-- by its tests, White mates only if no move is legal (a), in check (k), and Black is on move; the next two lemmas say
-- so of Black's mate and of stalemate
white_by : (a b c d k : Bool) (s : Colour) → judged a b c d k s ≡ Some WhiteMates
    → (a ≡ true) × (k ≡ true) × (s ≡ Black)
white_by true b c d true White e = cc
white_by true b c d true Black e = (refl, refl, refl)
white_by true b c d false s e = cc
white_by false true c d k s e = cc
white_by false false true d k s e = cc
white_by false false false true k s e = cc
white_by false false false false k s e = cc

black_by : (a b c d k : Bool) (s : Colour) → judged a b c d k s ≡ Some BlackMates
    → (a ≡ true) × (k ≡ true) × (s ≡ White)
black_by true b c d true White e = (refl, refl, refl)
black_by true b c d true Black e = cc
black_by true b c d false s e = cc
black_by false true c d k s e = cc
black_by false false true d k s e = cc
black_by false false false true k s e = cc
black_by false false false false k s e = cc

stalemate_by : (a b c d k : Bool) (s : Colour) → judged a b c d k s ≡ Some Stalemate → (a ≡ true) × (k ≡ false)
stalemate_by true b c d true White e = cc
stalemate_by true b c d true Black e = cc
stalemate_by true b c d false s e = (refl, refl)
stalemate_by false true c d k s e = cc
stalemate_by false false true d k s e = cc
stalemate_by false false false true k s e = cc
stalemate_by false false false false k s e = cc

-- ---- no legal move

-- if no element passes a test, none is kept
none_kept : {A : Type 0} (q : A → Bool) (xs : List A) → ((x : A) → q x ≡ false) → length (filter q xs) ≡ 0
none_kept q [] h = refl
none_kept q (x ∷ xs) h = rw (h x) (none_kept q xs h)

-- from `HasNoMove`, which speaks of each move, to the empty list of legal moves; none_to is the other direction
pub none_from : (p : Setup) → HasNoMove p → has_none p ≡ true
unfolding moves
none_from p h = eq-eqb _ _ (none_kept (λ m. is_legal p m) all_moves h)

pub none_to : (p : Setup) → has_none p ≡ true → HasNoMove p
none_to p e m =
    false_from_ne_true _ (λ legal.
    let some = ltb-true _ _ (some_legal p m legal) in
    let none = eqb-true _ _ e in
    omega (arith, some, none))

pub no_move_ends : NoMoveEnds
no_move_ends start ms =
    let p = position_after start ms in
    let is = some_numbers.is start ms in
    let a = has_none p in
    let b = has_insufficient_material p.men in
    let c = nat_le some_numbers.times (repetition_count start ms) in
    let d = nat_le some_numbers.clock p.halfmove in
    let k = is_in_check p.men p.side in
    record {
      white_mates = (
        λ e. (let parts = white_by a b c d k p.side (sym is ∙ e) in
            (parts.2, record { check = parts.1; moves = none_to p parts.0 })),
        λ h. is ∙ rw (none_from p h.1.moves, h.1.check, h.0) refl,
      );
      black_mates = (
        λ e. (let parts = black_by a b c d k p.side (sym is ∙ e) in
            (parts.2, record { check = parts.1; moves = none_to p parts.0 })),
        λ h. is ∙ rw (none_from p h.1.moves, h.1.check, h.0) refl,
      );
      stalemate = (
        λ e. (let parts = stalemate_by a b c d k p.side (sym is ∙ e) in
            record { check = parts.1; moves = none_to p parts.0 }),
        λ h. is ∙ rw (none_from p h.moves, h.check) refl,
      );
    }
