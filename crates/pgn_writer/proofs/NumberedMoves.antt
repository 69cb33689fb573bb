-- The tokens of a game are defined as a first number such as `12...` if Black begins, then the moves with White's
-- numbers, then the outcome. The code writes them move by move, where only the text's first move may have `12...`; both
-- are the same tokens (game_numbered), by induction on the moves.
use Rattle.std.proofs.Common.{◌≡◌, ℕ, true, false, ◌&&◌, ◌==◌, List, [], ◌∷◌, ◌++◌, length, refl, sym, ap, ◌∙◌, append_assoc, arith, codes, decimal, not}
use Rattle.std.proofs.lemmas.Bool.Decides.{nat_tests}
use Rattle.chess_base.specs.{declared.man.Colour.Colour, declared.man.Colour.TheVariants.White, declared.man.Colour.TheVariants.Black, declared.man.Move.Move, declared.setup.Setup.Setup, Men.same_colour, Moves.after, Options.list_if}
use Rattle.chess_game.specs.{Game.State, Game.outcome_now, Results.outcome_text}
use Rattle.chess_text.specs.San.{san}
use Rattle.pgn_writer.specs.{GameText.move_tokens, GameText.game_tokens, shared.NumberedMoves.number_if_due, shared.NumberedMoves.numbered_moves}

-- before a move that is not the text's first there is a number only for White
later_number : (c : Colour) (n : ℕ)
    → number_if_due c false n ≡ list_if (same_colour c White) ((decimal n ++ codes ".") ∷ [])
later_number White n = refl
later_number Black n = refl

-- moves after the text's first have the tokens of the definition
later_moves : (p : Setup) (ms : List Move) → numbered_moves false p ms ≡ move_tokens p ms
later_moves p [] = refl
later_moves p (m ∷ ms) =
    append_assoc (number_if_due p.side false p.fullmove) (san p m ∷ []) (numbered_moves false (after p m) ms)
    ∙ ap (λ number. number ++ san p m ∷ numbered_moves false (after p m) ms) (later_number p.side p.fullmove)
    ∙ ap (λ tokens. list_if (same_colour p.side White) ((decimal p.fullmove ++ codes ".") ∷ []) ++ san p m ∷ tokens)
    (later_moves (after p m) ms)

-- the number before the first of these moves, from this position on, if Black makes it
abbrev first_number : Setup → List Move → List (List ℕ)
first_number p ms =
    list_if (same_colour p.side Black && not (length ms == 0)) ((decimal p.fullmove ++ codes "...") ∷ [])

-- moves from the text's first on have these, after the first number
all_moves : (p : Setup) (ms : List Move) → numbered_moves true p ms ≡ first_number p ms ++ move_tokens p ms
all_moves p [] = by_colour p.side
  where
    by_colour : (c : Colour)
        → [] ≡ list_if (same_colour c Black && false) ((decimal p.fullmove ++ codes "...") ∷ []) ++ []
    by_colour White = refl
    by_colour Black = refl
all_moves p (m ∷ ms) =
    by_colour p.side
    ∙ ap (λ b. list_if (same_colour p.side Black && not b) ((decimal p.fullmove ++ codes "...") ∷ [])
    ++ move_tokens p (m ∷ ms)) (sym some)
  where
    some : (length (m ∷ ms) == 0) ≡ false
    some = grind (arith, nat_tests)

    by_colour : (c : Colour) → (number_if_due c true p.fullmove ++ san p m ∷ []) ++ numbered_moves false (after p m) ms
        ≡ list_if (same_colour c Black && true) ((decimal p.fullmove ++ codes "...") ∷ [])
        ++ (list_if (same_colour c White) ((decimal p.fullmove ++ codes ".") ∷ []) ++ san p m
        ∷ move_tokens (after p m) ms)
    by_colour White = ap (λ tokens. (decimal p.fullmove ++ codes ".") ∷ san p m ∷ tokens) (later_moves (after p m) ms)
    by_colour Black = ap (λ tokens. (decimal p.fullmove ++ codes "...") ∷ san p m ∷ tokens) (later_moves (after p m) ms)

pub game_numbered : (s : State)
    → game_tokens s ≡ numbered_moves true s.start s.moves ++ outcome_text (outcome_now s) ∷ []
game_numbered s =
    sym (ap (λ tokens. tokens ++ outcome_text (outcome_now s) ∷ []) (all_moves s.start s.moves)
    ∙ append_assoc (first_number s.start s.moves) (move_tokens s.start s.moves)
    (outcome_text (outcome_now s) ∷ []))
