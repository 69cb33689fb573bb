-- A game of normal chess only: each definition restates one of chess_base or chess_game, but none takes a variant.
-- Names may differ: `normal_verdict` restates `verdict`, but `normal_rep` restates `repetition_count`.
use Rattle.std.specs.Prelude.{ℕ, ◌==◌, nat_le, Bool, ◌&&◌, ◌||◌, if◌then◌else◌, List, [], ◌∷◌, length, count_by, Option, None, Some, is_some}
use Rattle.std.specs.List.{list_any}
use Rattle.std.specs.Option.{option_map, option_map_or, option_or}
use Rattle.chess_base.specs.declared.man.Colour.TheVariants.{White}
use Rattle.chess_base.specs.declared.man.Move.{Move}
use Rattle.chess_base.specs.declared.man.Variant.TheVariants.{Normal}
use Rattle.chess_base.specs.declared.setup.Setup.{Setup}
use Rattle.chess_base.specs.Attacks.{is_in_check}
use Rattle.chess_base.specs.ByColour.{by_colour}
use Rattle.chess_base.specs.Initial.{initial_men}
use Rattle.chess_base.specs.Men.{other, same_colour}
use Rattle.chess_base.specs.Moves.{is_en_passant}
use Rattle.chess_base_laws.specs.Normal.{normal_after}
use Rattle.chess_text_laws.specs.Normal.{normal_moves}
use Rattle.chess_game.specs.declared.verdicts.Claims.{Claims}
use Rattle.chess_game.specs.declared.verdicts.Verdict.{Verdict}
use Rattle.chess_game.specs.declared.verdicts.Verdict.TheVariants.{WhiteMates, BlackMates, Stalemate, InsufficientMaterial, FivefoldRepetition, SeventyFiveMoves}
use Rattle.chess_game.specs.declared.results.Outcome.{Outcome}
use Rattle.chess_game.specs.declared.results.Outcome.TheVariants.{Unfinished}
use Rattle.chess_game.specs.Ends.{has_insufficient_material, verdict_result}
use Rattle.chess_game.specs.Game.{State}
use Rattle.chess_game.specs.Same.{same_men, same_rights, same_square}

-- the initial position of normal chess; rights to castle name the rook's square (h1 is 7, a8 is 56)
unfoldable pub normal_initial : Setup
normal_initial = record {
  variant = Normal;
  men = initial_men;
  side = White;
  rights = record {
    white = record { king_side = Some 7; queen_side = Some 0 };
    black = record { king_side = Some 63; queen_side = Some 56 };
  };
  target = None;
  halfmove = 0;
  fullmove = 1;
}

-- ---- the line

-- the positions of a game: `start`, and the one after each move, in order
abbrev pub normal_line : Setup → List Move → List Setup
normal_line start [] = start ∷ []
normal_line start (m ∷ ms) = start ∷ normal_line (normal_after start m) ms

-- the position after these moves, made from `start` on
abbrev pub normal_last : Setup → List Move → Setup
normal_last start [] = start
normal_last start (m ∷ ms) = normal_last (normal_after start m) ms

-- the current position of a game
abbrev pub normal_current : State → Setup
normal_current s = normal_last s.start s.moves

-- ---- repetition

-- the en passant square of the position `p`, if some legal move captures en passant; otherwise `None`
unfoldable pub normal_legal_en_passant_square : Setup → Option ℕ
normal_legal_en_passant_square p = if list_any (λ m. is_en_passant p m) (normal_moves p) then p.target else None

-- whether two positions are the same (Laws, article 9.2.3): side to move, pieces, rights to castle, en passant capture
unfoldable pub normal_same : Setup → Setup → Bool
normal_same p q =
    same_colour p.side q.side && same_men p.men q.men && same_rights p.rights q.rights
    && same_square (normal_legal_en_passant_square p) (normal_legal_en_passant_square q)

-- how often the position after the moves `ms` occurred in the game from `start` on, itself included
unfoldable pub normal_rep : Setup → List Move → ℕ
normal_rep start ms = count_by (λ p. normal_same p (normal_last start ms)) (normal_line start ms)

-- ---- ends

-- the board's verdict after the moves `ms` from `start` on: the first of mate or stalemate, insufficient material,
-- fivefold repetition, 75 moves; `None` if none holds
unfoldable pub normal_verdict : Setup → List Move → Option Verdict
normal_verdict start ms =
    let p = normal_last start ms in
    if length (normal_moves p) == 0
    then Some (if is_in_check p.men p.side then by_colour WhiteMates BlackMates (other p.side) else Stalemate)
    else if has_insufficient_material p.men then Some InsufficientMaterial
    else if nat_le 5 (normal_rep start ms) then Some FivefoldRepetition
    else if nat_le 150 p.halfmove then Some SeventyFiveMoves
    else None

-- which draws can be claimed after the moves `ms` from `start` on: threefold repetition, 50 moves
abbrev pub normal_claims : Setup → List Move → Claims
normal_claims start ms = record {
  threefold = nat_le 3 (normal_rep start ms);
  fifty_moves = nat_le 100 (normal_last start ms).halfmove;
}

-- the board's verdict on a game, if it has one
abbrev pub normal_verdict_now : State → Option Verdict
normal_verdict_now s = normal_verdict s.start s.moves

-- whether a game is over, by a verdict or a declared result
abbrev pub normal_is_over : State → Bool
normal_is_over s = is_some (normal_verdict_now s) || is_some s.declared

-- the outcome of a game: that of the board's verdict, otherwise of the declared result, otherwise `Unfinished`
abbrev pub normal_outcome_now : State → Outcome
normal_outcome_now s =
    option_map_or (λ d. d.outcome) (option_or (option_map verdict_result (normal_verdict_now s)) s.declared) Unfinished
