-- How the board ends a game, and what a player may claim (Laws of Chess 2023, articles 5, 9.2, 9.3 and 9.6).
use Rattle.std.specs.Prelude.{ℕ, ◌+◌, ◌%◌, ◌++◌, ◌==◌, nat_le, Bool, false, not, ◌&&◌, ◌||◌, if◌then◌else◌, List, length, count_by, codes, Option, None, Some}
use Rattle.std.specs.List.{list_any}
use Rattle.std.specs.Option.{option_map_or}
use Rattle.chess_base.specs.declared.man.Kind.{Kind}
use Rattle.chess_base.specs.declared.man.Kind.TheVariants.{Queen, Rook, Bishop, Knight, Pawn}
use Rattle.chess_base.specs.declared.man.Man.{Man}
use Rattle.chess_base.specs.declared.man.Move.{Move}
use Rattle.chess_base.specs.declared.setup.Setup.{Setup}
use Rattle.chess_base.specs.Attacks.{is_in_check}
use Rattle.chess_base.specs.ByColour.{by_colour}
use Rattle.chess_base.specs.Men.{Men, man_at, other, same_kind}
use Rattle.chess_base.specs.MoveList.{moves}
use Rattle.chess_base.specs.Squares.{file, rank, some_square}
use Rattle.chess_game.specs.Line.{position_after}
use Rattle.chess_game.specs.Results.{outcome_text}
use Rattle.chess_game.specs.Same.{repetition_count}
use Rattle.chess_game.specs.declared.results.Declared.{Declared}
use Rattle.chess_game.specs.declared.results.Outcome.TheVariants.{WhiteWins, BlackWins, Draw}
use Rattle.chess_game.specs.declared.verdicts.Verdict.{Verdict}
use Rattle.chess_game.specs.declared.verdicts.Verdict.TheVariants.{WhiteMates, BlackMates, Stalemate, InsufficientMaterial, FivefoldRepetition, SeventyFiveMoves}
use Rattle.chess_game.specs.declared.verdicts.Claims.{Claims}
use Rattle.chess_game.specs.declared.verdicts.DrawClaim.{DrawClaim}
use Rattle.chess_game.specs.declared.verdicts.DrawClaim.TheVariants.{Threefold, FiftyMoves}

-- a square's content o is a piece of kind k, of either colour
abbrev pub is_kind : Kind → Option Man → Bool
is_kind k o = option_map_or (λ x. same_kind k x.kind) o false

-- some bishop, of either side, is on a black square (as a1) for parity 0, on a white one for 1 (2.1)
unfoldable pub has_bishop_on : ℕ → Men → Bool
has_bishop_on parity men = some_square (λ s. ((file s + rank s) % 2 == parity) && is_kind Bishop (man_at men s))

-- besides the kings there is at most one bishop or knight in all, or there are only bishops, on squares of one colour:
-- no moves lead to mate (5.2.2). Other dead positions are not found
unfoldable pub has_insufficient_material : Men → Bool
has_insufficient_material men = not (list_any (λ o. is_kind Pawn o || is_kind Rook o || is_kind Queen o) men)
    && (nat_le (count_by (λ o. is_kind Bishop o || is_kind Knight o) men) 1 || (not (list_any (is_kind Knight) men)
    && not (has_bishop_on 0 men && has_bishop_on 1 men)))

-- why the board ends the game from `start` by the moves ms: the first that holds of mate (5.1.1) or stalemate (5.2.1),
-- insufficient material (5.2.2), fivefold repetition (9.6.1), and 75 moves of each side without a pawn move or capture
-- (9.6.2), by the halfmove clock, which continues from that of `start`; otherwise `None`
unfoldable pub verdict : Setup → List Move → Option Verdict
verdict start ms = let p = position_after start ms in
    if length (moves p) == 0
    then Some (if is_in_check p.men p.side then by_colour WhiteMates BlackMates (other p.side) else Stalemate)
    else if has_insufficient_material p.men then Some InsufficientMaterial
    else if nat_le 5 (repetition_count start ms) then Some FivefoldRepetition
    else if nat_le 150 p.halfmove then Some SeventyFiveMoves
    else None

-- a result as text: `1-0 {White mates}`; with an empty comment `1-0 {}`
unfoldable pub result_text : Declared → List ℕ
result_text d = outcome_text d.outcome ++ (codes " {" ++ (d.comment ++ codes "}"))

-- a verdict's result: outcome and comment
abbrev pub verdict_result : Verdict → Declared
verdict_result WhiteMates = record { outcome = WhiteWins; comment = codes "White mates" }
verdict_result BlackMates = record { outcome = BlackWins; comment = codes "Black mates" }
verdict_result Stalemate = record { outcome = Draw; comment = codes "Stalemate" }
verdict_result InsufficientMaterial = record { outcome = Draw; comment = codes "Insufficient material" }
verdict_result FivefoldRepetition = record { outcome = Draw; comment = codes "Fivefold repetition" }
verdict_result SeventyFiveMoves = record { outcome = Draw; comment = codes "75-move rule" }

-- which draws the player on move may claim after the moves ms from `start`, even if the game is over: by threefold
-- repetition (9.2.2), and by 50 moves of each side without a pawn move or capture (9.3.2), by the halfmove clock as in
-- `verdict`. Claims with a move yet to be made (9.2.1, 9.3.1) are not included
abbrev pub claims : Setup → List Move → Claims
claims start ms = record {
  threefold = nat_le 3 (repetition_count start ms);
  fifty_moves = nat_le 100 (position_after start ms).halfmove;
}

-- the claim by which a draw is declared, threefold repetition first; `None` if none holds
abbrev pub draw_claim : Claims → Option DrawClaim
draw_claim c = if c.threefold then Some Threefold else if c.fifty_moves then Some FiftyMoves else None

-- the comment on a draw claimed for this reason
abbrev pub claim_comment : DrawClaim → List ℕ
claim_comment Threefold = codes "Threefold repetition"
claim_comment FiftyMoves = codes "50-move rule"
