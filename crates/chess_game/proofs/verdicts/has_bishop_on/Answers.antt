-- The loop ends at 64, so by its invariant `is_found` is whether a bishop is on a square of that colour with a number
-- below 64; these are all squares of the board (some_square_is of Squares).
use Rattle.std.proofs.Common.{◌≡◌, ◌∙◌, sym, arith}
use Rattle.chess_game.specs.Ends.{has_bishop_on}
use Rattle.chess_base.proofs.shared.Squares.{some_square_is}
use Rattle.chess_game.proofs.verdicts.has_bishop_on.Goals as goal

pub returns : goal.returns
unfolding has_bishop_on
returns c =
    let all : c.loop-number.number ≡ 64 = omega arith in
    (rw all at c.loop-number.invariant) ∙ sym (some_square_is _)
