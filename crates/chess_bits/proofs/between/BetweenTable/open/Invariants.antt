-- The loop's invariant: each entry before `number`, at the index 64 a + b, has the squares between a and b, if these
-- two are on one line (`AreBetween` of BetweenSquares).
use Rattle.std.proofs.Common.{◌≡◌, length}
use Rattle.chess_bits.proofs.BetweenSquares.{AreBetween}
use Rattle.chess_bits.proofs.between.BetweenTable.open.Given as goal

abbrev pub invariant-loop-number : goal.invariant-loop-number
invariant-loop-number l = record {
  long : length l.sets.items ≡ 4096;
  so_far : AreBetween l.sets.items l.number;
}
