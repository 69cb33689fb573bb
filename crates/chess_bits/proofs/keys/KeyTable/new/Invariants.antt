-- The loop's invariant: at each index before `number` is the Zobrist key with that number.
use Rattle.std.proofs.Common.{◌≡◌, ℕ, ◌<◌, length, get_or}
use Rattle.chess_moves.specs.PositionHash.{key}
use Rattle.chess_bits.proofs.keys.KeyTable.new.Given as goal

abbrev pub invariant-loop-number : goal.invariant-loop-number
invariant-loop-number l = record {
  long : length l.keys ≡ 785;
  so_far : (n : ℕ) → n < l.number → get_or l.keys n 0 ≡ key n;
}
