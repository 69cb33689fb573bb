-- The loop's invariant: the number counted so far, and the number of legal moves of the pieces in `rest`, add up to
-- that of all the pieces; and each piece in `rest` is free and of this kind. The measure is the number of squares in
-- `rest`.
use Rattle.std.proofs.Common.{◌≡◌, ◌+◌, length, true, flat_map}
use Rattle.chess_base.specs.Men.{man_at, is_man}
use Rattle.chess_bits.specs.ties.Goes.{IsFree}
use Rattle.chess_bits.proofs.Listed.{Each}
use Rattle.chess_moves.specs.{shared.MovesBySquares.moves_from, Sets.members}
use Rattle.chess_bits.proofs.bits.Bits.count_officers.Given as goal

abbrev pub invariant-loop-from : goal.invariant-loop-from
invariant-loop-from l = record {
  all : l.count + length (flat_map (λ a. moves_from l.self a) (members l.rest))
      ≡ length (flat_map (λ a. moves_from l.self a) (members l.fn.men));
  free : Each (λ a. (is_man l.self.side l.kind (man_at l.self.men a) ≡ true) × IsFree l.self a) (members l.rest);
}

abbrev pub decreases-loop-from : goal.decreases-loop-from
decreases-loop-from l = length (members l.rest)
