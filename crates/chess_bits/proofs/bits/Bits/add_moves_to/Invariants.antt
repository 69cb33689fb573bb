-- The loop's invariant: the list so far, followed by the legal moves to the squares in `targets`, is the list as it
-- was, followed by all legal moves from the start; and the piece goes to each square in `targets`. The measure is the
-- number of squares in `targets`.
use Rattle.std.proofs.Common.{◌≡◌, ◌++◌, length, true, flat_map}
use Rattle.chess_moves.specs.{shared.MovesBySquares.moves_between, shared.MovesBySquares.moves_from, Sets.members}
use Rattle.chess_bits.specs.ties.Goes.{goes}
use Rattle.chess_bits.proofs.Listed.{Each}
use Rattle.chess_bits.proofs.bits.Bits.add_moves_to.Given as goal

abbrev pub invariant-loop-to : goal.invariant-loop-to
invariant-loop-to l = record {
  moves : l.list.items ++ flat_map (λ b. moves_between l.self l.from b) (members l.targets) ≡ l.initial.list.items
      ++ moves_from l.self l.from;
  goes : Each (λ b. goes l.self l.from b ≡ true) (members l.targets);
}

abbrev pub decreases-loop-to : goal.decreases-loop-to
decreases-loop-to l = length (members l.targets)
