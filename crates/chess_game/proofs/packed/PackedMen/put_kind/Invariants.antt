-- The loop's invariant: the squares left to fill (`left`) are no more than the turns that are left of 64, and filling
-- them gives the same board as filling all squares of the set from the start (`PutsOn` of Unpacked).
use Rattle.std.proofs.Common.{◌≤◌, ◌+◌, length}
use Rattle.chess_moves.specs.Sets.{members}
use Rattle.chess_game.proofs.Unpacked.{PutsOn}
use Rattle.chess_game.proofs.packed.PackedMen.put_kind.Given as goal

abbrev pub invariant-loop-turn : goal.invariant-loop-turn
invariant-loop-turn l =
    (length (members l.left) + l._turn ≤ 64) × PutsOn l.self l.kind l.men l.left l.initial.men l.initial.left
