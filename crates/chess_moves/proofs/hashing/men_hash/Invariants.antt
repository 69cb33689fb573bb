-- The loop's invariant: `hash` is the exclusive or of the keys of the pieces on the squares before `number`.
use Rattle.std.proofs.Common.{◌≡◌, flat_map}
use Rattle.chess_moves.specs.PositionHash.{keys_on, xor_of}
use Rattle.chess_moves.proofs.Gathered.{numbers}
use Rattle.chess_moves.proofs.hashing.men_hash.Given as goal

abbrev pub invariant-loop-number : goal.invariant-loop-number
invariant-loop-number l = l.hash ≡ xor_of (flat_map (keys_on l.men) (numbers l.number))
