-- The loop's invariant: the fields of `rest` from number `left` on are those of the FEN from number `number` on, which
-- are asked for. What decreases is `left`, by one for each field that is dropped.
use Rattle.std.proofs.Common.{◌≡◌, ◌≤◌, length}
use Rattle.pgn_verifier.specs.WrongParts.{from_field}
use Rattle.pgn_verifier.proofs.fen_field.from_field.Given as goal

abbrev pub invariant-loop-left : goal.invariant-loop-left
invariant-loop-left l = (from_field l.left l.rest ≡ from_field l.number l.fen) × (length l.rest ≤ length l.fen)

abbrev pub decreases-loop-left : goal.decreases-loop-left
decreases-loop-left l = l.left
