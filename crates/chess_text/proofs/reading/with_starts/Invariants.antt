-- The loop's invariant: what was found, with the denoted moves from the squares in `rest`, gives what is read of those
-- from all of `starts`. Its measure is the number of squares in `rest`.
use Rattle.std.proofs.Common.{◌≡◌, length, flat_map}
use Rattle.chess_moves.specs.Sets.{members}
use Rattle.chess_text.specs.{Moves.one_of, ties.Forms.denoted_start, ties.Forms.with_moves}
use Rattle.chess_text.proofs.reading.with_starts.Given as goal

abbrev pub invariant-loop-from : goal.invariant-loop-from
invariant-loop-from l =
    with_moves l.found (flat_map (denoted_start l.parts l.setup l.kind) (members l.rest))
    ≡ one_of (flat_map (denoted_start l.parts l.setup l.kind) (members l.fn.starts))

abbrev pub decreases-loop-from : goal.decreases-loop-from
decreases-loop-from l = length (members l.rest)
