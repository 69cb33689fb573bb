-- The loop's invariant: whatever is read next, what is held now gives the same lines as what was held at the call, with
-- the bytes `given` since then (SoFar of Reading); and `line` is as it was. What decreases is the number of reads that
-- can still succeed, since each round that goes on reads once.
use Rattle.std.proofs.Common.{◌≡◌, List, ℕ}
use Rattle.text_lines.proofs.Reading.{SoFar}
use Rattle.text_lines.proofs.lines.Lines.read_line_until.Given as goal

abbrev pub invariant-loop-until : goal.invariant-loop-until
invariant-loop-until g l = let seen = g.R.Input.seen in (given : List ℕ)
    × SoFar g.row.N (seen l.fn.reader) (seen l.reader) l.fn.self l.self given
    × (l.line ≡ l.fn.line)

abbrev pub decreases-loop-until : goal.decreases-loop-until
decreases-loop-until g l = (g.R.Input.seen l.reader).pieces_left
