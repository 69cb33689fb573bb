-- The loop's invariant (SoFar): the lines so far were answered, and the server ended with none of them. The measure is
-- `work`, which counts the reads that may still come and the bytes held; each line returned makes it smaller.
use Rattle.std.proofs.Common.{List, ℕ}
use Rattle.text_lines.specs.{Lines.LineSeen, Next.work}
use Rattle.chess_cecp.proofs.RunLemmas.{SoFar}
use Rattle.chess_cecp.proofs.run.serve_lines.Given as goal

abbrev pub invariant-loop-server : goal.invariant-loop-server
invariant-loop-server g l =
    let input = g.R.Input.seen in
    let output = g.W.Output.seen in
    (given : List ℕ) × (done : List LineSeen) × SoFar g.S.LineServer.respond (input l.fn.reader) (input l.reader)
    (output l.fn.writer) (output l.writer) l.fn.server l.server l.lines given done

abbrev pub decreases-loop-server : goal.decreases-loop-server
decreases-loop-server g l = work (g.R.Input.seen l.reader) l.lines
