-- The loop's invariant: all lines so far were answered, and none of them ended the server (RunLemmas.SoFar). An answer
-- more keeps that (RunLemmas.go_on), and each way out has a lemma on what passed at the devices (RunLemmas.by_line and
-- those after it).
use Rattle.std.proofs.{Common.[], Common.subst, Common.sym, lemmas.Result.err_from_is_err_and}
use Rattle.text_lines.specs.Lines.{Held}
use Rattle.byte_devices.specs.declared.traits.ReadFault.{ReadFault}
use Rattle.chess_cecp.proofs.RunLemmas.{SoFar, start, reached, go_on, by_line, by_write, by_last, by_end, by_read, over_said, on_said}
use Rattle.chess_cecp.proofs.run.serve_lines.Goals as goal

pub loop-server-init : goal.loop-server-init
loop-server-init g c =
    let r = g.R.Input.seen c.args.reader.now in
    let w = g.W.Output.seen c.args.writer.now in
    let P : Held → Type 0 = λ v. SoFar g.S.LineServer.respond r r w w c.args.server.now c.args.server.now v [] [] in
    ([], [], subst P (sym c.new-lines.ensures) (start g.S.LineServer.respond r w c.args.server.now))

pub returns-then-not-branch : goal.returns-then-not-branch
returns-then-not-branch g c =
    let n = rw c.if-not-branch.true at c.in_ok-read_line.ensures.next in by_end c.loop-server.invariant.2 ReadFault n

pub returns-in_err-read_line : goal.returns-in_err-read_line
returns-in_err-read_line g c =
    let p = err_from_is_err_and c.from_residual.result c.from_residual.ensures.1 in
    rw (p.1, p.2) (by_read c.loop-server.invariant.2 c.in_err-read_line.field-0.0 c.in_err-read_line.ensures.next)

pub returns-in-Quit : goal.returns-in-Quit
returns-in-Quit g c =
    let n = rw c.if-not-branch.false at c.in_ok-read_line.ensures.next in
    by_line c.loop-server.invariant.2 c.read_line.new.line
    (reached c.loop-server.invariant.2 ReadFault _ c.read_line.new.line n)
    c.in_ok-answer_line.ensures.written c.in_ok-answer_line.ensures.next
    (over_said _ c.in_ok-answer_line.field-0 c.in_ok-answer_line.ensures.go c.in-Quit.is)

pub returns-in_err-answer_line : goal.returns-in_err-answer_line
returns-in_err-answer_line g c =
    let n = rw c.if-not-branch.false at c.in_ok-read_line.ensures.next in
    let p = err_from_is_err_and c.from_residual-in_err-answer_line.result c.from_residual-in_err-answer_line.ensures.1
    in
    rw (p.1, p.2) (by_write c.loop-server.invariant.2 c.read_line.new.line
    (reached c.loop-server.invariant.2 ReadFault _ c.read_line.new.line n)
    c.in_err-answer_line.ensures.written c.in_err-answer_line.ensures.next)

pub returns-then-not-is_ended : goal.returns-then-not-is_ended
returns-then-not-is_ended g c =
    let n = rw c.if-not-branch.false at c.in_ok-read_line.ensures.next in
    let h = c.if-not-is_ended.ensures in
    by_last c.loop-server.invariant.2 ReadFault _ c.read_line.new.line n (sym h)
    c.in_ok-answer_line.ensures.written c.in_ok-answer_line.ensures.next
    (on_said _ c.in_ok-answer_line.field-0 c.in_ok-answer_line.ensures.go c.in-On.is)

pub loop-server-preserved : goal.loop-server-preserved
loop-server-preserved g c =
    let n = rw c.if-not-branch.false at c.in_ok-read_line.ensures.next in
    let h = c.if-not-is_ended.ensures in
    let on = go_on c.loop-server.invariant.2 ReadFault {held' = c.read_line.new.self} c.read_line.new.line n (sym h)
    c.in_ok-answer_line.ensures.written c.in_ok-answer_line.ensures.next
    (on_said _ c.in_ok-answer_line.field-0 c.in_ok-answer_line.ensures.go c.in-On.is) in
    (on.0, _, on.1)
