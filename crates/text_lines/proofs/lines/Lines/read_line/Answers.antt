-- A round that held no whole line and then read a piece keeps the invariant: the bytes held still give the lines of all
-- bytes since the call (Reading.piece_on). If the read gave no byte, the input has ended, and the line that has begun,
-- if any, is the last one (Reading.at_the_end).
use Rattle.std.proofs.Common.{arith, sym, subst, None, ◌∙◌}
use Rattle.byte_devices.specs.declared.traits.ReadFault.{ReadFault}
use Rattle.text_lines.specs.{Lines.Held, ties.Kept.HeldLine}
use Rattle.text_lines.proofs.Reading.{piece_on, at_the_end}
use Rattle.std.proofs.lemmas.List.{nil_from_length}
use Rattle.text_lines.proofs.lines.Lines.read_line.Goals as goal

pub returns-then-branch-eq0-clause-next : goal.returns-then-branch-eq0-clause-next
returns-then-branch-eq0-clause-next g c =
    let seen = g.R.Input.seen in
    let P : Held → Type 0 = λ v. HeldLine g.row.N c.loop-self.self v None in
    let none = subst P (sym c.self.view_is) (rw c.if-held_line.false at c.held_line.ensures.held) in
    at_the_end ReadFault g.row.N (seen c.args.reader.now) (seen c.loop-self.reader) (seen c.fill.new.reader)
    c.args.self.now c.loop-self.self _ c.last_line.new.self c.loop-self.invariant.0 c.fill.new.self c.last_line.new.line
    c.last_line.result c.loop-self.invariant.1 none c.in_ok-fill.ensures.2
    (nil_from_length c.fill.new.self (sym c.in_ok-fill.ensures.0 ∙ c.if-branch-eq0.true)) c.last_line.ensures.some
    c.last_line.ensures.line c.last_line.ensures.held

pub loop-self-preserved : goal.loop-self-preserved
loop-self-preserved g c =
    let seen = g.R.Input.seen in
    let P : Held → Type 0 = λ v. HeldLine g.row.N c.loop-self.self v None in
    let none = subst P (sym c.self.view_is) (rw c.if-held_line.false at c.held_line.ensures.held) in
    let some = c.if-branch-eq0.false in (
      _,
      piece_on g.row.N (seen c.args.reader.now) (seen c.loop-self.reader) (seen c.fill.new.reader) c.args.self.now
          c.loop-self.self _ c.loop-self.invariant.0 c.fill.new.self c.loop-self.invariant.1 none c.in_ok-fill.ensures.2
          (omega (arith, c.in_ok-fill.ensures.0)) (omega (arith, c.in_ok-fill.ensures.0, c.in_ok-fill.ensures.1)),
      c.held_line.ensures.kept c.if-held_line.false ∙ c.loop-self.invariant.2,
    )
