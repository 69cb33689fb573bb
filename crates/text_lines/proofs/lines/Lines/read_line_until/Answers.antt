-- As in `read_line`, a round that held no whole line and then read a piece keeps the invariant (Reading.piece_on), and
-- at the input's end the line that has begun, if any, is the last one (Reading.at_the_end). A wait that found something
-- leaves the input as it was (Reading.found); a failed read ends the call with its fault (Reading.fault_until).
use Rattle.std.proofs.Common.{arith, sym, subst, None, ◌∙◌}
use Rattle.byte_devices.specs.declared.traits.ReadFault.{ReadFault}
use Rattle.text_lines.specs.{Lines.Held, ties.Kept.HeldLine}
use Rattle.text_lines.proofs.Reading.{found, fault_until, piece_on, at_the_end}
use Rattle.std.proofs.lemmas.List.{nil_from_length}
use Rattle.text_lines.proofs.lines.Lines.read_line_until.Goals as goal

pub returns-in_err-fill-clause-next : goal.returns-in_err-fill-clause-next
returns-in_err-fill-clause-next g c =
    let seen = g.R.Input.seen in
    let P : Held → Type 0 = λ v. HeldLine g.row.N c.loop-until.self v None in
    let none = subst P (sym c.self.view_is) (rw c.if-held_line.false at c.held_line.ensures.held) in
    let so_far = found g.row.N (seen c.args.reader.now) (seen c.loop-until.reader) (seen c.wait.new.self)
    c.args.self.now c.loop-until.self c.loop-until.invariant.0 c.wait.result c.if-not-wait.false c.wait.ensures
    c.loop-until.invariant.1 in
    fault_until g.row.N (seen c.args.reader.now) (seen c.wait.new.self) (seen c.fill.new.reader) c.args.self.now
    c.loop-until.self _ c.loop-until.invariant.0 c.fill.new.self c.from_residual.result c.held_line.new.line so_far none
    c.in_err-fill.ensures.0 c.in_err-fill.ensures.1 c.from_residual.ensures.0

pub returns-then-branch-eq0-clause-next : goal.returns-then-branch-eq0-clause-next
returns-then-branch-eq0-clause-next g c =
    let seen = g.R.Input.seen in
    let P : Held → Type 0 = λ v. HeldLine g.row.N c.loop-until.self v None in
    let none = subst P (sym c.self.view_is) (rw c.if-held_line.false at c.held_line.ensures.held) in
    let so_far = found g.row.N (seen c.args.reader.now) (seen c.loop-until.reader) (seen c.wait.new.self)
    c.args.self.now c.loop-until.self c.loop-until.invariant.0 c.wait.result c.if-not-wait.false c.wait.ensures
    c.loop-until.invariant.1 in
    at_the_end ReadFault g.row.N (seen c.args.reader.now) (seen c.wait.new.self) (seen c.fill.new.reader)
    c.args.self.now c.loop-until.self _ c.last_line.new.self c.loop-until.invariant.0 c.fill.new.self
    c.last_line.new.line c.last_line.result so_far none c.in_ok-fill.ensures.2
    (nil_from_length c.fill.new.self (sym c.in_ok-fill.ensures.0 ∙ c.if-branch-eq0.true)) c.last_line.ensures.some
    c.last_line.ensures.line c.last_line.ensures.held

pub loop-until-preserved : goal.loop-until-preserved
loop-until-preserved g c =
    let seen = g.R.Input.seen in
    let P : Held → Type 0 = λ v. HeldLine g.row.N c.loop-until.self v None in
    let none = subst P (sym c.self.view_is) (rw c.if-held_line.false at c.held_line.ensures.held) in
    let so_far = found g.row.N (seen c.args.reader.now) (seen c.loop-until.reader) (seen c.wait.new.self)
    c.args.self.now c.loop-until.self c.loop-until.invariant.0 c.wait.result c.if-not-wait.false c.wait.ensures
    c.loop-until.invariant.1 in
    let some = c.if-branch-eq0.false in (
      _,
      piece_on g.row.N (seen c.args.reader.now) (seen c.wait.new.self) (seen c.fill.new.reader) c.args.self.now
          c.loop-until.self _ c.loop-until.invariant.0 c.fill.new.self so_far none c.in_ok-fill.ensures.2
          (omega (arith, c.in_ok-fill.ensures.0)) (omega (arith, c.in_ok-fill.ensures.0, c.in_ok-fill.ensures.1)),
      c.held_line.ensures.kept c.if-held_line.false ∙ c.loop-until.invariant.2,
    )
