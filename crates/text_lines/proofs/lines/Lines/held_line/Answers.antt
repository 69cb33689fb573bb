-- If the window has no byte 10, all its bytes go to the line that has begun (LineEnds.none_held). Otherwise those
-- before the first byte 10 do, and then the line is whole (LineEnds.line_held).
use Rattle.std.proofs.Common.{arith, ◌≡◌, ◌≤◌, ◌<◌, ◌++◌, List, ℕ, true, Some, None, length, take, ap, subst, ◌∙◌}
use Rattle.std.proofs.lemmas.List.{drop_all}
use Rattle.text_lines.specs.{Lines.Held, Lines.line_of, ties.Kept.SameLines, ties.Kept.HeldLine}
use Rattle.text_lines.proofs.LineEnds.{line_len, none_held, line_held}
use Rattle.text_lines.proofs.lines.Lines.held_line.Goals as goal

pub returns-then-len-coming-clause-held : goal.returns-then-len-coming-clause-held
returns-then-len-coming-clause-held g c =
    let n = g.row.N in
    let window = c.self.inside.window in
    let held : Held = record { part = c.self.inside.part; coming = window } in
    let all : c.len_before-len.result ≡ length window = c.if-len-coming.true ∙ ap length c.bytes-coming.ensures in
    let few : length window ≤ c.len_before-len.result = omega (arith, all) in
    let Q : List ℕ → Type 0 = λ v. SameLines n (c.self.inside.part ++ v) c.add.new.self in
    let P : Held → Type 0 = λ v. HeldLine n v (record { part = c.add.new.self; coming = c.remove.new.self }) None in
    subst P c.self.view_is
    (none_held n held c.add.new.self c.remove.new.self c.len_before-len.result
    (c.len_before-len.ensures.count ∙ ap line_len c.bytes-coming.ensures) all
    (subst Q c.bytes-coming.ensures c.add.ensures)
    (c.remove.ensures ∙ drop_all c.len_before-len.result window few))

pub returns-clause-held : goal.returns-clause-held
returns-clause-held g c =
    let n = g.row.N in
    let window = c.self.inside.window in
    let held : Held = record { part = c.self.inside.part; coming = window } in
    let all = ap length c.bytes-coming.ensures in
    let within : c.len_before-len.result < length window =
    omega (arith, all, c.if-len-coming.false, c.len_before-len.ensures.within) in
    let P : Held → Type 0 = λ v. HeldLine n v
    (record { part = c.finish_with.new.self; coming = c.remove-2.new.self }) (Some c.finish_with.new.line) in
    subst P c.self.view_is
    (line_held n held c.finish_with.new.self c.remove-2.new.self c.len_before-len.result c.finish_with.new.line
    (c.len_before-len.ensures.count ∙ ap line_len c.bytes-coming.ensures) within
    (c.finish_with.ensures.line
    ∙ ap (λ v. line_of n true (c.self.inside.part ++ take c.len_before-len.result v)) c.bytes-coming.ensures)
    c.finish_with.ensures.empty c.remove-2.ensures)
