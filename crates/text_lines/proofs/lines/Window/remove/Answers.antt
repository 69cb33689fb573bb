-- A window that begins so many bytes later is the same without its first bytes (window_left of LineEnds).
use Rattle.std.proofs.Common.{◌≤◌, length, drop, ap, ◌∙◌, slice_range}
use Rattle.text_lines.proofs.LineEnds.{window_left}
use Rattle.text_lines.proofs.lines.Window.remove.Goals as goal

pub returns : goal.returns
returns c =
    let few : c.args.count ≤ length (slice_range c.self.inside.piece c.self.inside.from c.self.inside.to) =
    rw c.self.view_is c.requires in
    window_left c.self.inside.piece c.self.inside.from c.self.inside.to c.args.count
    c.self.invariant.0 few
    ∙ ap (drop c.args.count) c.self.view_is
