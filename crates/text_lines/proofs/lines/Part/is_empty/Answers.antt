-- A line that is too long has some bytes, so false is right for it (long_has_bytes of LineParts).
use Rattle.text_lines.proofs.LineParts.{long_has_bytes}
use Rattle.text_lines.proofs.lines.Part.is_empty.Goals as goal

pub returns-then-self : goal.returns-then-self
returns-then-self g c =
    long_has_bytes c.self.inside.bytes.items c.args.self.now c.self.inside.is_too_long c.self.view_is c.if-self.true
