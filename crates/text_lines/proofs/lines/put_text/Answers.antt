-- Neither the first 64 bytes of a text nor its trimmed text is longer than the text, which has at most N bytes. So the
-- line has room for them, and the branch `unreachable!()` is never taken.
use Rattle.std.proofs.Common.{arith, ◌≤◌, ◌+◌, length, ap, IsOk}
use Rattle.text_lines.proofs.lines.put_text.Goals as goal
use Rattle.text_lines.proofs.lines.put_text.Goals.{then-is_too_long, else-is_too_long}

pub unreachable-requires : goal.unreachable-requires
unreachable-requires g c =
    let came = c.requires in
    let fits : length c.if-is_too_long.kept.now ≤ g.row.N = elim c.if-is_too_long.branch [
      | then-is_too_long w ↦ let f = w.beginning-kept.ensures.short in rw w.kept-is (omega (arith, came))
      | else-is_too_long w ↦ let f = w.trim-kept.ensures.short in rw w.kept-is (omega (arith, came))
    ] in
    let room : length c.clear.new.self.items + length c.if-is_too_long.kept.now ≤ g.row.N =
    omega (arith, ap length c.clear.ensures) in
    let ok : IsOk c.try_extend_from_slice.result = c.try_extend_from_slice.ensures.variant.1 room in
    let n = c.if-is_err.ensures.negation in
    cc (ok, n)
