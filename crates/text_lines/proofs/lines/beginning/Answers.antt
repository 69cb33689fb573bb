-- The slice `&text[..64]` is within the text: the front that `take 64` gives of more than 64 bytes has all 64.
use Rattle.std.proofs.Common.{arith, sym, length-take-le}
use Rattle.text_lines.proofs.lines.beginning.Goals as goal

pub slice_bounds-result-end : goal.slice_bounds-result-end
slice_bounds-result-end c = sym (length-take-le 64 c.args.text.now (omega (arith, c.if-text-gt64.true)))
