-- The first 256 bytes of a longer line are those sliced; of a shorter one they are all.
use Rattle.std.proofs.Common.{sym, arith, length-take-le, take_all}
use Rattle.pgn_pieces.proofs.line_kinds.first_bytes.Goals as goal

pub slice_bounds-result-end : goal.slice_bounds-result-end
slice_bounds-result-end c =
    let many = c.if-line-gt-FRONT_LEN.true in sym (length-take-le 256 c.args.line.now (omega (arith, many)))

pub returns : goal.returns
returns c = let few = c.if-line-gt-FRONT_LEN.false in sym (take_all 256 c.args.line.now (omega (arith, few)))
