-- The comparison gives each of the 16 bytes a lane: 255 if it is one of the three bytes, else 0. The mask has the
-- lanes' top bits, which are those of the test `is_any` (Blocks.tops, Blocks.mask_of).
use Rattle.std.proofs.Common.{eqb, take, drop, arith}
use Rattle.std.proofs.lemmas.Simd.{length-chunk, zip2_of_maps, zip2_splat}
use Rattle.byte_devices.proofs.Blocks.{is_any, tops, mask_of}
use Rattle.byte_devices.proofs.search.mask_of_block.Goals as goal

pub returns : goal.returns
returns c =
    let block = take 16 (drop c.args.offset c.args.bytes.now) in
    let long = length-chunk c.args.offset 16 c.args.bytes.now c.requires in
    let lanes = zip2_of_maps _ _ _ block (zip2_of_maps _ _ _ block (zip2_splat _ block 16 c.args.a long)
    (zip2_splat _ block 16 c.args.b long)) (zip2_splat _ block 16 c.args.c long) in
    mask_of (is_any c.args.a c.args.b c.args.c) _ block _ lanes
    (λ x. tops (eqb x c.args.a) (eqb x c.args.b) (eqb x c.args.c)) (omega (arith, long))
