-- The result is whether no square between a and b, which are on one line, is occupied: the table has the squares
-- between them (open_between of BetweenSquares).
use Rattle.std.proofs.Common.{◌<◌, subst}
use Rattle.chess_bits.proofs.BetweenSquares.{open_between}
use Rattle.chess_bits.proofs.sliding.is_open.Goals as goal

pub returns : goal.returns
returns c =
    let first : c.args.a < 64 = subst (λ n. n < 64) c.number-a.ensures.value c.number-a.ensures.in_range in
    let second : c.args.b < 64 = subst (λ n. n < 64) c.number-b.ensures.value c.number-b.ensures.in_range in
    open_between c.args.occupied c.args.a c.args.b c.intersection.result c.between-between.result c.is_empty.result
    first second c.requires c.between-between.ensures c.intersection.ensures c.is_empty.ensures.none
