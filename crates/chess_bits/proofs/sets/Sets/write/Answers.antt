-- The sets are those of the list with the new content written. After `clear` the square is empty, as `fill` requires
-- (cleared of BoardSets), and of two writes to it the second one holds (set_twice).
use Rattle.std.proofs.Common.{◌≡◌, ◌<◌, length, slice_set, None, ◌∙◌, subst, length-set}
use Rattle.chess_bits.specs.ties.BoardSets.{IsSets}
use Rattle.chess_bits.proofs.BoardSets.{set_twice, cleared}
use Rattle.chess_bits.proofs.sets.Sets.write.Goals as goal

pub returns : goal.returns
returns c =
    λ men all at h.
    let low : c.args.square < 64 = subst (λ n. n < 64) c.number-bound.ensures.value c.number-bound.ensures.in_range in
    let mid = c.clear.ensures men all at h in
    let long : length (slice_set men c.args.square None) ≡ 64 = length-set men c.args.square None ∙ all in
    subst (λ v. IsSets c.fill.new.self v) (set_twice men c.args.square None c.args.new)
    (c.fill.ensures (slice_set men c.args.square None) long (cleared men c.args.square low all) mid)
