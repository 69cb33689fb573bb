-- The new position is made the head of its bucket, its link is the head that was there, and its count comes from
-- `count_same`: so the index is that of one move more (pushed_index of Indexed).
use Rattle.std.proofs.Common.{◌≡◌, ◌∙◌, ◌+◌, ◌<◌, suc, length, get_or, ap, sym, arith}
use Rattle.std.proofs.lemmas.Grind.{get_or_default_zero}
use Rattle.chess_game.specs.ties.Buckets.{bucket, is_same_at, count_below}
use Rattle.chess_game.proofs.Indexed.{pushed_index}
use Rattle.chess_game.proofs.index.Index.push.Goals as goal

pub returns : goal.returns
returns c = λ x reached entry.
    let table = c.args.self.now.heads.items in
    let xs = c.args.played_moves.now in
    let at : c.bucket-number.result ≡ bucket x.reached = c.bucket-number.ensures.value ∙ ap bucket (sym reached) in
    let low : c.bucket-number.result < length table =
    omega (arith, c.requires.indexed.buckets, c.bucket-number.ensures.low) in
    let head : x.entry.earlier ≡ get_or table (bucket x.reached) 0 = ap (λ m. m.earlier) entry ∙ c.index-head.ensures
    ∙ get_or_default_zero table c.bucket-number.result c.index-head.result.now low ∙ ap (λ n. get_or table n 0) at in
    let counted : x.entry.count
    ≡ suc (count_below (is_same_at c.args.start.now xs x.reached.position) (suc (length xs))) =
    ap (λ m. m.count) entry ∙ c.count_same-count.ensures
    ∙ ap (λ k. suc (count_below (is_same_at c.args.start.now xs k.position) (suc (length xs)))) (sym reached) in
    pushed_index table c.args.start.now xs x c.bucket-number.result (length xs + 2) c.requires.indexed at
    (omega arith) head counted
