-- Each element of the new table is 0, which says that the bucket is empty; so no position is in the index.
use Rattle.std.proofs.{Common.ℕ, Common.subst, Common.sym, lemmas.List.get_or-replicate, lemmas.List.length-replicate}
use Rattle.chess_game.specs.ties.Buckets.{IsEmpty}
use Rattle.chess_game.proofs.index.Index.open.Goals as goal

pub returns : goal.returns
returns c =
    let all = c.in_ok-vec.ensures.items_if_clones_equal (λ y e. e) in
    subst IsEmpty (sym all) (record {
      buckets = length-replicate {A = ℕ} 32768 0;
      none = λ b h. get_or-replicate {A = ℕ} 32768 b 0 0 h;
    })
