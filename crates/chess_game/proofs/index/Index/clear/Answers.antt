-- Going back, each played move's link becomes the head of its bucket (heads_back of Indexed), and at last the start's
-- bucket is empty (cleared).
use Rattle.std.proofs.Common.{◌∙◌, ap, length, refl, arith, length-set}
use Rattle.chess_game.specs.ties.Buckets.{bucket}
use Rattle.chess_game.proofs.Indexed.{heads_back, cleared}
use Rattle.chess_game.proofs.index.Index.clear.Goals as goal

pub loop-left-preserved : goal.loop-left-preserved
loop-left-preserved c =
    let l = c.loop-left in
    let heads = l.invariant.heads in
    let played_move = c.index-played_moves-left.result in
    record {
      in_range = omega arith;
      buckets = ap length c.remove.ensures
          ∙ length-set l.self.heads.items (bucket played_move.reached) played_move.entry.earlier ∙ l.invariant.buckets;
      heads = rw c.remove.ensures
          (heads_back l.self.heads.items c.args.start.now c.args.played_moves.now l.left played_move
          (bucket played_move.reached)
          l.invariant.buckets c.requires.entries heads (omega arith) (omega arith) c.index-played_moves-left.is refl);
    }

pub returns : goal.returns
returns c =
    cleared c.loop-left.self.heads.items c.args.start.now c.args.played_moves.now c.loop-left.left c.bucket.result
    c.loop-left.invariant.buckets c.loop-left.invariant.heads (omega arith) c.bucket.ensures.value
