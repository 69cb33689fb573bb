-- The loop's invariant: the table has the heads for the start and the `left` first played moves. Its measure is `left`.
use Rattle.std.proofs.Common.{◌≡◌, ◌≤◌, length, suc}
use Rattle.chess_game.specs.{ties.Buckets.HaveHeads, declared.index.TheConstants.BUCKETS}
use Rattle.chess_game.proofs.index.Index.clear.Given as goal

abbrev pub invariant-loop-left : goal.invariant-loop-left
invariant-loop-left l = record {
  in_range : l.left ≤ length l.played_moves;
  buckets : length l.self.heads.items ≡ BUCKETS;
  heads : HaveHeads l.self.heads.items l.start l.played_moves (suc l.left);
}

abbrev pub decreases-loop-left : goal.decreases-loop-left
decreases-loop-left l = l.left
