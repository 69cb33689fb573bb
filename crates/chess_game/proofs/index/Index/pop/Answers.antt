-- The last played move's link is made the head of its bucket; then the index is that of one move fewer (popped_index of
-- Indexed).
use Rattle.std.proofs.Common.{refl}
use Rattle.chess_game.specs.ties.Buckets.{bucket}
use Rattle.chess_game.proofs.Indexed.{popped_index}
use Rattle.chess_game.proofs.index.Index.pop.Goals as goal

pub remove-requires : goal.remove-requires
remove-requires c = c.requires.2.buckets

pub returns : goal.returns
returns c = λ start xs index. rw c.remove.ensures
    (popped_index c.args.self.now.heads.items start xs c.args.played_move.now (bucket c.args.played_move.now.reached)
    index refl)
