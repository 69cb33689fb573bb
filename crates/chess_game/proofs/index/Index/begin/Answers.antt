-- The start is the latest position in its bucket, and no other bucket has one (begun of Indexed).
use Rattle.chess_game.proofs.Indexed.{begun}
use Rattle.chess_game.proofs.index.Index.begin.Goals as goal

pub returns : goal.returns
returns c = begun c.args.self.now.heads.items c.args.start.now c.bucket.result c.requires c.bucket.ensures.value
