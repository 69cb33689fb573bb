-- Positions that are the same would have equal hashes (hashes_differ of EqualHashes).
use Rattle.chess_game.proofs.EqualHashes.{hashes_differ}
use Rattle.chess_game.proofs.repetition.Hashed.hash_differs.Goals as goal

pub returns : goal.returns
returns c = λ differ. hashes_differ c.requires.0 c.args.self.now c.args.other.now
    c.halfmove-this.ensures.sound
    c.halfmove-that.ensures.sound c.requires.1 c.requires.2 differ
