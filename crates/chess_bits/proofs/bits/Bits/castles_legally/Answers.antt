-- What `castles` requires: king and rook each start and end on one rank, as in each castling of a sound position
-- (on_rank of CastlingBySets).
use Rattle.chess_bits.proofs.CastlingBySets.{on_rank}
use Rattle.chess_bits.proofs.bits.Bits.castles_legally.Goals as goal

pub castles-requires-clause-kings : goal.castles-requires-clause-kings
castles-requires-clause-kings c =
    (on_rank c.args.self.now c.args.m.now c.args.castle.now c.setup-sound.ensures.sound c.requires.castle).kings

pub castles-requires-clause-rooks : goal.castles-requires-clause-rooks
castles-requires-clause-rooks c =
    (on_rank c.args.self.now c.args.m.now c.args.castle.now c.setup-sound.ensures.sound c.requires.castle).rooks
