-- The eight squares of the rank are still empty, as `read_rank` requires, since they and all before them are
-- (rank_empty of proofs/Placing).
use Rattle.chess_fen.proofs.Placing.{rank_empty}
use Rattle.chess_fen.proofs.placement.place_rank.Goals as goal

pub read_rank-requires : goal.read_rank-requires
read_rank-requires c = record { empty = rank_empty c.args.rank c.args.men.now c.requires.empty }
