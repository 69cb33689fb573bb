-- The loop's invariant: with the squares read so far, reading on in the rest of the text gives what the whole text
-- gives; the other squares of the rank are still empty (`RowSoFar` of RankBytes).
use Rattle.chess_fen.proofs.RankBytes.{RowSoFar}
use Rattle.chess_fen.proofs.rank.read_rank.Given as goal

abbrev pub invariant-loop-index : goal.invariant-loop-index
invariant-loop-index l = RowSoFar l.text l.row l.file l.index
