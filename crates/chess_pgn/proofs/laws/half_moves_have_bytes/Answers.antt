-- A game has no more half-moves than bytes, since a token plays at most one half-move and has at least a byte
-- (FaultPlaces.half_moves_have_bytes).
use Rattle.chess_pgn.proofs.FaultPlaces.{half_moves_have_bytes}
use Rattle.chess_pgn.proofs.laws.half_moves_have_bytes.Goals as goal

pub returns : goal.returns
returns c = half_moves_have_bytes
