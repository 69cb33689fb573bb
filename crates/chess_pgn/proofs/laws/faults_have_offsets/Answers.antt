-- A fault's offset is in the text and not before where reading began: by induction on the tokens
-- (FaultPlaces.fault_in_place).
use Rattle.chess_pgn.proofs.FaultPlaces.{fault_in_place}
use Rattle.chess_pgn.proofs.laws.faults_have_offsets.Goals as goal

pub returns : goal.returns
returns c = fault_in_place
