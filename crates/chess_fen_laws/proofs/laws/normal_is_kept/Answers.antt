-- In normal chess FENs are read and written as by the definitions for normal chess alone (reading_kept of NormalRead,
-- fen_kept of NormalWritten).
use Rattle.chess_fen_laws.proofs.{NormalRead.reading_kept, NormalWritten.fen_kept}
use Rattle.chess_fen_laws.proofs.laws.normal_is_kept.Goals as goal

pub returns-clause-read : goal.returns-clause-read
returns-clause-read c = reading_kept

pub returns-clause-written : goal.returns-clause-written
returns-clause-written c = fen_kept
