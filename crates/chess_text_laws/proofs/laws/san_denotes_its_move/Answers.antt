-- Castling to a side is one move; a pawn's file, end and promotion fix its move; what is written of another piece's
-- start distinguishes it from all rivals. So one legal move alone fits; the text has a move's shape by its parts, and
-- is read as that move (SanLaw of chess_text).
use Rattle.chess_text.proofs.shared.San.{san_alone, san_shape, san_read}
use Rattle.chess_text_laws.proofs.laws.san_denotes_its_move.Goals as goal

pub returns-clause-denotes : goal.returns-clause-denotes
returns-clause-denotes c = san_alone

pub returns-clause-shape : goal.returns-clause-shape
returns-clause-shape c = san_shape

pub returns-clause-read_back : goal.returns-clause-read_back
returns-clause-read_back c = san_read
