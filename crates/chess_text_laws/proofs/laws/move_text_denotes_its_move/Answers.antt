-- The text is that of the coordinates, or in Chess960 for castling that of its side: each denotes one legal move alone
-- and has a move's shape, so it is read as this move (ShownLaw).
use Rattle.chess_text_laws.proofs.ShownLaw.{shown_alone, shown_shape, shown_read}
use Rattle.chess_text_laws.proofs.laws.move_text_denotes_its_move.Goals as goal

pub returns-clause-denotes : goal.returns-clause-denotes
returns-clause-denotes c = shown_alone

pub returns-clause-shape : goal.returns-clause-shape
returns-clause-shape c = shown_shape

pub returns-clause-read_back : goal.returns-clause-read_back
returns-clause-read_back c = shown_read
