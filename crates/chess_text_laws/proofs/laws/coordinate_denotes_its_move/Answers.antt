-- The text names start, end and promotion, so its parts fit one legal move alone and have a form of a move's text; a
-- text of this shape that denotes one legal move alone is read as it (CoordinateLaw of chess_text).
use Rattle.chess_text.proofs.shared.Denoting.{coordinate_alone, coordinate_shape, coordinate_read}
use Rattle.chess_text_laws.proofs.laws.coordinate_denotes_its_move.Goals as goal

pub returns-clause-denotes : goal.returns-clause-denotes
returns-clause-denotes c = λ p m sound legal. coordinate_alone p m legal

pub returns-clause-shape : goal.returns-clause-shape
returns-clause-shape c = λ p m sound legal. coordinate_shape p m legal

pub returns-clause-read_back : goal.returns-clause-read_back
returns-clause-read_back c = λ p m sound legal. coordinate_read p m legal
