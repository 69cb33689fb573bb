-- A text has a move's shape exactly if it is read as a form (shape-form of FormFacts).
use Rattle.chess_text.proofs.FormFacts.{shape-form}
use Rattle.chess_text.proofs.reading.has_move_shape.Goals as goal

pub returns : goal.returns
returns c = let e = shape-form c.args.text.now in cc
