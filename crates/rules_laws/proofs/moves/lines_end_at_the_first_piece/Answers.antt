-- On one board, a rook, a bishop and a queen of either colour on d4 could capture just on the squares that the diagrams
-- mark, by computation over all squares (Sliders).
use Rattle.rules_laws.proofs.Sliders.{diagrams_hold}
use Rattle.rules_laws.proofs.moves.lines_end_at_the_first_piece.Goals as goal

pub returns : goal.returns
returns c = diagrams_hold
