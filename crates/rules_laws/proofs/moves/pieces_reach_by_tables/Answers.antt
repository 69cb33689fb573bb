-- On any board, knights and kings, and pawns of each colour, could capture just on the squares that the tables list, by
-- computation over all squares (Reach).
use Rattle.rules_laws.proofs.Reach.{tables_hold}
use Rattle.rules_laws.proofs.moves.pieces_reach_by_tables.Goals as goal

pub returns : goal.returns
returns c = tables_hold
