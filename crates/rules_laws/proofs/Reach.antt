-- On any board knights, kings and pawns could capture from each square just on those that the tables list, by
-- computation: what these pieces reach doesn't depend on the other pieces, so each table is computed for all squares at
-- once.
use Rattle.std.proofs.Common.{refl}
use Rattle.chess_base.specs.Attacks.{could_capture}
use Rattle.rules_laws.specs.Reach.{TablesHold}

pub tables_hold : TablesHold
unfolding could_capture
tables_hold men = record { knight = λ c. refl; king = λ c. refl; white_pawn = refl; black_pawn = refl }
