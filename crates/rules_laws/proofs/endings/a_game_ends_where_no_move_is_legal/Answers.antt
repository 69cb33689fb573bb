-- The verdict is mate or stalemate exactly where no move is legal, by whether there is check (NoMove).
use Rattle.rules_laws.proofs.NoMove.{no_move_ends}
use Rattle.rules_laws.proofs.endings.a_game_ends_where_no_move_is_legal.Goals as goal

pub returns : goal.returns
returns c = no_move_ends
