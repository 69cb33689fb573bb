-- A FEN that was written is read back (the law that is called), so `setboard` of a shown FEN begins at the position
-- shown (ShownFens).
use Rattle.chess_cecp_laws.proofs.ShownFens.{shown_fens_are_set}
use Rattle.chess_cecp_laws.proofs.game.shown_fens_are_set.Goals as goal

pub returns : goal.returns
returns c = shown_fens_are_set c.written_is_denoted.ensures.read_back
