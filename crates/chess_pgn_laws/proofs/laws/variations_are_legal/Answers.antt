-- A move that is read is legal (the law that is called), so without a fault each move of each variation is
-- (LegalVariations).
use Rattle.chess_pgn_laws.proofs.LegalVariations.{variations_legal}
use Rattle.chess_pgn_laws.proofs.laws.variations_are_legal.Goals as goal

pub returns : goal.returns
returns c = variations_legal c.read_moves_are_legal.ensures
