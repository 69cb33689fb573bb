-- In positions of normal chess the legal moves, what a text is read as, SAN and the texts in lists of moves are those
-- of the definitions for normal chess only (NormalTexts).
use Rattle.chess_text_laws.proofs.NormalTexts.{normal_kept}
use Rattle.chess_text_laws.proofs.laws.normal_is_kept.Goals as goal

pub returns : goal.returns
returns c = normal_kept
