-- SAN has two to seven bytes, each one that SAN may have, the first a letter: SanLaw shows it of castling's text and of
-- the text of a piece's parts, each with one mark after it at most.
use Rattle.chess_text.proofs.SanLaw.{san_short, san_bytes, san_letter}
use Rattle.chess_text.proofs.laws.san_is_a_word.Goals as goal

pub returns-clause-short : goal.returns-clause-short
returns-clause-short c = san_short

pub returns-clause-bytes : goal.returns-clause-bytes
returns-clause-bytes c = san_bytes

pub returns-clause-letter : goal.returns-clause-letter
returns-clause-letter c = san_letter
