-- A text is read only as a move of the list of legal moves, filtered by what it denotes (reads_legal of FormFacts).
use Rattle.std.proofs.Common.{sym}
use Rattle.chess_text.specs.declared.reading.Reading.TheVariants as reads
use Rattle.chess_text.proofs.FormFacts.{reads_legal}
use Rattle.chess_text.proofs.laws.read_moves_are_legal.Goals as goal

pub returns : goal.returns
returns c p text m e = reads_legal p text (reads.Move m) (sym e)
