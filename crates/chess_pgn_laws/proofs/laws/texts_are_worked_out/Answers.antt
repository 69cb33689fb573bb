-- The small texts are split, read and laid out by computation (WorkedOut).
use Rattle.chess_pgn_laws.proofs.WorkedOut.{texts_are_split, texts_are_read, texts_are_laid_out}
use Rattle.chess_pgn_laws.proofs.laws.texts_are_worked_out.Goals as goal

pub returns-clause-split : goal.returns-clause-split
returns-clause-split c = texts_are_split

pub returns-clause-read : goal.returns-clause-read
returns-clause-read c = texts_are_read

pub returns-clause-laid_out : goal.returns-clause-laid_out
returns-clause-laid_out c = texts_are_laid_out
