-- The FEN that is written for a sound position denotes it and no other (fen-denoted, fen-denotes_one of chess_fen's
-- WrittenFen); so it is read back as this position, as each sound position is read from a text that denotes it
-- (reading-denoted of chess_fen's DenotedFen).
use Rattle.chess_fen.proofs.shared.Denoted.{reading-denoted, fen-denoted, fen-denotes_one}
use Rattle.chess_fen.specs.Writing.{fen}
use Rattle.chess_fen_laws.proofs.laws.written_is_denoted.Goals as goal

pub returns-clause-denotes : goal.returns-clause-denotes
returns-clause-denotes c = fen-denoted

pub returns-clause-no_other : goal.returns-clause-no_other
returns-clause-no_other c = fen-denotes_one

pub returns-clause-read_back : goal.returns-clause-read_back
returns-clause-read_back c = λ p h. reading-denoted p.variant (fen p) p (fen-denoted p h) h
