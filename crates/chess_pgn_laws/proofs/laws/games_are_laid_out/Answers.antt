-- A written game has the stated form (FullLines), and no other text has it (only_written of pgn_writer's GameTexts).
use Rattle.chess_pgn_laws.proofs.FullLines.{written}
use Rattle.pgn_writer.proofs.shared.GameTexts.{only_written}
use Rattle.chess_pgn_laws.proofs.laws.games_are_laid_out.Goals as goal

pub returns-clause-written : goal.returns-clause-written
returns-clause-written c = written

pub returns-clause-no_other : goal.returns-clause-no_other
returns-clause-no_other c = only_written
