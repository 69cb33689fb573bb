-- A level whose numbers are in range is parsed back from its text (LevelTexts.level_back), and so is one that was
-- parsed, since its numbers are in range (LevelRanges.read_back).
use Rattle.chess_match_laws.proofs.{LevelRanges.read_back, LevelTexts.level_back}
use Rattle.chess_match_laws.proofs.levels.levels_are_parsed_back.Goals as goal

pub returns-clause-parsed : goal.returns-clause-parsed
returns-clause-parsed c = read_back

pub returns-clause-ranges : goal.returns-clause-ranges
returns-clause-ranges c = level_back
