-- A word is passed over exactly if it is of any kind but `Move` (PassedWords.passed_by_kind): one goal for each kind.
use Rattle.std.proofs.Common.{◌∙◌, ap}
use Rattle.chess_pgn.proofs.PassedWords.{passes, passed_by_kind}
use Rattle.chess_pgn.proofs.variations.is_passed.Goals as goal

pub returns-in-Move : goal.returns-in-Move
returns-in-Move c = ap passes c.in-Move.ensures ∙ passed_by_kind c.args.word.now

pub returns-in-End : goal.returns-in-End
returns-in-End c = ap passes c.in-End.ensures ∙ passed_by_kind c.args.word.now

pub returns-in-Number : goal.returns-in-Number
returns-in-Number c = ap passes c.in-Number.ensures ∙ passed_by_kind c.args.word.now

pub returns-in-Marks : goal.returns-in-Marks
returns-in-Marks c = ap passes c.in-Marks.ensures ∙ passed_by_kind c.args.word.now
