-- A line ends at `\n` or `\r`. The search is for any of three bytes, so that one of the two is given twice
-- (PlainLengths.before_end).
use Rattle.std.proofs.Common.{◌∙◌}
use Rattle.pgn_pieces.proofs.PlainLengths.{before_end}
use Rattle.pgn_pieces.proofs.piece_end.len_before_end.Goals as goal

pub returns-clause-count : goal.returns-clause-count
returns-clause-count c = c.len_before_any.ensures.count ∙ before_end c.args.text.now
