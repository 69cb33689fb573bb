-- The clause `within`: each fault of a game's line, also in its variations, is in the text (LinesRead.fault_within).
use Rattle.std.proofs.Common.{length, sym, subst, true}
use Rattle.chess_pgn.specs.declared.variations.TheConstants.{MOST_NESTED}
use Rattle.chess_pgn.proofs.LinesRead.{InText, fault_within, of_error}
use Rattle.chess_pgn.proofs.variations.read_variations.Goals as goal

pub returns-clause-within : goal.returns-clause-within
returns-clause-within g c =
    of_error (length c.args.text.now) c.read_line.result
    (subst (InText (length c.args.text.now)) (sym c.read_line.ensures)
    (fault_within true MOST_NESTED c.args.text.now c.args.start.now c.args.at))
