-- Clause none: a text that begins with another byte than `/` has no slash to read, and so no next rank (no_stroke of
-- proofs/Placing).
use Rattle.chess_fen.proofs.Placing.{no_stroke}
use Rattle.chess_fen.proofs.placement.after_slash.Goals as goal

pub returns-else-first-eq47-clause-none : goal.returns-else-first-eq47-clause-none
returns-else-first-eq47-clause-none c = no_stroke c.args.text.now c.if-first-eq47.false
