-- Clause value, by what `read_setup` gives: a position, judged by `Position::new`, or the fault of a field; either is
-- the definition's reading (judged-read, refused-read of RightsAlike), also where a right is named wrongly.
use Rattle.chess_fen.proofs.RightsAlike.{judged-read, refused-read}
use Rattle.chess_fen.proofs.reading.denoted_position.Goals as goal

pub returns-in-Ok-clause-value : goal.returns-in-Ok-clause-value
returns-in-Ok-clause-value c =
    judged-read c.args.variant c.args.text.now c.in-Ok.setup c.new.result c.in-Ok.ensures c.new.ensures.sound
    c.new.ensures.value c.new.ensures.fault

pub returns-in-Err-clause-value : goal.returns-in-Err-clause-value
returns-in-Err-clause-value c = refused-read c.args.variant c.args.text.now c.in-Err.fault c.in-Err.ensures
