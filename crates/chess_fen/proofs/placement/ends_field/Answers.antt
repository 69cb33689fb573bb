-- A text that isn't empty ends the field exactly if its first byte is a space (ends_at of proofs/Placing).
use Rattle.chess_fen.proofs.Placing.{ends_at}
use Rattle.chess_fen.proofs.placement.ends_field.Goals as goal

pub returns-in-len1-up : goal.returns-in-len1-up
returns-in-len1-up c = ends_at c.args.text.now c.in-len1-up.len_at_least
