-- In a sound position the side to which a move castles, and its four squares, are those that the move's start and end
-- square name (same_side and same_castle of chess_base's shared/CastlingNamed).
use Rattle.chess_base.proofs.shared.CastlingNamed.{same_side, same_castle}
use Rattle.chess_base_laws.proofs.laws.castling_is_named.Goals as goal

pub returns : goal.returns
returns c = λ p m sound. record { side = same_side p m sound; squares = same_castle p m sound }
