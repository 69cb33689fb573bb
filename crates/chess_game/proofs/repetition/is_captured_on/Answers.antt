-- Whether a capture en passant is legal is asked by the squares of pawns that may legally go to the target: such a move
-- is a capture en passant, and there is no other (some_start of EnPassant).
use Rattle.chess_game.proofs.EnPassant.{some_start}
use Rattle.chess_game.proofs.repetition.is_captured_on.Goals as goal

pub returns : goal.returns
returns g c =
    rw c.is_empty.ensures.none
    (some_start (g.B.Board.position c.args.board.now) c.args.target c.legal_starts.result c.setup-sound.ensures.sound
    c.requires c.legal_starts.ensures)
