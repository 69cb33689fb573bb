-- The legal move is in the list of the board's position (some_legal of chess_moves' LegalMoves), so that list isn't
-- empty.
use Rattle.chess_moves.proofs.shared.LegalMoves.{some_legal}
use Rattle.chess_game.proofs.game.Game.verdict_of_moving.Goals as goal

pub verdict_of_moving-requires : goal.verdict_of_moving-requires
verdict_of_moving-requires g c =
    let legal = c.requires in
    some_legal (g.B.Board.position c.self.inside.board) c.args.m.now
    (rw c.self.invariant.0.at_end (rw (← c.self.view_is) at legal))
