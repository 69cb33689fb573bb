-- A piece of the kind is on the board exactly if the set of the squares of that kind isn't empty (some_of_kind of
-- SomeKind).
use Rattle.chess_game.proofs.SomeKind.{some_of_kind}
use Rattle.chess_game.proofs.verdicts.has_kind.Goals as goal

pub returns : goal.returns
returns g c =
    rw c.is_empty.ensures.none
    (some_of_kind (g.B.Board.position c.args.board.now) c.args.kind c.squares_of.result c.requires c.squares_of.ensures)
