-- The clause `legal`: each move in the list is legal, since the list is `moves`, a filter that keeps of all moves the
-- legal ones.
use Rattle.std.proofs.lemmas.List.Elements.{filter_passes}
use Rattle.chess_base.specs.{Moves.is_legal, MoveList.moves, MoveList.all_moves}
use Rattle.chess_moves.proofs.legal.legal_moves.Goals as goal

pub returns-clause-legal : goal.returns-clause-legal
unfolding moves
returns-clause-legal c =
    rw (c.legal_moves.ensures, c.setup.ensures.value) (filter_passes (λ m. is_legal c.args.position.now m) all_moves)
