-- Both clocks are added first, and then the last move: the bytes of both together are those of the two lists of lines
-- put together (Sends.joined_after).
use Rattle.std.proofs.Common.{◌∙◌, ap, ◌++◌, List, ℕ}
use Rattle.chess_match.specs.{Lines.bytes_of, ties.Delivering.clocks, ties.Delivering.last_move}
use Rattle.chess_match.proofs.Sends.{joined_after}
use Rattle.chess_match.proofs.compose.add_later_opening.Goals as goal

pub returns-clause-text : goal.returns-clause-text
returns-clause-text c r played m s =
    c.add_last.ensures.text r played m s
    ∙ ap (λ (bs : List ℕ). bs ++ bytes_of (last_move r m c.args.mover)) (c.add_clocks.ensures.text r played m s)
    ∙ joined_after c.args.block.now.items (clocks r m c.args.mover) (last_move r m c.args.mover)
