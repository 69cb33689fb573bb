-- The last played move holds the position at the end of the line (at_end of Kept); without moves that is the start.
use Rattle.std.proofs.Common.{◌≡◌, ◌<◌, length, sym, ap, arith}
use Rattle.std.proofs.{lemmas.List.nil_from_length, lemmas.Grind.common_steps}
use Rattle.chess_game.specs.{Line.position_after, ties.PlayedMoves.moves_of}
use Rattle.chess_game.proofs.Kept.{at_end}
use Rattle.chess_game.proofs.game.last_position.Goals as goal

pub returns-then-is_empty : goal.returns-then-is_empty
returns-then-is_empty c =
    let none : length c.args.played_moves.now ≡ 0 = grind (arith, common_steps) in
    ap (λ xs. position_after c.args.start.now.position (moves_of xs))
    (sym (nil_from_length c.args.played_moves.now none))

pub returns-else-is_empty : goal.returns-else-is_empty
returns-else-is_empty c =
    let some : 0 < length c.args.played_moves.now = grind (arith, common_steps) in
    (at_end c.args.start.now.position c.args.played_moves.now c.index-played_moves-played_moves.result c.requires
    some).reached
