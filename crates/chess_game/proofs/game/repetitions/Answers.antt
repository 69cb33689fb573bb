-- The last played move keeps how many positions are the same as its own (rep_kept of Walk); without moves the start
-- alone is (rep_alone).
use Rattle.std.proofs.Common.{◌≡◌, ◌<◌, length, arith}
use Rattle.std.proofs.lemmas.Grind.{common_steps}
use Rattle.chess_game.proofs.Walk.{rep_alone, rep_kept}
use Rattle.chess_game.proofs.game.repetitions.Goals as goal

pub returns-then-is_empty : goal.returns-then-is_empty
returns-then-is_empty c = λ start follows entries.
    let none : length c.args.played_moves.now ≡ 0 = grind (arith, common_steps) in
    rep_alone start c.args.played_moves.now follows none

pub returns-else-is_empty : goal.returns-else-is_empty
returns-else-is_empty c = λ start follows entries.
    let some : 0 < length c.args.played_moves.now = grind (arith, common_steps) in
    rep_kept start c.args.played_moves.now c.index-played_moves-played_moves.result follows entries some
