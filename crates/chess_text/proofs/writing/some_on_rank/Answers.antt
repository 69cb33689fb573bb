-- Some of the squares is on the rank exactly if their set and the set of the rank's squares have one in common
-- (some_met of Rivals).
use Rattle.std.proofs.Common.{◌==◌}
use Rattle.chess_base.specs.Squares.{rank}
use Rattle.chess_text.proofs.Rivals.{some_met}
use Rattle.chess_text.proofs.writing.some_on_rank.Goals as goal

pub returns : goal.returns
returns c =
    some_met c.args.squares c.of_rank.result c.intersection.result (λ s. rank s == c.args.rank) c.is_empty.result
    c.intersection.ensures c.of_rank.ensures c.is_empty.ensures.none
