-- Some of the squares is on the file exactly if their set and the set of the file's squares have one in common
-- (some_met of Rivals).
use Rattle.std.proofs.Common.{◌==◌}
use Rattle.chess_base.specs.Squares.{file}
use Rattle.chess_text.proofs.Rivals.{some_met}
use Rattle.chess_text.proofs.writing.some_on_file.Goals as goal

pub returns : goal.returns
returns c =
    some_met c.args.squares c.of_file.result c.intersection.result (λ s. file s == c.args.file) c.is_empty.result
    c.intersection.ensures c.of_file.ensures c.is_empty.ensures.none
