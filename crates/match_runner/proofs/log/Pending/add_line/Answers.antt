-- The head of the line, its text and its `\n` are logged one after another (Logged.adds_more).
use Rattle.std.proofs.Common.{ℕ, List, [], ◌∷◌, ◌++◌, map}
use Rattle.byte_devices.specs.Bytes.{shown_byte}
use Rattle.match_runner.specs.ties.Logging.{line_head}
use Rattle.match_runner.proofs.Logged.{adds_more}
use Rattle.match_runner.proofs.log.Pending.add_line.Goals as goal

pub returns-clause-adds : goal.returns-clause-adds
returns-clause-adds g c =
    let front : List ℕ = line_head c.args.moment c.args.mark c.args.is_first in
    let text : List ℕ = map shown_byte c.args.text.now in
    adds_more _ _ _ _ _ _ (front ++ text) (10 ∷ [])
    (adds_more _ _ _ _ _ _ front text c.add_head.ensures c.add_shown.ensures) c.add.ensures.adds
