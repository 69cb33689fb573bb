-- The line of the report is written as a whole: no byte waited before it, and none waits after its `\n`
-- (Logged.line_logged).
use Rattle.std.proofs.Common.{List, ℕ, ◌++◌, codes}
use Rattle.match_runner.specs.Games.{fault_text}
use Rattle.match_runner.proofs.Logged.{line_logged}
use Rattle.match_runner.proofs.log.Log.report.Goals as goal

pub returns-clause-reports : goal.returns-clause-reports
returns-clause-reports g c =
    let start : List ℕ = codes "arbiter: " ++ fault_text c.args.fault.now in (
      c.add_report.new.self.broken,
      line_logged _ _ _ _ _ start c.new-line.ensures.broken c.new-line.ensures.bytes c.add_report.ensures.nothing
          c.add_report.ensures.adds,
    )
