-- If the engine was killed, the line that says so is logged; otherwise nothing is.
use Rattle.std.proofs.Common.{ℕ, Bool, List, ◌++◌, subst, sym, codes, decimal}
use Rattle.chess_base.specs.Options.{list_if}
use Rattle.chess_match.specs.Reasons.{colour_name}
use Rattle.match_runner.specs.{Games.killed_line, Log.Logged, Log.log_seen}
use Rattle.match_runner.proofs.Logged.{line_logged, logs_none}
use Rattle.match_runner.proofs.log.Log.note_if_killed.Goals as goal

pub returns-then-killed : goal.returns-then-killed
returns-then-killed g c =
    let start : List ℕ = codes "arbiter: game " ++ decimal c.args.number ++ codes ": " ++ colour_name c.args.side
    ++ codes " did not exit, and was killed" in
    subst (λ (killed : Bool). Logged (log_seen (g.E.Output.seen c.args.self.now.output) c.args.self.now.broken)
    (log_seen (g.E.Output.seen c.add_killed.new.output) c.add_killed.new.self.broken)
    (list_if killed (killed_line c.args.number c.args.side))) (sym c.if-killed.true)
    (line_logged _ _ _ _ _ start c.new-line.ensures.broken c.new-line.ensures.bytes c.add_killed.ensures.nothing
    c.add_killed.ensures.adds)

pub returns-else-killed : goal.returns-else-killed
returns-else-killed g c =
    subst (λ (killed : Bool). Logged (log_seen (g.E.Output.seen c.args.self.now.output) c.args.self.now.broken)
    (log_seen (g.E.Output.seen c.args.self.now.output) c.args.self.now.broken)
    (list_if killed (killed_line c.args.number c.args.side))) (sym c.if-killed.false)
    (logs_none (log_seen (g.E.Output.seen c.args.self.now.output) c.args.self.now.broken))
