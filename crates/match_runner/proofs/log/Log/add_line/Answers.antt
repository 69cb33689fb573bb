-- The line is logged as a whole: no byte waited before it, and none waits after its `\n` (Logged.line_logged).
use Rattle.std.proofs.Common.{Bool, [], ◌∷◌, ◌++◌, map, subst}
use Rattle.byte_devices.specs.Bytes.{new_line, shown_byte}
use Rattle.match_runner.specs.{Log.Logged, Log.log_seen, ties.Logging.line_head}
use Rattle.match_runner.proofs.Logged.{line_logged}
use Rattle.match_runner.proofs.log.Log.add_line.Goals as goal

pub returns-clause-logged : goal.returns-clause-logged
returns-clause-logged g c =
    subst (λ (first : Bool). Logged (log_seen (g.E.Output.seen c.args.self.now.output) c.args.self.now.broken)
    (log_seen (g.E.Output.seen c.add_line.new.output) c.add_line.new.self.broken)
    (line_head c.args.self.now.moment c.args.mark first ++ map shown_byte c.args.text.now ++ new_line ∷ []))
    c.same_colour-is_first.ensures
    (line_logged _ _ _ _ _ _ c.new-line.ensures.broken c.new-line.ensures.bytes c.add_line.ensures.nothing
    c.add_line.ensures.adds)
