-- The exit status is that of what `write_help` returned.
use Rattle.std.proofs.Common.{subst, sym}
use Rattle.chess_arbiter.specs.Program.{WritesHelp}
use Rattle.chess_arbiter.proofs.program.help.Goals as goal

pub returns : goal.returns
returns g c =
    subst (WritesHelp (g.W.Output.seen c.args.output.now) (g.W.Output.seen c.write_help.new.output))
    (sym c.status_of.ensures) c.write_help.ensures
