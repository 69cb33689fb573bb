-- With a log the notes of the match are logged. Without one nothing is, but the match has notes all the same.
use Rattle.std.proofs.Common.{◌≡◌, Option, None, Some, refl, rules, subst, sym}
use Rattle.chess_base.specs.declared.man.Colour.{Colour}
use Rattle.chess_match.specs.laws.Laws.{notes_given}
use Rattle.match_runner.specs.{Games.LogsGame, Log.log_seen}
use Rattle.match_runner.proofs.host_table.relay.Goals as goal

pub returns-in_default : goal.returns-in_default
returns-in_default g c =
    let l = log_seen (g.E.Output.seen c.args.log.now.output) c.args.log.now.broken in
    let r = c.run_match.ensures.ran in
    let none : c.args.first ≡ None = search rules in
    record {
      ran = (
        r.0,
        r.1,
        subst (λ (first : Option Colour). LogsGame first l l (notes_given r.1 r.0)) (sym none) refl,
        r.2,
      );
    }

pub returns : goal.returns
returns g c =
    let l = log_seen (g.E.Output.seen c.args.log.now.output) c.args.log.now.broken in
    let l' = log_seen (g.E.Output.seen c.run_match_logged.new.log.output) c.run_match_logged.new.log.broken in
    let r = c.run_match_logged.ensures.ran in
    let some : c.args.first ≡ Some c.in-Some.first = search rules in
    record {
      ran = (
        r.0,
        r.1,
        subst (λ (first : Option Colour). LogsGame first l l' (notes_given r.1 r.0)) (sym some) r.2,
        r.3,
      );
    }
