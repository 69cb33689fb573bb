-- The loop logs the lines of the text one by one. At first nothing is logged and `rest` is the whole text; a turn logs
-- the first line of `rest` (Logged.given_more); at the end `rest` is empty, so all is logged (Logged.given_all).
use Rattle.std.proofs.Common.{◌≡◌, ℕ, List, [], ◌++◌, ◌∙◌, length, refl, subst, sym, true, ◌==◌}
use Rattle.byte_devices.specs.Bytes.{byte}
use Rattle.chess_base.specs.declared.man.Colour.{Colour}
use Rattle.match_runner.specs.Log.{Logged, engine_name, log_line, log_seen}
use Rattle.match_runner.proofs.Logged.{given_all, given_more, logged_more, logs_none}
use Rattle.match_runner.proofs.log.Log.note_given.Goals as goal

pub loop-rest-init : goal.loop-rest-init
loop-rest-init g c = (
  [],
  logs_none (log_seen (g.E.Output.seen c.args.self.now.output) c.args.self.now.broken),
  refl,
  refl,
  refl,
)

pub loop-rest-preserved : goal.loop-rest-preserved
loop-rest-preserved g c =
    let (done, logged, is, first, moment) = c.loop-rest.invariant in
    let line : List ℕ = c.split_line.result.0.now in
    let old = log_seen (g.E.Output.seen c.args.self.now.output) c.args.self.now.broken in
    let mid = log_seen (g.E.Output.seen c.loop-rest.self.output) c.loop-rest.self.broken in
    let new = log_seen (g.E.Output.seen c.add_line.new.self.output) c.add_line.new.self.broken in
    let text = λ (m : ℕ) (f : Colour). log_line m (byte ">") (engine_name f c.args.side) line in (
      done ++ text c.args.self.now.moment c.args.self.now.first,
      logged_more old mid new done (text c.args.self.now.moment c.args.self.now.first) logged
          (subst (λ (m : ℕ). Logged mid new (text m c.args.self.now.first)) moment
          (subst (λ (f : Colour). Logged mid new (text c.loop-rest.self.moment f)) first c.add_line.ensures.logged)),
      given_more c.args.self.now.first c.args.side c.args.self.now.moment c.loop-rest.rest.now line
          c.split_line.result.1.now _ done c.split_line.ensures.lines is,
      c.add_line.ensures.first ∙ first,
      c.add_line.ensures.moment ∙ moment,
    )

pub returns : goal.returns
returns g c =
    let (done, logged, is, first, moment) = c.loop-rest.invariant in
    let old = log_seen (g.E.Output.seen c.args.self.now.output) c.args.self.now.broken in
    let new = log_seen (g.E.Output.seen c.loop-rest.self.output) c.loop-rest.self.broken in
    let none : (length c.loop-rest.rest.now == 0) ≡ true = sym c.loop-rest-test.ensures in
    record {
      logs = (
        subst (λ (t : List ℕ). Logged old new t)
            (given_all c.args.self.now.first c.args.side c.args.self.now.moment c.loop-rest.rest.now _ done none is)
            logged,
        first,
        moment,
      );
    }
