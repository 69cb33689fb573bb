-- The failure is noted, the core ends the match by it, and the other side is sent its end lines: the steps of these
-- calls pass one after the other.
use Rattle.std.proofs.Common.{◌<◌, length, ap, subst, ◌∙◌}
use Rattle.chess_base.specs.declared.man.Colour.{Colour}
use Rattle.chess_match.specs.{Acts.is_over, Effects.Effect, Effects.effect, Events.FailsToWrite, ties.Driving.giving, ties.Driving.steps_of, ties.Represents.nothing_said}
use Rattle.chess_match.proofs.{Passings.passed_as, Passings.passed_more, Sends.no_answers}
use Rattle.chess_match.proofs.run.end_for_other.Goals as goal

pub returns-clause-ended : goal.returns-clause-ended
returns-clause-ended g c r m p s =
    let goes = c.write_fails-given.ensures r _ m (ap is_over s.phase ∙ c.requires.on) s in
    let e : Effect = effect r m (FailsToWrite c.args.side) in
    let h = c.note_and_send.ensures.sends r nothing_said e p goes (no_answers _ c.requires.empty) in (
      goes.stands,
      passed_more _ _ _ (steps_of (FailsToWrite c.args.side)) _ c.note.ensures.passes
          (passed_as _ _ _ _ (ap (λ (S : Colour). giving c.note_and_send.result S (e.to S)) c.other.ensures) h.0),
      λ fails. subst (λ (S : Colour). 0 < length (e.to S)) c.other.ensures (h.1 fails),
    )
