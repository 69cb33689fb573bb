-- The blocks of an event were sent as `Delivered` says, by cases. In a match that is over both sides are sent their end
-- lines, White first, whichever side the event is about (`send_last`). Otherwise the first write fails, or the second,
-- or neither; for each case there is a lemma of Deliveries.
use Rattle.std.proofs.Common.{◌≡◌, [], ap, refl, sym, ◌∙◌, true, false}
use Rattle.chess_base.specs.{declared.man.Colour.Colour, declared.man.Colour.TheVariants.White, declared.man.Colour.TheVariants.Black, Men.other}
use Rattle.chess_match.specs.{Acts.block_of, Acts.is_over, Lines.bytes_of, Effects.answers_to, ties.Driving.giving}
use Rattle.chess_match.proofs.Deliveries.{delivered_both, delivered_broken, first_failed, first_sent, last_failed, none_failed, none_sent, second_failed}
use Rattle.chess_match.proofs.{Leading.over_first, Passings.passed_as, Passings.passed_more, Sends.no_answers_of}
use Rattle.chess_match.proofs.run.deliver.Goals as goal

pub returns-in-White-clause-delivered : goal.returns-in-White-clause-delivered
returns-in-White-clause-delivered g c r items e p goes own none written =
    let is = c.in-White.is in
    let over = ap is_over goes.stands.phase ∙ sym c.is_over.ensures ∙ c.if-is_over.true in
    let h = c.send_last.ensures.sent r items e p goes (own ∙ ap (λ (X : Colour). bytes_of (answers_to (items X))) is)
    (no_answers_of _ (items Black) c.requires.empty (ap (λ (X : Colour). items (other X)) (sym is) ∙ none)) in
    delivered_both r _ _ _ _ e c.args.side White _ _ _ goes.stands written (over_first c.args.side e true over)
    (λ on. let no : false ≡ true = sym on ∙ over in absurd cc) h.0 (λ x. (over, h.1 White x))
    (λ x. (over, h.1 Black x)) (last_failed _ _)

pub returns-in-Black-clause-delivered : goal.returns-in-Black-clause-delivered
returns-in-Black-clause-delivered g c r items e p goes own none written =
    let is = c.in-Black.is in
    let over = ap is_over goes.stands.phase ∙ sym c.is_over.ensures ∙ c.if-is_over.true in
    let h = c.send_last-in-Black.ensures.sent r items e p goes
    (no_answers_of _ (items White) c.requires.empty (ap (λ (X : Colour). items (other X)) (sym is) ∙ none))
    (own ∙ ap (λ (X : Colour). bytes_of (answers_to (items X))) is) in
    delivered_both r _ _ _ _ e c.args.side White _ _ _ goes.stands written (over_first c.args.side e true over)
    (λ on. let no : false ≡ true = sym on ∙ over in absurd cc) h.0 (λ x. (over, h.1 White x))
    (λ x. (over, h.1 Black x)) (last_failed _ _)

pub returns-then-note_and_send-clause-delivered : goal.returns-then-note_and_send-clause-delivered
returns-then-note_and_send-clause-delivered g c r items e p goes own none written =
    let S : Colour = c.args.side in
    let on = ap is_over goes.stands.phase ∙ sym c.is_over.ensures ∙ c.if-is_over.false in
    let h = c.if-note_and_send.ensures.sends r items e p goes own in
    let end = c.end_for_other-others_failed.ensures.ended r e.after p goes.stands in
    delivered_broken r _ _ _ _ e S S c.end_for_other-others_failed.result [] (block_of (other S) (e.to (other S))) _ on
    (h.1 refl) (none_sent r e.after _) (end.0, passed_more _ _ _ _ _ h.0 end.1, end.2)
    (λ X. first_failed S _ X ∙ sym (c.in_turn.ensures X))

pub returns-then-note_and_send-2-clause-delivered : goal.returns-then-note_and_send-2-clause-delivered
returns-then-note_and_send-2-clause-delivered g c r items e p goes own none written =
    let S : Colour = c.args.side in
    let on = ap is_over goes.stands.phase ∙ sym c.is_over.ensures ∙ c.if-is_over.false in
    let is = c.other-other_side.ensures in
    let first = c.if-note_and_send.ensures.sends r items e p goes own in
    let h = c.if-note_and_send-2.ensures.sends r items e p goes
    (no_answers_of _ (items c.other-other_side.result) c.requires.empty (ap items is ∙ none)) in
    let end = c.end_for_other-own_failed.ensures.ended r e.after p goes.stands in
    delivered_broken r _ _ _ _ e S c.other-other_side.result c.end_for_other-own_failed.result
    (giving false S (e.to S)) [] _ on (h.1 refl) (first_sent r e.after e.to S _ is)
    (end.0, passed_more _ _ _ _ _ first.0 (passed_more _ _ _ _ _ h.0 end.1), end.2)
    (λ X. second_failed S _ _ is X ∙ sym (c.in_turn-then-note_and_send-2.ensures X))

pub returns-clause-delivered : goal.returns-clause-delivered
returns-clause-delivered g c r items e p goes own none written =
    let on = ap is_over goes.stands.phase ∙ sym c.is_over.ensures ∙ c.if-is_over.false in
    let is = c.other-other_side.ensures in
    let first = c.if-note_and_send.ensures.sends r items e p goes own in
    let h = c.if-note_and_send-2.ensures.sends r items e p goes
    (no_answers_of _ (items c.other-other_side.result) c.requires.empty (ap items is ∙ none)) in
    delivered_both r _ _ _ _ e c.args.side c.args.side false false _ goes.stands written
    (over_first c.args.side e false on) (λ x X. sym (none_failed X))
    (passed_more _ _ _ _ _ first.0 (passed_as _ _ _ _ (ap (λ (X : Colour). giving false X (e.to X)) is) h.0))
    (λ x. absurd cc) (λ x. absurd cc) none_failed
