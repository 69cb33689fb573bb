-- The loop's invariant (`OnTheWay`, and what the game and the blocks are) holds once the first lines were sent. Each
-- round keeps it and makes the measure fall, by an event (OnTheWay.went_on, went_less) or by the moment of an opening
-- (OnTheWay.opened_on, opened_less); it also gives what `take_next` requires. At the end it gives the contract
-- (OnTheWay.played_at).
use Rattle.std.proofs.Common.{List, [], ◌∷◌, refl, ap, sym, ◌∙◌, subst, ℕ}
use Rattle.chess_base.specs.{declared.man.Colour.Colour, declared.man.Move.Move, declared.setup.Setup.Setup}
use Rattle.chess_game.specs.Game as game
use Rattle.chess_match.specs.{Acts.awaits_line, Effects.Match, Effects.Phase, Effects.beginning, Events.Opened, Notes.Happened, Rules.Rules, Table.ReadsClock, Table.Notes, ties.Represents.Represents, ties.Represents.nothing_said}
use Rattle.chess_match.proofs.OnTheWay.{begins, begun, limited, opened_less, opened_on, played_at, plays_anew, plays_on, rules_in, went_less, went_on}
use Rattle.chess_match.proofs.{Passings.passed_more, Sends.no_answers, StaysSane.fine_after}
use Rattle.chess_match.proofs.run.run_match_at.Goals as goal

pub events-init : goal.events-init
events-init g c =
    let r : Rules = rules_in c.args.setup.now c.args.game.now in
    let stands = subst (λ (ms : List Move). Represents r c.new-core.result ms beginning.after)
    (sym (ap (λ (x : game.Seen). x.state.moves) c.restart.ensures))
    (c.new-core.ensures.stands r refl refl refl) in (
      begun r _ _ _ _ _ (c.deliver-failed.ensures.delivered r nothing_said beginning
          (plays_anew c.args.game.now c.restart.new.self c.args.setup.now c.restart.ensures)
          (begins r _ _ c.new-core.ensures.phase stands) (no_answers _ c.new-blocks.ensures.own) refl
          (λ reason e S. absurd cc)),
      ap (λ (x : game.Seen). x.state.start) c.restart.ensures,
      ap (λ (x : game.Seen). x.limit) c.restart.ensures,
      ap (λ (x : game.Seen). x.state.declared) c.restart.ensures,
      c.deliver-failed.ensures.own_empty,
      c.deliver-failed.ensures.others_empty,
    )

pub returns-in-Nothing-clause-ran : goal.returns-in-Nothing-clause-ran
returns-in-Nothing-clause-ran g c =
    let i = c.events.invariant in
    played_at c.args.setup.now _ _ c.args.game.now c.events.game c.end_of.new.game c.events.core c.in-Nothing.reason
    c.events.failed c.end_of.result i.0 (c.in-Nothing.ensures _) c.end_of.ensures.report c.end_of.ensures.white_name
    c.end_of.ensures.black_name i.1 i.2 c.end_of.ensures.game

pub events-smaller-in-Moment : goal.events-smaller-in-Moment
events-smaller-in-Moment g c =
    let i = c.events.invariant in
    let r : Rules = rules_in c.args.setup.now c.args.game.now in
    let w = i.0.2 in
    let opens = c.in-Moment.ensures c.events.core.opened in
    opened_less _ _ c.in-Moment.side c.moment-moment.result _ _
    (c.note.ensures.left ∙ c.moment-moment.ensures.left) opens
    (c.open.ensures r _ i.0.0 (w.stands.phase ∙ opens) w.stands).phase

pub events-preserved-in-Moment : goal.events-preserved-in-Moment
events-preserved-in-Moment g c =
    let i = c.events.invariant in
    let r : Rules = rules_in c.args.setup.now c.args.game.now in
    let w = i.0.2 in
    let S : Colour = c.in-Moment.side in
    let k : ℕ = c.moment-moment.result in
    let opening = w.stands.phase ∙ c.in-Moment.ensures c.events.core.opened in (
      opened_on r _ _ _ _ _ _ _ i.0.0 i.0.1 S k w opening
          (passed_more _ _ _ (ReadsClock S k ∷ []) (Notes (Happened (Opened S k)) ∷ [])
          c.moment-moment.ensures.passes c.note.ensures.passes) (c.open.ensures r _ i.0.0 opening w.stands),
      i.1,
      i.2,
      i.3,
      i.4,
      i.5,
    )

pub take_next-given-requires-clause-sane : goal.take_next-given-requires-clause-sane
take_next-given-requires-clause-sane g c =
    let i = c.events.invariant in
    let r : Rules = rules_in c.args.setup.now c.args.game.now in
    let w = i.0.2 in (
      r,
      i.0.0,
      plays_on c.args.game.now c.events.game c.args.setup.now i.1 i.2 i.3,
      w.stands,
      w.sane,
      ap (λ (p : Phase). awaits_line p c.in-Line.side) w.stands.phase ∙ c.in-Line.ensures c.events.core.opened,
    )

pub events-smaller : goal.events-smaller
events-smaller g c =
    let i = c.events.invariant in
    let r : Rules = rules_in c.args.setup.now c.args.game.now in
    let m : Match = i.0.0 in
    let w = i.0.2 in
    let S : Colour = c.in-Line.side in
    let awaits = ap (λ (p : Phase). awaits_line p S) w.stands.phase ∙ c.in-Line.ensures c.events.core.opened in
    let plays = plays_on c.args.game.now c.events.game c.args.setup.now i.1 i.2 i.3 in
    let h = c.take_next-given.ensures.taken in
    went_less r _ _ c.events.core c.deliver-failed-in-Line.new.core _ m S h.0 _ _ _ _ _
    (c.in-Line.ensures c.events.core.opened) h.2 h.4 (λ x. (h.5 x).0)
    c.deliver-failed-in-Line.ensures.left
    (c.deliver-failed-in-Line.ensures.delivered r h.1 _ (c.take_next-given.ensures.rules r plays)
    (h.8 r m plays awaits w.stands) h.6 h.7 (fine_after r m S h.0 h.2 awaits w.sane).1)

pub events-preserved : goal.events-preserved
events-preserved g c =
    let i = c.events.invariant in
    let r : Rules = rules_in c.args.setup.now c.args.game.now in
    let m : Match = i.0.0 in
    let w = i.0.2 in
    let S : Colour = c.in-Line.side in
    let awaits = ap (λ (p : Phase). awaits_line p S) w.stands.phase ∙ c.in-Line.ensures c.events.core.opened in
    let plays = plays_on c.args.game.now c.events.game c.args.setup.now i.1 i.2 i.3 in
    let h = c.take_next-given.ensures.taken in (
      went_on r _ _ _ _ _ _ _ _ _ _ m i.0.1 S h.0 w awaits h.2 (λ x. limited r _ _ m w.stands (h.5 x).1) h.3
          (c.deliver-failed-in-Line.ensures.delivered r h.1 _ (c.take_next-given.ensures.rules r plays)
          (h.8 r m plays awaits w.stands) h.6 h.7 (fine_after r m S h.0 h.2 awaits w.sane).1),
      ap (λ (x : Setup × ℕ). x.0) c.take_next-given.ensures.origin ∙ i.1,
      ap (λ (x : Setup × ℕ). x.1) c.take_next-given.ensures.origin ∙ i.2,
      (c.take_next-given.ensures.rules r plays).4,
      c.deliver-failed-in-Line.ensures.own_empty,
      c.deliver-failed-in-Line.ensures.others_empty,
    )
