-- Three cases, the same in core and match, since their open offers are: the other's offer is open (a draw is agreed),
-- only the side's own is (the offer is ignored), or neither. Then the side's offer is opened, and the other engine is
-- sent it if it takes draws, by the features kept of it as by its items (CoreSteps.offered_goes).
use Rattle.std.proofs.Common.{◌≡◌, true, false, ◌∙◌, ap, codes}
use Rattle.chess_base.specs.Men.{other}
use Rattle.cecp_engine.specs.{Items.takes, declared.features.Features.Features}
use Rattle.chess_match.proofs.CoreSteps.{features-draw, kept, offered_goes}
use Rattle.chess_match.proofs.state.MatchState.offer.Goals as goal

pub returns-then-offers : goal.returns-then-offers
returns-then-offers c r played m on s =
    let k = kept r _ played m s (other c.args.side) in
    let o : (m.seat (other c.args.side)).offers ≡ true = cc in
    rw o (c.finish.ensures r played m on s)

pub returns-then-offers-2 : goal.returns-then-offers-2
returns-then-offers-2 c r played m on s =
    let k = kept r _ played m s (other c.args.side) in
    let o : (m.seat (other c.args.side)).offers ≡ false = cc in
    let k2 = kept r _ played m s c.args.side in
    let o2 : (m.seat c.args.side).offers ≡ true = cc in
    rw (o, o2) (c.ignore.ensures r played m on s)

pub returns : goal.returns
returns c r played m on s =
    let k = kept r _ played m s (other c.args.side) in
    let o : (m.seat (other c.args.side)).offers ≡ false = cc in
    let k2 = kept r _ played m s c.args.side in
    let o2 : (m.seat c.args.side).offers ≡ false = cc in
    let f = ap (λ (x : Features). x.draw) k.features ∙ features-draw (m.seat (other c.args.side)).items in
    let t : takes (codes "draw") (m.seat (other c.args.side)).items ≡ c.accepts_draw_offers-draws.result = cc in
    rw (o, o2, c.note_offer.ensures, c.then_some.ensures, c.other-other.ensures)
    (offered_goes r c.args.self.now played c.args.side m c.accepts_draw_offers-draws.result s t)
