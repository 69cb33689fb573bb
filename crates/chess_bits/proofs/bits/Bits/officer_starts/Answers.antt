-- The result has just the legal starts (`HasLegalStarts`). Nothing goes to an own piece's square (own_on_end of
-- ByKind). To another square a piece can go if its kind would attack it from there, by a move that `safe_starts` may be
-- asked for (starts_plain); the legal ones among these are all (officer_starts_are).
use Rattle.std.proofs.Common.{◌≡◌, ◌<◌, true, false, sym, ap, subst, ◌∙◌}
use Rattle.chess_base.specs.Men.{man_at, is_of}
use Rattle.chess_moves.specs.Sets.{contains}
use Rattle.chess_bits.proofs.ByKind.{own_on_end, starts_plain, officer_starts_are}
use Rattle.chess_bits.proofs.bits.Bits.officer_starts.Goals as goal

pub returns-then-contains : goal.returns-then-contains
returns-then-contains c = λ k low.
    let p = c.self.inside.setup in
    let high : c.args.to < 64 = subst (λ n. n < 64) c.number-end.ensures.value c.number-end.ensures.in_range in
    let own : is_of p.side (man_at p.men c.args.to) ≡ true =
    sym (c.all.ensures p.men c.self.invariant.1 c.args.to high) ∙ sym c.contains.ensures ∙ c.if-contains.true in
    rw (← c.self.view_is) (c.empty.ensures k ∙ own_on_end p c.args.kind c.args.to k c.requires own high low)

pub safe_starts-requires : goal.safe_starts-requires
safe_starts-requires c =
    let p = c.self.inside.setup in
    let high : c.args.to < 64 = subst (λ n. n < 64) c.number-end.ensures.value c.number-end.ensures.in_range in
    let free : is_of p.side (man_at p.men c.args.to) ≡ false =
    sym (c.all.ensures p.men c.self.invariant.1 c.args.to high) ∙ sym c.contains.ensures ∙ c.if-contains.false in
    let kinds = c.of.ensures p.men c.self.invariant.1 in
    rw (← c.self.view_is)
    (starts_plain p c.args.kind c.args.to c.of-own.result c.reached_among-men.result c.requires free high
    (c.reached_among-men.ensures p.men p.side (c.occupied-occupied.ensures p.men c.self.invariant.1))
    (λ k low. ap (λ w. contains w k) c.of-own.ensures ∙ kinds.of_kind c.args.kind k low))

pub returns : goal.returns
returns c = λ k low.
    let p = c.self.inside.setup in
    let kinds = c.of.ensures p.men c.self.invariant.1 in
    let made = rw (← c.self.view_is) at (c.safe_starts.ensures k low) in
    rw (← c.self.view_is)
    (officer_starts_are p c.args.kind c.args.to c.of-own.result c.reached_among-men.result k
    (contains c.safe_starts.result k) c.requires
    (c.reached_among-men.ensures p.men p.side (c.occupied-occupied.ensures p.men c.self.invariant.1))
    (λ j l. ap (λ w. contains w j) c.of-own.ensures ∙ kinds.of_kind c.args.kind j l) low made)
