-- On each square with a pawn, the result is whether that pawn advances to `to`: to an occupied square none does
-- (none_onto of PawnStarts), to an empty one by one step, or by two from its home rank if the square between is empty
-- too (advances_are).
use mathlib.Core.Bool.{not-not}
use Rattle.std.proofs.Common.{◌≡◌, ◌<◌, ◌==◌, ◌||◌, false, true, not, is_none, sym, ap, subst, ◌∙◌}
use Rattle.chess_base.specs.{Men.man_at, Squares.rank, Sound.no_pawn_on_end_ranks}
use Rattle.chess_base.proofs.shared.Squares.{each_square-at}
use Rattle.chess_bits.proofs.{OriginsOf.off_lowest, PawnStarts.none_onto, PawnStarts.advances_are}
use Rattle.chess_moves.specs.Sets.{contains}
use Rattle.chess_bits.proofs.bits.Bits.advance_starts.Goals as goal

pub returns-then-contains : goal.returns-then-contains
returns-then-contains c = λ k low pawn.
    let p = c.self.inside.setup in
    let high : c.args.to < 64 = subst (λ n. n < 64) c.number-end.ensures.value c.number-end.ensures.in_range in
    let full = (c.occupied-occupied.ensures p.men c.self.invariant.1).of_men c.args.to high in
    let there : is_none (man_at p.men c.args.to) ≡ false =
    sym (not-not (is_none (man_at p.men c.args.to)))
    ∙ ap not (sym full ∙ sym c.contains.ensures ∙ c.if-contains.true) in
    rw (← c.self.view_is) (c.empty.ensures k ∙ none_onto p c.args.to k there)

pub returns : goal.returns
unfolding no_pawn_on_end_ranks
returns c = λ k low pawn.
    let p = c.self.inside.setup in
    let own = rw (← c.self.view_is) at pawn in
    let high : c.args.to < 64 = subst (λ n. n < 64) c.number-end.ensures.value c.number-end.ensures.in_range in
    let full = (c.occupied-occupied.ensures p.men c.self.invariant.1).of_men in
    let bare : is_none (man_at p.men c.args.to) ≡ true =
    sym (not-not (is_none (man_at p.men c.args.to)))
    ∙ ap not (sym (full c.args.to high) ∙ sym c.contains.ensures ∙ c.if-contains.false) in
    rw (← c.self.view_is)
    (advances_are p c.args.to k c.single.result c.behind-once.result c.without-crossed.result c.behind-twice.result
    c.of_rank-home.result c.union.result c.occupied-occupied.result high low
    (off_lowest p.men p.side k own (each_square-at _ c.self.invariant.0.pawns k low)) own bare full
    c.single.ensures.value c.behind-once.ensures c.without-crossed.ensures c.behind-twice.ensures
    (λ j l. c.of_rank-home.ensures j l ∙ ap (λ n. rank j == n) c.pawn_rank.ensures)
    (c.union.ensures k ∙ ap (λ t. contains c.behind-once.result k || t) (c.intersection.ensures k)))
