-- The result has just the squares to which the pawn advances. If the square ahead is occupied, there are none (blocked
-- of TargetsOf); off the home rank just that square (one_only), from home also the second if it is empty (two_too). A
-- pawn is on neither end rank, so the square ahead is on the board (off_lowest, on_board of OriginsOf).
use mathlib.Core.Bool.{not-not}
use Rattle.std.proofs.Common.{◌≡◌, ◌<◌, ◌≤◌, ◌==◌, ◌&&◌, ℕ, not, true, is_none, sym, arith, ◌∙◌}
use Rattle.chess_base.specs.Men.{forward, is_man, man_at, pawn_rank}
use Rattle.chess_base.specs.{Sound.IsSound, Sound.no_pawn_on_end_ranks, Squares.rank, Squares.some_square, declared.man.Kind.TheVariants.Pawn, declared.setup.Setup.Setup}
use Rattle.chess_base.proofs.shared.Squares.{each_square-at}
use Rattle.chess_bits.specs.{ties.Goes.IsAhead, ties.Occupancy.IsOccupied}
use Rattle.chess_bits.proofs.OriginsOf.{off_lowest, on_board}
use Rattle.chess_bits.proofs.TargetsOf.{next_is, second_is, met_is, blocked, one_only, two_too}
use Rattle.chess_moves.specs.Sets.{contains}
use Rattle.chess_bits.proofs.bits.Bits.advances.Goals as goal

-- a pawn is not on rank 1
high : (p : Setup) (a : ℕ) → IsSound p → is_man p.side Pawn (man_at p.men a) ≡ true → a < 64 → 8 ≤ a
unfolding no_pawn_on_end_ranks
high p a sound pawn low = off_lowest p.men p.side a pawn (each_square-at _ sound.pawns a low)

-- nothing is met ahead exactly if the square ahead is empty
free_if_none_met : (p : Setup) (a s w full met : ℕ) → IsSound p → is_man p.side Pawn (man_at p.men a) ≡ true → a < 64
    → ((j : ℕ) → contains s j ≡ (j == a)) → IsAhead p.side s w → IsOccupied full p.men
    → ((k : ℕ) → contains met k ≡ (contains w k && contains full k))
    → not (some_square (λ k. contains met k)) ≡ is_none (man_at p.men (forward p.side a))
unfolding no_pawn_on_end_ranks
free_if_none_met p a s w full met sound pawn low one h stood both =
    met_is p.men (forward p.side a) w full met (on_board p.men p.side a pawn (each_square-at _ sound.pawns a low) low)
    (λ k l. next_is p.side a s w k (high p a sound pawn low) one h l) stood.of_men both

-- something is met ahead
pub returns-then-not-is_empty : goal.returns-then-not-is_empty
returns-then-not-is_empty c = λ k low.
    let p = c.self.inside.setup in
    let pawn : is_man p.side Pawn (man_at p.men c.args.from) ≡ true = rw c.self.view_is c.requires in
    rw (← c.self.view_is)
    (c.empty.ensures k
    ∙ blocked p c.args.from k pawn
    (sym (free_if_none_met p c.args.from c.single.result c.ahead-next.result c.occupied-occupied.result
    c.intersection-met.result c.self.invariant.0 pawn c.single.ensures.in_range c.single.ensures.value
    c.ahead-next.ensures (c.occupied-occupied.ensures p.men c.self.invariant.1) c.intersection-met.ensures)
    ∙ sym c.is_empty.ensures.none ∙ c.if-not-is_empty.true))

-- nothing is met, and the pawn is off its home rank
pub returns-then-rank-pawn_rank : goal.returns-then-rank-pawn_rank
returns-then-rank-pawn_rank c = λ k low.
    let p = c.self.inside.setup in
    let a = c.args.from in
    let pawn : is_man p.side Pawn (man_at p.men a) ≡ true = rw c.self.view_is c.requires in
    let free : is_none (man_at p.men (forward p.side a)) ≡ true =
    sym (free_if_none_met p a c.single.result c.ahead-next.result c.occupied-occupied.result c.intersection-met.result
    c.self.invariant.0 pawn c.single.ensures.in_range c.single.ensures.value c.ahead-next.ensures
    (c.occupied-occupied.ensures p.men c.self.invariant.1) c.intersection-met.ensures)
    ∙ sym c.is_empty.ensures.none ∙ c.if-not-is_empty.false in
    let away : rank a ≡ pawn_rank p.side → ⊥ = λ e. omega arith in
    rw (← c.self.view_is)
    (next_is p.side a c.single.result c.ahead-next.result k (high p a c.self.invariant.0 pawn c.single.ensures.in_range)
    c.single.ensures.value c.ahead-next.ensures low ∙ one_only p a k pawn free away)

-- nothing is met, and the pawn is at home
pub returns : goal.returns
returns c = λ k low.
    let p = c.self.inside.setup in
    let a = c.args.from in
    let pawn : is_man p.side Pawn (man_at p.men a) ≡ true = rw c.self.view_is c.requires in
    let start = high p a c.self.invariant.0 pawn c.single.ensures.in_range in
    let full = c.occupied-occupied.ensures p.men c.self.invariant.1 in
    let free : is_none (man_at p.men (forward p.side a)) ≡ true =
    sym (free_if_none_met p a c.single.result c.ahead-next.result c.occupied-occupied.result c.intersection-met.result
    c.self.invariant.0 pawn c.single.ensures.in_range c.single.ensures.value c.ahead-next.ensures full
    c.intersection-met.ensures)
    ∙ sym c.is_empty.ensures.none ∙ c.if-not-is_empty.false in
    let home : rank a ≡ pawn_rank p.side = omega arith in
    rw (← c.self.view_is)
    (c.union.ensures k
    ∙ rw (
      next_is p.side a c.single.result c.ahead-next.result k start c.single.ensures.value c.ahead-next.ensures low,
      c.without-second.ensures k low,
      second_is p.side a c.single.result c.ahead-next.result c.ahead.result k start home c.single.ensures.value
          c.ahead-next.ensures c.ahead.ensures low,
      full.of_men k low,
      not-not (is_none (man_at p.men k)),
    ) (two_too p a k pawn free home))
