-- The result is right for the list `men`: its sets and its hash are those of these pieces. At first none is placed, and
-- the sets are empty (none_placed of Standing); each turn places the piece of the first square in `rest`, so the
-- invariant stays (one_placed); when `rest` is empty, all are placed (all_placed).
use Rattle.std.proofs.Common.{◌<◌, subst, slice_set}
use Rattle.chess_base.specs.Men.{man_at}
use Rattle.chess_bits.specs.ties.BoardSets.{IsSets}
use Rattle.chess_bits.proofs.Standing.{none_placed, one_placed, all_placed}
use Rattle.chess_bits.proofs.sets.Sets.standing.Goals as goal

pub loop-square-init : goal.loop-square-init
loop-square-init c =
    λ part all without.
    c.empty-sets.ensures part
    (none_placed c.occupied_by-rest.result c.args.men.now part c.occupied_by-rest.ensures without)

pub loop-square-preserved : goal.loop-square-preserved
loop-square-preserved c =
    let low : c.in-Some.square < 64 = subst (λ n. n < 64) c.index.ensures.value c.index.ensures.in_range in
    one_placed c.loop-square.sets c.fill.new.self c.args.men.now c.loop-square.rest c.take_first.new.self
    c.in-Some.square low c.in-Some.ensures c.loop-square.invariant
    (λ part all bare are.
    subst (λ i. IsSets c.fill.new.self (slice_set part c.in-Some.square (man_at c.args.men.now i)))
    c.index.ensures.value (c.fill.ensures part all bare are))

pub returns : goal.returns
returns c =
    c.loop-square.invariant c.args.men.now c.told-men
    (all_placed c.loop-square.rest c.args.men.now (c.in_default.ensures.0))
