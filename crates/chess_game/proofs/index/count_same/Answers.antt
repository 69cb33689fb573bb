-- The walk goes over the positions of the bucket from the latest on; what is the same is in no other bucket, so none is
-- missed, and the first that is found keeps how many there are up to it (Walk). That is at most the number of
-- positions, so one more doesn't overflow (walk_few).
use Rattle.std.proofs.Common.{◌≡◌, ◌∙◌, ◌+◌, ◌-◌, ap, sym, subst, arith}
use Rattle.std.proofs.lemmas.Bool.Decides.{nat_tests}
use Rattle.chess_game.specs.{ties.PlayedMoves.IsKnown, declared.game.PlayedMove.PlayedMove}
use Rattle.chess_game.proofs.Kept.{at_place}
use Rattle.chess_game.proofs.Walk.{is_sought, walk_begins, walk_goes_on, walk_smaller, walk_found, walk_few, walk_ends, walk_ends_at_start, walk_stops}
use Rattle.chess_game.proofs.index.count_same.Goals as goal
use Rattle.chess_game.proofs.index.count_same.Goals.{Start}

pub loop-at-init : goal.loop-at-init
loop-at-init c =
    walk_begins c.args.start.now c.args.played_moves.now c.args.now.now c.args.head
    (is_sought _ _ _ c.requires.follows c.requires.hashes c.requires.made.2.sound c.halfmove-sound.ensures.sound) c.requires.head

pub returns-then-head-eq0 : goal.returns-then-head-eq0
returns-then-head-eq0 c =
    let none : c.args.head ≡ 0 = grind (arith, nat_tests, c.if-head-eq0.true) in
    walk_ends c.args.start.now c.args.played_moves.now c.args.now.now c.args.head
    (walk_begins c.args.start.now c.args.played_moves.now c.args.now.now c.args.head
    (is_sought _ _ _ c.requires.follows c.requires.hashes c.requires.made.2.sound c.halfmove-sound.ensures.sound) c.requires.head) none

pub returns-then-at-oldest : goal.returns-then-at-oldest
returns-then-at-oldest c =
    walk_stops c.args.start.now c.args.played_moves.now c.args.now.now c.loop-at.at c.oldest-oldest.result
    c.loop-at.invariant c.if-at-oldest.true
    (c.oldest-oldest.ensures c.args.start.now c.requires.follows c.requires.made)

pub is_same-requires-clause-this : goal.is_same-requires-clause-this
is_same-requires-clause-this c =
    let few = c.loop-at.invariant.low in
    let some = c.loop-at-test.true in
    subst (λ (x : PlayedMove). IsKnown x.reached) (sym c.index-played_moves-at.is)
    (at_place c.args.start.now.position c.args.played_moves.now (c.loop-at.at - 2) c.index-played_moves-at.result
    c.requires.follows (omega (arith, few, some))).known

pub overflow_add-result : goal.overflow_add-result
overflow_add-result c =
    let few = walk_few c.args.start.now c.args.played_moves.now c.args.now.now c.loop-at.at
    c.index-played_moves-at.result
    c.requires.entries c.loop-at.invariant c.loop-at-test.true c.index-played_moves-at.is in
    omega (arith, few, c.requires.few)

pub returns-then-is_same : goal.returns-then-is_same
returns-then-is_same c =
    walk_found c.args.start.now c.args.played_moves.now c.args.now.now c.loop-at.at c.index-played_moves-at.result
    (is_sought _ _ _ c.requires.follows c.requires.hashes c.requires.made.2.sound c.halfmove-sound.ensures.sound) c.requires.entries c.loop-at.invariant c.loop-at-test.true c.index-played_moves-at.is
    (sym c.is_same.ensures ∙ c.if-is_same.true)

pub loop-at-smaller : goal.loop-at-smaller
loop-at-smaller c =
    walk_smaller c.args.start.now c.args.played_moves.now c.args.now.now c.loop-at.at c.index-played_moves-at.result
    c.requires.entries c.loop-at.invariant c.loop-at-test.true c.index-played_moves-at.is

pub loop-at-preserved : goal.loop-at-preserved
loop-at-preserved c =
    walk_goes_on c.args.start.now c.args.played_moves.now c.args.now.now c.loop-at.at c.index-played_moves-at.result
    (is_sought _ _ _ c.requires.follows c.requires.hashes c.requires.made.2.sound c.halfmove-sound.ensures.sound) c.requires.entries c.loop-at.invariant c.loop-at-test.true c.index-played_moves-at.is
    (sym c.is_same.ensures ∙ c.if-is_same.false)

pub returns-then-at-eq0 : goal.returns-then-at-eq0
returns-then-at-eq0 c =
    let none : c.loop-at.at ≡ 0 = grind (arith, nat_tests, c.if-at-eq0.true) in
    walk_ends c.args.start.now c.args.played_moves.now c.args.now.now c.loop-at.at c.loop-at.invariant none

pub returns-else-at-eq0 : goal.returns-else-at-eq0
returns-else-at-eq0 c =
    let few = c.loop-at-test.false in
    let one : c.loop-at.at ≡ 1 = grind (arith, nat_tests, c.if-at-eq0.false, few) in
    ap (λ n. 1 + n) c.times_same.ensures
    ∙ walk_ends_at_start c.args.start.now c.args.played_moves.now c.args.now.now c.loop-at.at c.loop-at.invariant one
