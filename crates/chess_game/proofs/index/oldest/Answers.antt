-- If the move to `now`, or an earlier one that the halfmove clock points to, was a capture or a pawn move, no position
-- before that is the same as `now` (none_is_same, none_is_same_before of ForGood).
use Rattle.std.proofs.Common.{◌-◌, ◌<◌, length, arith}
use Rattle.std.proofs.lemmas.Bool.Decides.{nat_tests}
use Rattle.chess_game.proofs.ForGood.{none_is_same, none_is_same_before}
use Rattle.chess_game.proofs.index.oldest.Goals as goal

pub returns-then-ago-eq0 : goal.returns-then-ago-eq0
returns-then-ago-eq0 c = λ start follows next. none_is_same c.reserve_never_grows.ensures.never_grows
    c.reserve_never_grows.ensures.falls_for_good start c.args.played_moves.now c.args.now.now next.0 next.1
    c.requires follows
    next.2 (rw c.halfmove-ago.ensures.value at c.if-ago-eq0.true)

pub returns-then-halfmove-eq0 : goal.returns-then-halfmove-eq0
returns-then-halfmove-eq0 c =
    let some = c.if-ago-eq0.false in
    let within = c.if-ago-played_moves.false in
    let k = length c.args.played_moves.now - c.halfmove-ago.result in
    let low : k < length c.args.played_moves.now = grind (arith, nat_tests, some, within) in
    λ start follows next. none_is_same_before c.reserve_never_grows.ensures.never_grows
    c.reserve_never_grows.ensures.falls_for_good start c.args.played_moves.now c.args.now.now next.0 next.1
    c.requires follows
    next.2 k c.index-played_moves-first.result low
    (rw c.halfmove.ensures.value at c.if-halfmove-eq0.true)
