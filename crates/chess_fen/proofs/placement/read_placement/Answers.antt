-- The invariant (`Placing`) says that the rest of the text, below the ranks on the board, gives the whole board. A rank
-- and a slash keep it (placed_on). After the last rank the board is whole if the field ends there (placed_whole),
-- otherwise the field denotes none (too_many); nor does it if a rank or a slash is missing (no_rank, no_more).
use Rattle.std.proofs.Common.{◌≡◌, Option, Some, None, subst, arith, IfNone}
use Rattle.chess_fen.specs.ties.Runs.{Ends}
use Rattle.chess_fen.proofs.Placing.{no_rank, no_more, placed_on, placed_whole, too_many}
use Rattle.chess_fen.proofs.placement.read_placement.Goals as goal

on_none : {A : Type 0} (o : Option A) (P : Type 0) → P → IfNone o P
on_none None P p = p
on_none (Some x) P p = tt

pub returns-in_err-ended-clause-none : goal.returns-in_err-ended-clause-none
returns-in_err-ended-clause-none c =
    on_none _ _ (no_rank c.args.text.now c.loop-rank.men c.loop-rank.rest.now c.loop-rank.rank c.loop-rank.invariant
    c.in_err-ended.ensures.none)

pub returns-in_err-rest-clause-none : goal.returns-in_err-rest-clause-none
returns-in_err-rest-clause-none c =
    on_none _ _ (no_more c.args.text.now c.loop-rank.men c.place_rank.new.men c.loop-rank.rest.now
    c.in_ok-ended.ended.now c.loop-rank.rank (omega arith) c.loop-rank.invariant c.in_ok-ended.ensures.read
    c.in_err-rest.ensures.none)

pub loop-rank-preserved : goal.loop-rank-preserved
loop-rank-preserved c =
    placed_on c.args.text.now c.loop-rank.men c.place_rank.new.men c.loop-rank.rest.now c.in_ok-ended.ended.now
    c.in_ok-rest.rest.now c.loop-rank.rank (omega arith) c.loop-rank.invariant c.in_ok-ended.ensures.read
    c.in_ok-rest.ensures.read

pub place_rank-requires-2-clause-empty : goal.place_rank-requires-2-clause-empty
place_rank-requires-2-clause-empty c =
    let last : c.loop-rank.rank ≡ 1 = omega arith in
    rw last at c.loop-rank.invariant.empty

pub returns-in_err-ended-2-clause-none : goal.returns-in_err-ended-2-clause-none
returns-in_err-ended-2-clause-none c =
    on_none _ _ (no_rank c.args.text.now c.loop-rank.men c.loop-rank.rest.now c.loop-rank.rank c.loop-rank.invariant
    c.in_err-ended-2.ensures.none)

pub returns-then-ends_field-clause-read : goal.returns-then-ends_field-clause-read
returns-then-ends_field-clause-read c =
    let last : c.loop-rank.rank ≡ 1 = omega arith in
    let ended = c.in_ok-ended-2.ended.now in
    placed_whole c.args.text.now c.loop-rank.men c.place_rank-2.new.men c.loop-rank.rest.now ended c.loop-rank.rank last
    c.loop-rank.invariant c.in_ok-ended-2.ensures.read
    (subst (λ b. Ends b ended) c.if-ends_field.true c.ends_field.ensures)

pub returns-else-ends_field-clause-none : goal.returns-else-ends_field-clause-none
returns-else-ends_field-clause-none c =
    let last : c.loop-rank.rank ≡ 1 = omega arith in
    let ended = c.in_ok-ended-2.ended.now in
    too_many c.args.text.now c.loop-rank.men c.place_rank-2.new.men c.loop-rank.rest.now ended c.loop-rank.rank last
    c.loop-rank.invariant c.in_ok-ended-2.ensures.read
    (subst (λ b. Ends b ended) c.if-ends_field.false c.ends_field.ensures)
