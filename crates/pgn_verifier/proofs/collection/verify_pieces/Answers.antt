-- By the invariant the pieces so far were reported (CollectionVerified.SoFar), and their bytes bound the counts and the
-- line, so nothing overflows. One more piece keeps this; a failed write, the last piece and a read that failed each end
-- the loop by one lemma of CollectionVerified.
use Rattle.std.proofs.{Common.sym, Common.subst, Common.arith, lemmas.Result.err_from_is_err_and}
use Rattle.pgn_pieces.specs.Stream.{State}
use Rattle.pgn_verifier.specs.declared.tally.Tally.{Tally}
use Rattle.pgn_verifier.proofs.CollectionVerified.{SoFar, begun, written_on, write_failed, all_written, stopped}
use Rattle.pgn_verifier.proofs.collection.verify_pieces.Goals as goal

pub loop-tally-init : goal.loop-tally-init
loop-tally-init g c = (
  c.requires.limit,
  subst (λ (s : State). SoFar c.args.options (g.R.Input.seen c.args.input.now) (g.R.Input.seen c.args.input.now)
      (g.W.Output.seen c.args.output.now) (g.W.Output.seen c.args.output.now) s c.none-tally.result 1)
      (sym c.requires.opened)
      (subst (λ (t : Tally). SoFar c.args.options (g.R.Input.seen c.args.input.now) (g.R.Input.seen c.args.input.now)
      (g.W.Output.seen c.args.output.now) (g.W.Output.seen c.args.output.now) _ t 1)
      (sym c.none-tally.ensures)
      (begun c.args.options (g.R.Input.seen c.args.input.now) (g.W.Output.seen c.args.output.now))),
)

pub verify_piece-requires-clause-reports : goal.verify_piece-requires-clause-reports
verify_piece-requires-clause-reports g c =
    let few = c.loop-tally.invariant.1.few in
    let offset = c.in_ok-next.ensures.offset in
    let some = c.in_ok-next.ensures.some c.if-not-branch.false in
    let value = c.offset-offset.ensures.value in
    let small = c.offset-offset.ensures.small in
    omega (arith, few, offset, some, value, small)

pub verify_piece-requires-clause-few_lines : goal.verify_piece-requires-clause-few_lines
verify_piece-requires-clause-few_lines g c =
    let few = c.loop-tally.invariant.1.few_lines in
    let offset = c.in_ok-next.ensures.offset in
    let value = c.offset-offset.ensures.value in
    let small = c.offset-offset.ensures.small in omega (arith, few, offset, value, small)

pub line_after-line-requires : goal.line_after-line-requires
line_after-line-requires g c =
    let few = c.loop-tally.invariant.1.few_lines in
    let offset = c.in_ok-next.ensures.offset in
    let value = c.offset-offset.ensures.value in
    let small = c.offset-offset.ensures.small in omega (arith, few, offset, value, small)

pub loop-tally-preserved : goal.loop-tally-preserved
loop-tally-preserved g c =
    let so = c.loop-tally.invariant.1 in
    let r = g.R.Input.seen c.args.input.now in
    let next = rw c.if-not-branch.false at (c.in_ok-next.ensures.next r so.text so.stands) in
    let value = c.offset-offset.ensures.value in
    let small = c.offset-offset.ensures.small in (
      c.in_ok-tally.ensures.limit,
      written_on c.args.options r (g.R.Input.seen c.loop-tally.input) (g.R.Input.seen c.next.new.input)
          (g.W.Output.seen c.args.output.now) (g.W.Output.seen c.loop-tally.output) c.loop-tally.pieces c.next.new.self
          c.loop-tally.tally c.loop-tally.line so (c.pieces_are_cut.ensures, c.pieces_are_in_place.ensures)
          (g.W.Output.seen c.verify_piece.new.output) c.in_ok-tally.tally c.line_after-line.result next
          c.in_ok-next.ensures.offset
          (c.in_ok-next.ensures.some c.if-not-branch.false) (omega (arith, value, small)) c.in_ok-tally.ensures.written
          c.in_ok-tally.ensures.grown c.line_after-line.ensures.counted c.line_after-line.ensures.few,
    )

pub returns-in_err-tally : goal.returns-in_err-tally
returns-in_err-tally g c =
    let so = c.loop-tally.invariant.1 in
    let r = g.R.Input.seen c.args.input.now in
    let next = rw c.if-not-branch.false at (c.in_ok-next.ensures.next r so.text so.stands) in
    let p = err_from_is_err_and c.from_residual-in_err-tally.result c.from_residual-in_err-tally.ensures.1 in
    rw (p.1, p.2) (write_failed c.args.options r (g.R.Input.seen c.loop-tally.input) (g.R.Input.seen c.next.new.input)
    (g.W.Output.seen c.args.output.now) (g.W.Output.seen c.loop-tally.output) c.loop-tally.pieces c.next.new.self
    c.loop-tally.tally c.loop-tally.line so (c.pieces_are_cut.ensures, c.pieces_are_in_place.ensures)
    (g.W.Output.seen c.verify_piece.new.output) c.in_err-tally.field-0.0 next c.in_err-tally.ensures.written)

pub returns-then-not-branch : goal.returns-then-not-branch
returns-then-not-branch g c =
    let so = c.loop-tally.invariant.1 in
    let r = g.R.Input.seen c.args.input.now in
    let next = rw c.if-not-branch.true at (c.in_ok-next.ensures.next r so.text so.stands) in
    all_written c.args.options r (g.R.Input.seen c.loop-tally.input) (g.R.Input.seen c.next.new.input)
    (g.W.Output.seen c.args.output.now) (g.W.Output.seen c.loop-tally.output) c.loop-tally.pieces c.next.new.self
    c.loop-tally.tally c.loop-tally.line so c.pieces_are_cut.ensures next

pub returns-in_err-next : goal.returns-in_err-next
returns-in_err-next g c =
    let so = c.loop-tally.invariant.1 in
    let r = g.R.Input.seen c.args.input.now in
    let w = g.W.Output.seen c.args.output.now in
    let w' = g.W.Output.seen c.loop-tally.output in
    let r'' = g.R.Input.seen c.next.new.input in
    let p = err_from_is_err_and c.from_residual.result c.from_residual.ensures.1 in
    rw (p.1, p.2)
    (stopped c.args.options r (g.R.Input.seen c.loop-tally.input) r'' w w' c.loop-tally.pieces c.next.new.self
    c.loop-tally.tally c.loop-tally.line so c.pieces_are_cut.ensures c.in_err-next.field-0.0
    (c.in_err-next.ensures.next r so.text so.stands))
