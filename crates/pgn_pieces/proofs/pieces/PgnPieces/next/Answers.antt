-- By the invariant all that was looked through belongs to the piece (Steps.Looked), as one read more keeps it
-- (looked_on). Each way out is a lemma of Steps: the piece's end is found (next_found, found_some), the input has ended
-- (next_last), or no more can be read (next_stopped). In the first two the piece's offset is the end of the piece
-- before (kept_on).
use Rattle.std.proofs.Common.{◌≡◌, false, true, sym, ap, subst, ◌∙◌}
use Rattle.pgn_pieces.specs.{Stream.State, ties.Held.with_more}
use Rattle.pgn_pieces.proofs.Steps.{Looked, looked_at_nothing, looked_on, next_found, next_last, next_stopped, found_some, kept_on}
use Rattle.std.proofs.lemmas.Result.{err_from_is_err_and}
use Rattle.pgn_pieces.proofs.pieces.PgnPieces.next.Goals as goal

pub loop-seen-init : goal.loop-seen-init
loop-seen-init g c = record {
  looked = looked_at_nothing c.args.self.now c.pass_piece.new.self c.nothing-seen.result (g.R.Input.seen c.args.input.now)
      c.pass_piece.ensures c.nothing-seen.ensures;
}

pub loop-seen-preserved : goal.loop-seen-preserved
loop-seen-preserved g c =
    let s = c.args.self.now in
    let s1 = c.loop-seen.self in
    let s2 = c.find_end.new.self in
    let s3 = c.let_go.new.self in
    let gave = c.in_ok-read_more.ensures.0 in
    let looked = c.loop-seen.invariant.looked in
    let r2 = g.R.Input.seen c.loop-seen.input in
    let going : s2.ended ≡ false = ap (λ (s : State). s.ended) (sym c.self.view_is) ∙ c.if-self.false in
    let is : c.read_more.new.self ≡ with_more gave s3 =
    c.in_ok-read_more.ensures.2 ∙ ap (λ (t : State). with_more gave t) c.compact.ensures in
    let kept = kept_on s s1 s2 c.loop-seen.seen c.find_end.new.seen (g.R.Input.seen c.args.input.now) r2 looked false
    c.if-find_end.ensures in record {
      looked = subst (λ (t : State). Looked s t c.find_end.new.seen (g.R.Input.seen c.args.input.now)
          (g.R.Input.seen c.read_more.new.input)) (sym is)
          (looked_on s s1 s2 c.loop-seen.seen c.find_end.new.seen (g.R.Input.seen c.args.input.now) r2 looked s3
          (g.R.Input.seen c.read_more.new.input) gave (sym kept.1 ∙ going) c.if-find_end.ensures c.let_go.ensures
          c.in_ok-read_more.ensures.1);
    }

pub returns-then-find_end-clause-next : goal.returns-then-find_end-clause-next
returns-then-find_end-clause-next g c =
    next_found c.args.self.now c.loop-seen.self c.find_end.new.self c.loop-seen.seen c.find_end.new.seen
    (g.R.Input.seen c.args.input.now) (g.R.Input.seen c.loop-seen.input) c.loop-seen.invariant.looked
    c.if-find_end.ensures

pub returns-then-find_end-clause-offset : goal.returns-then-find_end-clause-offset
returns-then-find_end-clause-offset g c =
    (kept_on c.args.self.now c.loop-seen.self c.find_end.new.self c.loop-seen.seen c.find_end.new.seen
    (g.R.Input.seen c.args.input.now) (g.R.Input.seen c.loop-seen.input) c.loop-seen.invariant.looked true
    c.if-find_end.ensures).0

pub returns-then-find_end-clause-some : goal.returns-then-find_end-clause-some
returns-then-find_end-clause-some g c more =
    found_some c.args.self.now c.loop-seen.self c.find_end.new.self c.loop-seen.seen c.find_end.new.seen
    (g.R.Input.seen c.args.input.now) (g.R.Input.seen c.loop-seen.input) c.loop-seen.invariant.looked
    c.if-find_end.ensures

pub returns-then-self-clause-next : goal.returns-then-self-clause-next
returns-then-self-clause-next g c =
    next_last c.args.self.now c.loop-seen.self c.find_end.new.self c.loop-seen.seen c.find_end.new.seen
    (g.R.Input.seen c.args.input.now) (g.R.Input.seen c.loop-seen.input) c.loop-seen.invariant.looked
    c.take_rest.new.self c.take_rest.result c.if-find_end.ensures
    (ap (λ (s : State). s.ended) (sym c.self.view_is) ∙ c.if-self.true) c.take_rest.ensures.state
    c.take_rest.ensures.some

pub returns-then-self-clause-offset : goal.returns-then-self-clause-offset
returns-then-self-clause-offset g c =
    ap (λ (s : State). s.offset) c.take_rest.ensures.state
    ∙ (kept_on c.args.self.now c.loop-seen.self c.find_end.new.self c.loop-seen.seen c.find_end.new.seen
    (g.R.Input.seen c.args.input.now) (g.R.Input.seen c.loop-seen.input) c.loop-seen.invariant.looked false
    c.if-find_end.ensures).0

pub returns-in_err-read_more-clause-next : goal.returns-in_err-read_more-clause-next
returns-in_err-read_more-clause-next g c =
    let s = c.args.self.now in
    let s1 = c.loop-seen.self in
    let s2 = c.find_end.new.self in
    let looked = c.loop-seen.invariant.looked in
    let going : s2.ended ≡ false = ap (λ (s : State). s.ended) (sym c.self.view_is) ∙ c.if-self.false in
    let kept = kept_on s s1 s2 c.loop-seen.seen c.find_end.new.seen (g.R.Input.seen c.args.input.now)
    (g.R.Input.seen c.loop-seen.input) looked false c.if-find_end.ensures in
    let p = err_from_is_err_and c.from_residual.result c.from_residual.ensures.1 in
    rw (p.1, p.2) (next_stopped s s1 s2 c.loop-seen.seen c.find_end.new.seen (g.R.Input.seen c.args.input.now)
    (g.R.Input.seen c.loop-seen.input) looked c.let_go.new.self c.compact.new.self c.read_more.new.self
    (g.R.Input.seen c.read_more.new.input) c.in_err-read_more.field-0.0 (sym kept.1 ∙ going) c.if-find_end.ensures c.let_go.ensures
    c.compact.ensures c.in_err-read_more.ensures)
