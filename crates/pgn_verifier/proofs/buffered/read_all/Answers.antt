-- By the invariant `text` is what was read so far, at most 16777216 bytes. A read more keeps this (InputRead.more_read,
-- still_few); at the end, with too many bytes, or without memory for more, the loop ends (InputRead.all_read, too_long,
-- no_room). Each read leaves one fewer that can succeed.
use Rattle.std.proofs.Common.{◌≡◌, ◌<◌, ◌++◌, length, take, arith}
use Rattle.pgn_verifier.proofs.InputRead.{all_read, more_read, no_room, too_long, still_few}
use Rattle.std.proofs.lemmas.Result.{err_from_is_err_and}
use Rattle.pgn_verifier.proofs.buffered.read_all.Goals as goal
use Rattle.pgn_pieces.proofs.shared.Inputs.{nothing_read}

pub loop-text-init : goal.loop-text-init
loop-text-init g c = record {
  front = rw c.new-text.ensures.items (nothing_read (g.R.Input.seen c.args.input.now));
  few = rw c.new-text.ensures.items (omega arith);
}

pub returns-then-count-len-clause-failed : goal.returns-then-count-len-clause-failed
returns-then-count-len-clause-failed g c =
    let few = c.loop-text.invariant.few in
    let len : c.len.result ≡ length c.loop-text.text.items = omega arith in
    too_long (g.R.Input.seen c.args.input.now) (g.R.Input.seen c.loop-text.input) (g.R.Input.seen c.read.new.self)
    c.loop-text.text.items c.read.new.buf c.in_ok-count.count c.len.result
    c.loop-text.invariant.front c.in_ok-count.ensures.1 len few c.if-count-len.true c.in_ok-count.ensures.0

pub returns-then-count-eq0-clause-all : goal.returns-then-count-eq0-clause-all
returns-then-count-eq0-clause-all g c =
    all_read (g.R.Input.seen c.args.input.now) (g.R.Input.seen c.loop-text.input) (g.R.Input.seen c.read.new.self)
    c.loop-text.text.items c.read.new.buf c.in_ok-count.count
    c.loop-text.invariant.front c.loop-text.invariant.few c.in_ok-count.ensures.1 c.if-count-eq0.true

pub overflow_sub-len : goal.overflow_sub-len
overflow_sub-len g c = let few = c.loop-text.invariant.few in omega arith

pub loop-text-smaller : goal.loop-text-smaller
loop-text-smaller g c = let falls = c.in_ok-count.ensures.1.falls in omega (arith, falls)

pub loop-text-preserved : goal.loop-text-preserved
loop-text-preserved g c =
    let piece = take c.in_ok-count.count c.read.new.buf in
    let all : c.extend_from_slice.new.self.items ≡ c.loop-text.text.items ++ piece =
    c.in_ok-extend_from_slice.ensures.items in
    let few = c.loop-text.invariant.few in
    let room = c.if-count-len.false in
    let some : 0 < c.in_ok-count.count = (let other = c.if-count-eq0.false in omega (arith, other)) in
    let len : c.len.result ≡ length c.loop-text.text.items = omega arith in
    record {
      front = rw all (more_read (g.R.Input.seen c.args.input.now) (g.R.Input.seen c.loop-text.input)
          (g.R.Input.seen c.read.new.self) c.loop-text.text.items c.read.new.buf c.in_ok-count.count
          c.loop-text.invariant.front c.in_ok-count.ensures.1 some c.in_ok-count.ensures.0);
      few = rw all (still_few c.loop-text.text.items c.read.new.buf c.in_ok-count.count c.len.result len few room
          c.in_ok-count.ensures.0);
    }

pub returns-in_err-extend_from_slice-clause-failed : goal.returns-in_err-extend_from_slice-clause-failed
returns-in_err-extend_from_slice-clause-failed g c =
    let some : 0 < c.in_ok-count.count = (let other = c.if-count-eq0.false in omega (arith, other)) in
    let p = err_from_is_err_and c.from_residual-in_err-extend_from_slice.result
    c.from_residual-in_err-extend_from_slice.ensures.1 in
    rw (p.1, p.2)
    (no_room (g.R.Input.seen c.args.input.now) (g.R.Input.seen c.loop-text.input) (g.R.Input.seen c.read.new.self)
    c.loop-text.text.items c.read.new.buf c.in_ok-count.count
    c.loop-text.invariant.front c.in_ok-count.ensures.1 some c.in_ok-count.ensures.0)
