-- After each line the search goes on (SeenLines.look_on), ends there (look_ends), or waits for more text (look_waits);
-- if the text is used up, all of it belongs to the piece (look_all).
use Rattle.std.proofs.{Common.arith, lemmas.List.take_rest}
use Rattle.pgn_pieces.proofs.SeenLines.{look_on, look_ends, look_waits, look_all}
use Rattle.pgn_pieces.proofs.piece_end.Seen.find_end.Goals as goal

pub loop-offset-preserved : goal.loop-offset-preserved
loop-offset-preserved c =
    let i = c.loop-offset.invariant in
    let on = look_on c.args.self.now c.loop-offset.self c.args.text.now c.loop-offset.offset i.within i.seen
    c.step.new.self c.in-Belongs.len (rw (take_rest c.args.text.now c.loop-offset.offset) at c.in-Belongs.ensures) in
    record { within = on.0; seen = on.1 }

pub returns-in-Begins : goal.returns-in-Begins
returns-in-Begins c =
    let i = c.loop-offset.invariant in
    look_ends c.args.self.now c.loop-offset.self c.args.text.now c.loop-offset.offset i.within i.seen c.step.new.self
    (rw (take_rest c.args.text.now c.loop-offset.offset) at c.in-Begins.ensures)

pub returns-in-Waits : goal.returns-in-Waits
returns-in-Waits c =
    let i = c.loop-offset.invariant in
    look_waits c.args.self.now c.loop-offset.self c.args.text.now c.loop-offset.offset i.within i.seen c.step.new.self
    (rw (take_rest c.args.text.now c.loop-offset.offset) at c.in-Waits.ensures)

pub returns : goal.returns
returns c =
    let i = c.loop-offset.invariant in
    let all = c.loop-offset-test.false in
    look_all c.args.self.now c.loop-offset.self c.args.text.now c.loop-offset.offset i.within i.seen
    (omega (arith, all))
