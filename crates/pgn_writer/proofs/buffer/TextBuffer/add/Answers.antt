-- If making room failed, the writer took a beginning of what the buffer held, and so of that and the text after it
-- (Added.break_longer). A text longer than the buffer is put straight to the writer, once the buffer is empty
-- (Added.put_after).
use Rattle.std.proofs.Common.{[]}
use Rattle.pgn_writer.proofs.Added.{break_longer, adds_exit, put_after}
use Rattle.pgn_writer.proofs.buffer.TextBuffer.add.Goals as goal

pub returns-in_err-make_room : goal.returns-in_err-make_room
returns-in_err-make_room g c =
    adds_exit _ _ c.from_residual.result _ _ _ (break_longer _ _ _ [] c.args.text.now c.in_err-make_room.ensures.added)
    c.from_residual.ensures.0

pub returns-then-text-gt-BUFFER_LEN : goal.returns-then-text-gt-BUFFER_LEN
returns-then-text-gt-BUFFER_LEN g c =
    put_after _ _ _ c.put.result _ _ _ c.in_ok-make_room.ensures.added
    (c.in_ok-make_room.ensures.none c.if-text-gt-BUFFER_LEN.true) c.put.ensures
