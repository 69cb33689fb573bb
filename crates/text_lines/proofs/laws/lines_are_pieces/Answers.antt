-- Of no bytes there is no line (nothing_left). Bytes without a `\n` are added one by one to the line that has begun;
-- then a `\n` ends it (law_ended), or the stream's end (law_last), or it is no line yet (law_not_at_end of Reading).
use Rattle.text_lines.proofs.{shared.Lines.nothing_left, Reading.law_ended, Reading.law_last, Reading.law_not_at_end}
use Rattle.text_lines.proofs.laws.lines_are_pieces.Goals as goal

pub returns : goal.returns
returns c = record { empty = nothing_left; ended = law_ended; last = law_last; not_at_end = law_not_at_end }
