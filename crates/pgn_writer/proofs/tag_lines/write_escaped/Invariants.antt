-- The loop's invariant: the bytes so far were appended to the line, escaped (`text`), and as at most two bytes each
-- (`len`), so the line has room for the rest.
use Rattle.std.proofs.Common.{◌≡◌, ◌+◌, ◌*◌, ◌≤◌, ◌++◌, take}
use Rattle.arrayvec.specs.ArrayVec.{array_vec_len}
use Rattle.pgn_writer.specs.Written.{escaped}
use Rattle.pgn_writer.proofs.tag_lines.write_escaped.Given as goal

abbrev pub invariant-loop-byte : goal.invariant-loop-byte
invariant-loop-byte l = record {
  text : l.line.items ≡ l.fn.line.items ++ escaped (take l.byte-index l.text);
  len : array_vec_len l.line ≤ array_vec_len l.fn.line + 2 * l.byte-index;
}
