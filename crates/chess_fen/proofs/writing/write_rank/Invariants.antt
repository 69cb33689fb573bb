-- The loop's invariant: what was appended, followed by the text of the squares that are left after a run of `empty`
-- squares not yet written, is the whole rank's; each square so far took one byte at most.
use Rattle.std.proofs.Common.{◌≡◌, ◌+◌, ◌≤◌, ◌++◌, drop}
use Rattle.arrayvec.specs.ArrayVec.{array_vec_len}
use Rattle.chess_fen.specs.{Writing.fen_rank, shared.Rows.row_text}
use Rattle.chess_fen.proofs.writing.write_rank.Given as goal

abbrev pub invariant-loop-square : goal.invariant-loop-square
invariant-loop-square l =
    record {
      text : l.out.items ++ row_text l.empty (drop l.square-index l.row) ≡ l.fn.out.items ++ fen_rank l.row;
      len : array_vec_len l.out + l.empty ≤ array_vec_len l.fn.out + l.square-index;
      few : l.empty ≤ l.square-index;
    }
