-- The loop's invariant: what was appended, followed by the text of the ranks that are left, is the whole placement; 9
-- bytes for each rank that is left fit into the 71 and one more, since the last rank has no slash.
use Rattle.std.proofs.Common.{◌≡◌, ◌+◌, ◌*◌, ◌≤◌, ◌++◌}
use Rattle.arrayvec.specs.ArrayVec.{array_vec_len}
use Rattle.chess_fen.specs.{Writing.placement_text, ties.Loops.ranks_text}
use Rattle.chess_fen.proofs.writing.write_placement.Given as goal

abbrev pub invariant-loop-rank : goal.invariant-loop-rank
invariant-loop-rank l =
    record {
      text : l.out.items ++ ranks_text l.rank l.men ≡ l.fn.out.items ++ placement_text l.men;
      len : array_vec_len l.out + 9 * l.rank ≤ array_vec_len l.fn.out + 72;
      last : l.rank ≡ 0 → array_vec_len l.out ≤ array_vec_len l.fn.out + 71;
    }
