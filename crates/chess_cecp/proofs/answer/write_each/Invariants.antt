-- The loop's invariant: what was appended so far is the text of each move before the index, after a space, with at most
-- 6 bytes for each.
use Rattle.std.proofs.Common.{◌≡◌, ◌+◌, ◌*◌, ◌≤◌, ◌++◌, ◌∷◌, take, flat_map}
use Rattle.arrayvec.specs.ArrayVec.{array_vec_len}
use Rattle.byte_devices.specs.Bytes.{space}
use Rattle.chess_text.specs.San.{shown_move}
use Rattle.chess_cecp.proofs.answer.write_each.Given as goal

abbrev pub invariant-loop-m : goal.invariant-loop-m
invariant-loop-m l = record {
  text : l.answer.items ≡ l.fn.answer.items ++ flat_map (λ m. space ∷ shown_move l.position m) (take l.m-index l.moves);
  len : array_vec_len l.answer ≤ array_vec_len l.fn.answer + 6 * l.m-index;
}
