-- The loop's invariant: all bytes from `end` on are marks, so the marks at the text's end are these and those at the
-- end of the part before `end`. Its measure is `end`.
use Rattle.std.proofs.Common.{length, take, ◌-◌, ◌+◌, ◌≡◌, ◌≤◌}
use Rattle.std.specs.List.{suffix_len}
use Rattle.chess_text.specs.Parts.{is_mark}
use Rattle.chess_text.proofs.parts.unmarked.Given as goal

abbrev pub invariant-loop-end : goal.invariant-loop-end
invariant-loop-end l = record {
  marks : suffix_len is_mark l.text ≡ (length l.text - l.end) + suffix_len is_mark (take l.end l.text);
  in_range : l.end ≤ length l.text;
}

abbrev pub decreases-loop-end : goal.decreases-loop-end
decreases-loop-end l = l.end
