-- The loops' invariants: all bytes before `end` are of the first word, and all between `end` and `from` are spaces or
-- tabs. What decreases is the number of bytes that are left.
use Rattle.std.proofs.Common.{length, take, drop, ◌-◌, ◌≡◌, ◌++◌, ◌≤◌}
use Rattle.text_lines.specs.{Lines.without_front_blanks, Words.word_of}
use Rattle.text_lines.proofs.words.split_word.Given as goal

abbrev pub invariant-loop-end : goal.invariant-loop-end
invariant-loop-end l = record {
  word : word_of l.text ≡ take l.end l.text ++ word_of (drop l.end l.text);
  in_range : l.end ≤ length l.text;
}

abbrev pub decreases-loop-end : goal.decreases-loop-end
decreases-loop-end l = length l.text - l.end

abbrev pub invariant-loop-from : goal.invariant-loop-from
invariant-loop-from l = record {
  rest : without_front_blanks (drop l.from l.text) ≡ without_front_blanks (drop l.end l.text);
  in_range : l.from ≤ length l.text;
}

abbrev pub decreases-loop-from : goal.decreases-loop-from
decreases-loop-from l = length l.text - l.from
