-- The loop's invariant: the text without its front spaces and tabs is the same from `from` on as for the whole. What
-- decreases is the number of bytes from `from` on.
use Rattle.std.proofs.Common.{length, drop, ◌-◌, ◌≡◌, ◌≤◌}
use Rattle.text_lines.specs.Lines.{without_front_blanks}
use Rattle.text_lines.proofs.trim.trim_start.Given as goal

abbrev pub invariant-loop-from : goal.invariant-loop-from
invariant-loop-from l = record {
  rest : without_front_blanks (drop l.from l.text) ≡ without_front_blanks l.text;
  in_range : l.from ≤ length l.text;
}

abbrev pub decreases-loop-from : goal.decreases-loop-from
decreases-loop-from l = length l.text - l.from
