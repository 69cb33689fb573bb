-- The loop's invariant: the text without its end spaces and tabs is the same for the first `to` bytes as for the whole.
-- What decreases is `to`.
use Rattle.std.proofs.Common.{length, take, ◌≡◌, ◌≤◌}
use Rattle.text_lines.specs.Lines.{without_end_blanks}
use Rattle.text_lines.proofs.trim.cut_end.Given as goal

abbrev pub invariant-loop-to : goal.invariant-loop-to
invariant-loop-to l = record {
  front : without_end_blanks (take l.to l.text) ≡ without_end_blanks l.text;
  in_range : l.to ≤ length l.text;
}

abbrev pub decreases-loop-to : goal.decreases-loop-to
decreases-loop-to l = l.to
