-- The loop's invariant: the lines of the tags so far were added, and prefix, writer and column are as before.
use Rattle.std.proofs.Common.{◌≡◌, take}
use Rattle.pgn_writer.specs.{ties.Waiting.TookSome, Written.ended, ties.TagLines.tag_lines_of}
use Rattle.pgn_writer.proofs.tag_lines.put_tags.Given as goal

abbrev pub invariant-loop-tag : goal.invariant-loop-tag
invariant-loop-tag g l = let seen = g.W.Output.seen in record {
  added : TookSome (seen l.fn.lines.writer.now) (seen l.lines.writer.now) l.fn.lines.waiting l.lines.waiting
      (ended l.fn.lines.prefix.now (tag_lines_of (take l.tag-index l.tags)));
  prefix : l.lines.prefix.now ≡ l.fn.lines.prefix.now;
  writer : l.lines.writer.ghost_name ≡ l.fn.lines.writer.ghost_name;
  column : l.lines.column ≡ l.fn.lines.column;
}
