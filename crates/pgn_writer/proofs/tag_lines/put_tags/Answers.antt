-- If the lines of the first tags and then one more were added, those with it were (TagLines.tags_more). If the writer
-- fails at a line, it took a beginning of the lines of all tags (TagLines.tags_break).
use Rattle.std.proofs.Common.{◌∙◌}
use Rattle.pgn_writer.proofs.{Added.adds_exit, TagLines.tags_more, TagLines.tags_break}
use Rattle.pgn_writer.proofs.tag_lines.put_tags.Goals as goal

pub returns-in_err-put_line-clause-added : goal.returns-in_err-put_line-clause-added
returns-in_err-put_line-clause-added g c =
    let l = c.loop-tag in
    adds_exit _ _ c.from_residual.result _ _ _
    (tags_break _ _ _ _ _ _ _ _ c.args.tags.now l.tag-index c.tag-item.result c.loop-tag-test.true l.invariant.prefix
    (c.as_slice.ensures.value ∙ c.tag_line-line.ensures) c.tag-item.is l.invariant.added
    c.in_err-put_line.ensures.added)
    c.from_residual.ensures.0

pub loop-tag-preserved : goal.loop-tag-preserved
loop-tag-preserved g c =
    let l = c.loop-tag in
    record {
      added = tags_more _ _ _ _ _ _ _ _ _ c.args.tags.now l.tag-index c.tag-item.result c.loop-tag-test.true
          l.invariant.prefix (c.as_slice.ensures.value ∙ c.tag_line-line.ensures) c.tag-item.is l.invariant.added
          c.in_ok-put_line.ensures.added;
      prefix = c.in_ok-put_line.ensures.prefix ∙ l.invariant.prefix;
      writer = c.in_ok-put_line.ensures.writer ∙ l.invariant.writer;
      column = c.in_ok-put_line.ensures.column ∙ l.invariant.column;
    }
