-- The two tags of the array, or in normal chess the first alone, are those of the definition for this variant; the text
-- of Termination is the one that the definition names.
use Rattle.std.proofs.Common.{sym, subst, codes, [], ◌∷◌}
use Rattle.pgn_writer.specs.{shared.TagGroups.last_lines, ties.Waiting.Adds, Written.tag_line, Written.ended}
use Rattle.pgn_writer.proofs.write.put_last.Goals as goal

pub returns-in-Normal-clause-added : goal.returns-in-Normal-clause-added
returns-in-Normal-clause-added g c =
    let same = subst (λ v. Adds (g.W.Output.seen c.args.lines.now.writer.now) (g.W.Output.seen c.put_tags.new.lines.writer.now)
    c.args.lines.now.waiting c.put_tags.new.lines.waiting c.put_tags.result
    (ended c.args.lines.now.prefix.now (tag_line (codes "Termination") v ∷ []))) c.text.ensures.value
    c.put_tags.ensures.added in
    subst (λ u. Adds (g.W.Output.seen c.args.lines.now.writer.now) (g.W.Output.seen c.put_tags.new.lines.writer.now)
    c.args.lines.now.waiting c.put_tags.new.lines.waiting c.put_tags.result
    (ended c.args.lines.now.prefix.now (last_lines u c.args.termination))) (sym c.in-Normal.is) same

pub returns-in-Fischerandom-clause-added : goal.returns-in-Fischerandom-clause-added
returns-in-Fischerandom-clause-added g c =
    let same = subst (λ v. Adds (g.W.Output.seen c.args.lines.now.writer.now)
    (g.W.Output.seen c.put_tags-in-Fischerandom.new.lines.writer.now) c.args.lines.now.waiting
    c.put_tags-in-Fischerandom.new.lines.waiting c.put_tags-in-Fischerandom.result
    (ended c.args.lines.now.prefix.now
    (tag_line (codes "Termination") v ∷ tag_line (codes "Variant") (codes "fischerandom") ∷ [])))
    c.text.ensures.value c.put_tags-in-Fischerandom.ensures.added in
    subst (λ u. Adds (g.W.Output.seen c.args.lines.now.writer.now) (g.W.Output.seen c.put_tags-in-Fischerandom.new.lines.writer.now)
    c.args.lines.now.waiting c.put_tags-in-Fischerandom.new.lines.waiting c.put_tags-in-Fischerandom.result
    (ended c.args.lines.now.prefix.now (last_lines u c.args.termination))) (sym c.in-Fischerandom.is) same
