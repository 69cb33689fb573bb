-- A line with its end, by lemmas of SeenLines: it is the rest of a line of the piece (whole_inside), or a line that
-- begins the next piece (whole_ends) or belongs to this one (whole_comes).
use Rattle.std.proofs.Common.{refl, sym, ◌∙◌}
use Rattle.pgn_pieces.proofs.SeenLines.{whole_inside, whole_ends, whole_comes}
use Rattle.pgn_pieces.proofs.piece_end.Seen.see_whole.Goals as goal

pub returns-then-self : goal.returns-then-self
returns-then-self c piece h =
    whole_inside c.args.self.now c.if-self.true piece h _ c.args.line.now c.requires.whole refl refl refl

pub returns-then-ends_at : goal.returns-then-ends_at
returns-then-ends_at c piece more h =
    let k = c.kind_of-kind.ensures in
    whole_ends c.args.self.now c.if-self.false c.kind_of-kind.result c.args.line.now k.tag k.event piece h
    c.requires.whole (sym c.ends_at.ensures ∙ c.if-ends_at.true) more

pub returns : goal.returns
returns c piece h =
    let k = c.kind_of-kind.ensures in
    let new = c.add.ensures in
    whole_comes c.args.self.now c.if-self.false c.kind_of-kind.result c.args.line.now k.tag k.event piece h
    c.add.new.self k.moves (sym c.ends_at.ensures ∙ c.if-ends_at.false) new.moves new.event c.requires.whole new.inside
