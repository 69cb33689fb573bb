-- A line without its end, by lemmas of SeenLines: it is more of a line of the piece (open_inside), begins the next
-- piece (open_ends), or is undecided yet (open_waits). With 256 bytes or more its kind is known, however it goes on
-- (LineKinds.decided_long), so it belongs to the piece (open_comes).
use Rattle.std.proofs.Common.{refl, sym, ◌∙◌, arith}
use Rattle.pgn_pieces.proofs.LineKinds.{decided_long}
use Rattle.pgn_pieces.proofs.SeenLines.{open_inside, open_ends, open_waits, open_comes}
use Rattle.pgn_pieces.proofs.piece_end.Seen.see_open.Goals as goal

pub returns-then-self : goal.returns-then-self
returns-then-self c = (
  c.requires.plain.0,
  omega arith,
  λ piece h. open_inside c.args.self.now c.if-self.true piece h c.args.line.now c.requires.plain.1,
)

pub returns-then-ends_at : goal.returns-then-ends_at
returns-then-ends_at c piece h =
    let k = c.kind_of-kind.ensures in
    open_ends c.args.self.now c.if-self.false c.kind_of-kind.result c.args.line.now k.tag k.event piece h
    c.requires.plain.0 c.requires.plain.1 (sym c.ends_at.ensures ∙ c.if-ends_at.true)

pub returns-then-line-lt-FRONT_LEN : goal.returns-then-line-lt-FRONT_LEN
returns-then-line-lt-FRONT_LEN c = (
  refl,
  λ piece h. (let k = c.kind_of-kind.ensures in
      open_waits c.args.self.now c.if-self.false c.kind_of-kind.result c.args.line.now k.tag k.event piece h
      c.requires.plain.1 (sym c.ends_at.ensures ∙ c.if-ends_at.false)),
)

pub returns : goal.returns
returns c =
    let k = c.kind_of-kind.ensures in
    let new = c.add.ensures in
    let long = c.if-line-lt-FRONT_LEN.false in (
      c.requires.plain.0,
      omega arith,
      λ piece h. open_comes c.args.self.now c.if-self.false c.kind_of-kind.result c.args.line.now k.tag k.event piece h
          c.add.new.self k.moves (sym c.ends_at.ensures ∙ c.if-ends_at.false) new.moves new.event
          c.requires.plain.1 (decided_long c.args.line.now (omega (arith, long))) new.inside,
    )
