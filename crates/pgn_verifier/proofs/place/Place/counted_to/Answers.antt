-- Line and column are known at this place or, if it is after the offset, at the text's beginning
-- (Placed.known_at_start), and are counted on from there. They are bounded by the bytes before them, so nothing
-- overflows.
use Rattle.std.proofs.Common.{sym, subst, arith}
use Rattle.pgn_verifier.specs.ties.Counting.{Known}
use Rattle.pgn_verifier.proofs.Placed.{known_at_start}
use Rattle.pgn_verifier.proofs.place.Place.counted_to.Goals as goal

pub moved_to-requires-clause-line : goal.moved_to-requires-clause-line
moved_to-requires-clause-line c =
    let line = c.requires.known.line in
    let offset = c.requires.known.offset in
    let few = c.requires.few_lines in omega (arith, line, offset, few)

pub moved_to-requires-clause-column : goal.moved_to-requires-clause-column
moved_to-requires-clause-column c =
    let column = c.requires.known.column in
    let offset = c.requires.known.offset in
    let few = c.requires.few in omega (arith, column, offset, few)

pub returns-then-self-offset-clause-known : goal.returns-then-self-offset-clause-known
returns-then-self-offset-clause-known c = c.moved_to.ensures.known c.args.explain c.requires.known

pub returns-clause-known : goal.returns-clause-known
returns-clause-known c =
    c.moved_to-2.ensures.known c.args.explain (subst (Known c.args.explain c.args.text.now) (sym c.at_start.ensures)
    (known_at_start c.args.explain c.args.text.now c.args.self.start))
