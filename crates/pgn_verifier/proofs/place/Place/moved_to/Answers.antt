-- If a place has the line and the column of its offset, the place counted on from it has those of the new offset
-- (Placed.known_on).
use Rattle.std.proofs.Common.{◌+◌, ap}
use Rattle.pgn_verifier.proofs.Placed.{known_on}
use Rattle.pgn_verifier.proofs.place.Place.moved_to.Goals as goal

pub returns-clause-known : goal.returns-clause-known
returns-clause-known c explain known =
    known_on explain c.args.text.now c.args.self c.args.offset _ _ known c.requires.forward c.requires.within
    (ap (λ n. c.args.self.line + n) c.line_ends.ensures.value) c.column_on.ensures
