-- For White's pipe and for Black's: a call for the next line is two steps at the table, the look and what it found
-- (AtDesk.read_moves). The other pipes, the clock and the witness stay as they were.
use Rattle.std.proofs.Common.{refl}
use Rattle.chess_base.specs.declared.man.Colour.TheVariants.{White, Black}
use Rattle.chess_match.proofs.AtDesk.{read_moves}
use Rattle.chess_match.proofs.desk.DeskMatchTable.read_line.Goals as goal

pub returns-in-White-clause-passes : goal.returns-in-White-clause-passes
returns-in-White-clause-passes g c =
    rw c.in-White.is (read_moves _ _ _ _ _ _ _ White _ _ c.read_line.ensures.next refl refl refl)

pub returns-in-Black-clause-passes : goal.returns-in-Black-clause-passes
returns-in-Black-clause-passes g c =
    rw c.in-Black.is (read_moves _ _ _ _ _ _ _ Black _ _ c.read_line-in-Black.ensures.next refl refl refl)
