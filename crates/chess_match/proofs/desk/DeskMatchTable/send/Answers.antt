-- For White's pipe and for Black's: the text was written and flushed, or a call failed (SentNow), which is one step at
-- the table, of any lines with these bytes (AtDesk.send_moves). All other devices stay as they were.
use Rattle.std.proofs.Common.{refl, is_err}
use Rattle.chess_base.specs.declared.man.Colour.TheVariants.{White, Black}
use Rattle.chess_match.proofs.{AtDesk.send_moves, SentNow.sent_now}
use Rattle.chess_match.proofs.desk.DeskMatchTable.send.Goals as goal

pub returns-in-White-clause-passes : goal.returns-in-White-clause-passes
returns-in-White-clause-passes g c lines e =
    rw c.in-White.is (send_moves _ _ _ _ _ _ White (is_err c.send.result) lines
    (rw e (sent_now _ _ c.send.result _ c.send.ensures)) refl refl)

pub returns-in-Black-clause-passes : goal.returns-in-Black-clause-passes
returns-in-Black-clause-passes g c lines e =
    rw c.in-Black.is (send_moves _ _ _ _ _ _ Black (is_err c.send-in-Black.result) lines
    (rw e (sent_now _ _ c.send-in-Black.result _ c.send-in-Black.ensures)) refl refl)
