-- Three steps log one byte: room is made for it, it is put with the bytes that wait (Logged.adds_pending), and they are
-- written if it ends a line; their effects are joined by Logged.adds_more.
use Rattle.std.proofs.Common.{[], ◌∷◌, refl}
use Rattle.match_runner.proofs.Logged.{adds_more, adds_pending}
use Rattle.match_runner.proofs.log.Pending.add.Goals as goal

pub returns-clause-adds : goal.returns-clause-adds
returns-clause-adds g c =
    adds_more _ _ _ _ _ _ (c.args.byte ∷ []) []
    (adds_more _ _ _ _ _ _ [] (c.args.byte ∷ []) c.make_room.ensures.adds
    (adds_pending _ _ _ c.args.byte refl c.push.ensures.items)) c.end_line.ensures.adds
