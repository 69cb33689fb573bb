-- The clock is read and the silence noted, which are two steps of the table; then the core goes on by the silence
-- (`MatchState::silent`).
use Rattle.std.proofs.Common.{◌∷◌, []}
use Rattle.chess_match.specs.{Events.Silent, Notes.Happened, Table.ReadsClock, Table.Notes}
use Rattle.chess_match.proofs.Passings.{passed_more}
use Rattle.chess_match.proofs.run.take_silence.Goals as goal

pub returns-clause-taken : goal.returns-clause-taken
returns-clause-taken g c = (
  c.moment-moment.result,
  passed_more _ _ _ (ReadsClock c.args.side c.moment-moment.result ∷ [])
      (Notes (Happened (Silent c.args.side c.moment-moment.result)) ∷ [])
      c.moment-moment.ensures.passes c.note.ensures.passes,
  λ r m p aw s. c.silent.ensures r m p aw s,
)
