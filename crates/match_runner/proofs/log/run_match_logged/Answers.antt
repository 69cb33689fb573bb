-- The log was begun anew and then given the notes of the match as its witness, so it has the log of these notes
-- (Logged.notes_logged).
use Rattle.chess_match.specs.laws.Laws.{notes_given}
use Rattle.match_runner.proofs.Logged.{notes_logged}
use Rattle.match_runner.proofs.log.run_match_logged.Goals as goal

pub returns : goal.returns
returns g c =
    let r = c.run_match_watched.ensures.ran in
    record {
      ran = (
        r.0,
        r.1,
        notes_logged _ _ _ _ _ _ _ _ (notes_given r.1 r.0) c.begin.ensures.log r.2,
        r.3,
      );
    }
