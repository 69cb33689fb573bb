-- White's last lines are noted and sent, and then Black's; the steps of the two calls, one after the other, are all
-- that passed.
use Rattle.std.proofs.Common.{◌≡◌, ◌<◌, length, true}
use Rattle.chess_base.specs.ByColour.{by_colour}
use Rattle.chess_match.proofs.{LineNeeds.both_sides, Passings.passed_more}
use Rattle.chess_match.proofs.run.send_last.Goals as goal

pub returns-clause-sent : goal.returns-clause-sent
returns-clause-sent g c r items e p goes w b =
    let white = c.note_and_send-white_failed.ensures.sends r items e p goes w in
    let black = c.note_and_send-black_failed.ensures.sends r items e p goes b in (
      passed_more _ _ _ _ _ white.0 black.0,
      both_sides (λ S. by_colour c.note_and_send-white_failed.result c.note_and_send-black_failed.result S ≡ true
          → 0 < length (e.to S)) white.1 black.1,
    )
