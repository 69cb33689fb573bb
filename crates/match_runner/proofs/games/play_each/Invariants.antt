-- The loop's invariant (GamesWritten.SoFar): the first `number` games of the plan were played without a fault, written,
-- logged and counted in the score, and the next has the number `number + 1`. The measure is how many games are left.
use Rattle.std.proofs.Common.{◌≡◌, ◌+◌, ◌-◌, List}
use Rattle.match_runner.specs.{Games.GameRecord, Log.log_seen}
use Rattle.match_runner.proofs.GamesWritten.{SoFar}
use Rattle.match_runner.proofs.games.play_each.Given as goal
use Rattle.chess_game.specs.declared.game.TheConstants.{MOST_MOVES}

abbrev pub invariant-loop-number : goal.invariant-loop-number
invariant-loop-number g l =
    ((g.T.GamesTable.game l.table).limit ≡ MOST_MOVES) × (games : List GameRecord)
    × SoFar l.plan (g.T.GamesTable.coming l.fn.table) (g.T.GamesTable.coming l.table)
    (g.T.GamesTable.to_come l.fn.table) (g.T.GamesTable.to_come l.table)
    (g.W.Output.seen l.fn.output) (g.W.Output.seen l.output)
    (log_seen (g.E.Output.seen l.fn.log.output) l.fn.log.broken)
    (log_seen (g.E.Output.seen l.log.output) l.log.broken)
    (l.number + 1) l.score games

abbrev pub decreases-loop-number : goal.decreases-loop-number
decreases-loop-number g l = l.plan.games - l.number
