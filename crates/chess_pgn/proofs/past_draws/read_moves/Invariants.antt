-- The loop's invariant: `game` is begun anew in the position after `plies` half-moves, and reading on from `offset`
-- gives what reading from `at` gives (Again of PastDraws). What decreases is the number of bytes after `offset`.
use Rattle.std.proofs.Common.{◌≡◌, false, length, ◌-◌}
use Rattle.chess_game.specs.{Game.from_start, declared.game.TheConstants.MOST_MOVES}
use Rattle.chess_pgn.specs.GameRead.{moves_read}
use Rattle.pgn_tokens.specs.Tokens.{tokens_from}
use Rattle.chess_pgn.proofs.PastDraws.{Again}
use Rattle.chess_pgn.proofs.past_draws.read_moves.Given as goal

abbrev pub invariant-loop-token : goal.invariant-loop-token
invariant-loop-token g l = Again l.text l.termination
    (moves_read false MOST_MOVES (length l.text) l.termination (from_start l.start) (tokens_from l.text l.at)) l.game
    l.plies l.offset
    × (l.game.limit ≡ l.fn.game.limit)

abbrev pub decreases-loop-token : goal.decreases-loop-token
decreases-loop-token g l = length l.text - l.offset
