-- The score counts the outcomes of the games, which are those of their lines `[Result ..]` (Summed), given the laws
-- that are called: a game's moves are legal, and its outcome is the one reported.
use Rattle.match_pgn_laws.proofs.Summed.{scores_are_sums}
use Rattle.match_pgn_laws.proofs.laws.scores_are_sums.Goals as goal

pub returns : goal.returns
returns c = scores_are_sums c.games_are_lines.ensures c.verdicts_end_matches.ensures.outcomes
