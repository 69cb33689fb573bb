-- The games of a match are legal, end at a verdict and have the outcomes reported, and written games have no fault (the
-- laws that are called), so `verify` accepts what the match wrote above its score (Verified.matches_pass_verify).
use Rattle.match_pgn_laws.proofs.Verified.{matches_pass_verify}
use Rattle.match_pgn_laws.proofs.laws.matches_pass_verify.Goals as goal

pub returns : goal.returns
returns c =
    matches_pass_verify c.games_are_lines.ensures c.games_end_at_verdicts.ensures c.verdicts_end_matches.ensures.outcomes
    c.reports_are_the_only_ones.ensures.text c.reports_are_the_only_ones.ensures.plain c.written_texts_have_no_fault.ensures
