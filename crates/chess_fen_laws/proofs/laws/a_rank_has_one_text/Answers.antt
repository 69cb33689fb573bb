-- The text written for a rank denotes it and has no two digits side by side (rank_text_is of OneRankText); no other
-- text does both (only_rank_text).
use Rattle.chess_fen_laws.proofs.OneRankText.{rank_text_is, only_rank_text}
use Rattle.chess_fen_laws.proofs.laws.a_rank_has_one_text.Goals as goal

pub returns-clause-written : goal.returns-clause-written
returns-clause-written c = rank_text_is

pub returns-clause-no_other : goal.returns-clause-no_other
returns-clause-no_other c = only_rank_text
