-- Between two squares that are not in reach of one another (`is_in_reach`) the list of legal moves is empty
-- (none_between), since each legal move is in reach (legal_in_reach of Reach).
use Rattle.std.proofs.Common.{◌≡◌, ℕ, false, []}
use Rattle.std.proofs.lemmas.Bool.{false_from_ne_true, both_ways}
use Rattle.chess_base.specs.{declared.setup.Setup.Setup, MoveList.promotions, MoveList.move_of}
use Rattle.chess_moves.specs.{ties.Candidates.is_in_reach, shared.MovesBySquares.moves_between}
use Rattle.chess_moves.proofs.{Reach.legal_in_reach, shared.MovesBySquares.none_with}

-- between two squares out of reach no move is legal, with whatever promotion, by legal_in_reach of Reach
pub none_between : (p : Setup) (a b : ℕ) → is_in_reach a b ≡ false → moves_between p a b ≡ []
unfolding moves_between
none_between p a b n =
    none_with p a b promotions (λ k. false_from_ne_true _ (λ e. both_ways _ n (legal_in_reach p (move_of a b k) e)))
