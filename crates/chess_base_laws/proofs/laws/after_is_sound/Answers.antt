-- A legal move of a sound position leaves a sound position: IsSound-after of chess_base's StaysSound, which its
-- shared/LegalMoves passes on.
use Rattle.chess_base.proofs.shared.LegalMoves.{IsSound-after}
use Rattle.chess_base_laws.proofs.laws.after_is_sound.Goals as goal

pub returns : goal.returns
returns c = IsSound-after
