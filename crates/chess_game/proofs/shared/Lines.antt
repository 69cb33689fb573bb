-- The position after a game's moves: how one more move changes it (position_after-snoc), that the variant stays
-- (variant-position_after), and that legal moves from a sound start lead to a sound position (IsSound-position_after).
-- Each by induction over the moves. For crates that follow a game.
use Rattle.std.proofs.Common.{◌≡◌, List, [], ◌∷◌, ◌++◌, refl, ◌∙◌}
use Rattle.chess_base.specs.{declared.man.Move.Move, declared.setup.Setup.Setup, Moves.after, Sound.IsSound}
use Rattle.chess_base.proofs.{shared.After.variant-after, shared.LegalMoves.IsSound-after}
use Rattle.chess_game.specs.Line.{IsLine, position_after}

-- the position after moves and one more
pub position_after-snoc : (start : Setup) (ms : List Move) (m : Move)
    → position_after start (ms ++ m ∷ []) ≡ after (position_after start ms) m
position_after-snoc start [] m = refl
position_after-snoc start (x ∷ ms) m = position_after-snoc (after start x) ms m

-- the position after moves is of the variant of the start
pub variant-position_after : (p : Setup) (ms : List Move) → (position_after p ms).variant ≡ p.variant
variant-position_after p [] = refl
variant-position_after p (m ∷ ms) = variant-position_after (after p m) ms ∙ variant-after p m

-- the position after legal moves is sound if the start is
pub IsSound-position_after : (p : Setup) (ms : List Move) → IsSound p → IsLine p ms → IsSound (position_after p ms)
IsSound-position_after p [] sound line = sound
IsSound-position_after p (m ∷ ms) sound line =
    IsSound-position_after (after p m) ms (IsSound-after p m sound line.0) line.1
