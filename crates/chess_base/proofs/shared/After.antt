-- For games: the position after a move is of the variant of the one before it (variant-after), by the definition.
use Rattle.std.proofs.Common.{◌≡◌, refl}
use Rattle.chess_base.specs.{declared.man.Move.Move, declared.setup.Setup.Setup, Moves.after}

-- the position after a move is of the variant of the one before it
pub variant-after : (p : Setup) (m : Move) → (after p m).variant ≡ p.variant
unfolding after
variant-after p m = refl
