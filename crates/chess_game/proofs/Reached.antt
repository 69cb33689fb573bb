-- The positions of a game (`positions_of`) are its start and those that its played moves reached (reached_are): by
-- induction over the played moves, since by `Follows` each reached the position after its move.
use Rattle.std.proofs.Common.{◌≡◌, ◌∙◌, List, [], ◌∷◌, refl, sym, ap}
use Rattle.chess_base.specs.declared.setup.Setup.{Setup}
use Rattle.chess_game.specs.{Line.positions_of, ties.PlayedMoves.moves_of, ties.PlayedMoves.Follows, ties.PositionsLeft.positions_reached, declared.game.PlayedMove.PlayedMove}

-- by induction: each played move reached the position after it
pub reached_are : (p : Setup) (xs : List PlayedMove) → Follows p xs
    → positions_of p (moves_of xs) ≡ p ∷ positions_reached xs
reached_are p [] f = refl
reached_are p (x ∷ xs) f =
    ap (λ qs. p ∷ qs)
    (ap (λ v. positions_of v (moves_of xs)) (sym f.0.left) ∙ reached_are x.reached.position xs f.2)
