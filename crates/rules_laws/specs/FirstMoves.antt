-- The moves of the initial position, by name.
use Rattle.std.specs.Prelude.{◌≡◌, ℕ, List, [], ◌∷◌, codes, map}
use Rattle.chess_base.specs.declared.man.Variant.{Variant}
use Rattle.chess_base.specs.Coordinates.{coordinate}
use Rattle.chess_base.specs.Initial.{initial_setup_of}
use Rattle.chess_base.specs.MoveList.{moves}

-- the 20 moves of the initial position: four of knights, and each pawn by one square or two
abbrev pub first_moves : List (List ℕ)
first_moves =
    codes "b1a3" ∷ codes "b1c3" ∷ codes "g1f3" ∷ codes "g1h3" ∷
    codes "a2a3" ∷ codes "a2a4" ∷ codes "b2b3" ∷ codes "b2b4" ∷
    codes "c2c3" ∷ codes "c2c4" ∷ codes "d2d3" ∷ codes "d2d4" ∷
    codes "e2e3" ∷ codes "e2e4" ∷ codes "f2f3" ∷ codes "f2f4" ∷
    codes "g2g3" ∷ codes "g2g4" ∷ codes "h2h3" ∷ codes "h2h4" ∷ []

-- the legal moves of the initial position, in either variant, are `first_moves`, in this order
abbrev pub FirstMovesAreThese : Type 0
FirstMovesAreThese = (v : Variant) → map coordinate (moves (initial_setup_of v)) ≡ first_moves
