-- Squares that are not empty, and what is on the squares later.
use Rattle.std.specs.Prelude.{ℕ, ◌<◌, ◌≡◌, not, ◌&&◌, ◌||◌, is_none}
use Rattle.chess_base.specs.declared.man.Colour.{Colour}
use Rattle.chess_base.specs.declared.man.Kind.{Kind}
use Rattle.chess_base.specs.Men.{Men, man_at, is_man}
use Rattle.chess_moves.specs.Sets.{contains}

-- of the 64 squares, the set w has exactly those that are not empty
pub record IsOccupied (w : ℕ) (men : Men) : Type 0 where
  pub of_men : (k : ℕ) → k < 64 → contains w k ≡ not (is_none (man_at men k))

-- the pieces `men` become `later`, as by a move of the other colour than c: a square is occupied later exactly if it is
-- in the set `filled`, or was occupied and is not in the set `changed`; a piece of colour c is on a square later
-- exactly if it was there before and the square is not in `changed`
pub record IsLater (changed filled : ℕ) (c : Colour) (men later : Men) : Type 0 where
  pub of_all : (k : ℕ) → k < 64 → (contains filled k || (not (is_none (man_at men k)) && not (contains changed k)))
      ≡ not (is_none (man_at later k))
  pub of_man : (kind : Kind) (k : ℕ) → k < 64
      → (is_man c kind (man_at men k) && not (contains changed k)) ≡ is_man c kind (man_at later k)
