-- Squares by their names.
use Prim.Native.String.{String as Text}
use Rattle.std.specs.Prelude.{ℕ, List, [], ◌∷◌, codes, slice_index_or}
use Rattle.std.specs.List.{position_or_len}
use Rattle.std.specs.Str.{bytes_eq}

-- the names of all squares in the order of their numbers: a1 is square 0, h8 is square 63
abbrev pub square_names : List (List ℕ)
square_names =
    codes "a1" ∷ codes "b1" ∷ codes "c1" ∷ codes "d1" ∷ codes "e1" ∷ codes "f1" ∷ codes "g1" ∷ codes "h1" ∷
    codes "a2" ∷ codes "b2" ∷ codes "c2" ∷ codes "d2" ∷ codes "e2" ∷ codes "f2" ∷ codes "g2" ∷ codes "h2" ∷
    codes "a3" ∷ codes "b3" ∷ codes "c3" ∷ codes "d3" ∷ codes "e3" ∷ codes "f3" ∷ codes "g3" ∷ codes "h3" ∷
    codes "a4" ∷ codes "b4" ∷ codes "c4" ∷ codes "d4" ∷ codes "e4" ∷ codes "f4" ∷ codes "g4" ∷ codes "h4" ∷
    codes "a5" ∷ codes "b5" ∷ codes "c5" ∷ codes "d5" ∷ codes "e5" ∷ codes "f5" ∷ codes "g5" ∷ codes "h5" ∷
    codes "a6" ∷ codes "b6" ∷ codes "c6" ∷ codes "d6" ∷ codes "e6" ∷ codes "f6" ∷ codes "g6" ∷ codes "h6" ∷
    codes "a7" ∷ codes "b7" ∷ codes "c7" ∷ codes "d7" ∷ codes "e7" ∷ codes "f7" ∷ codes "g7" ∷ codes "h7" ∷
    codes "a8" ∷ codes "b8" ∷ codes "c8" ∷ codes "d8" ∷ codes "e8" ∷ codes "f8" ∷ codes "g8" ∷ codes "h8" ∷ []

-- the name of a square
abbrev pub name_of : ℕ → List ℕ
name_of s = slice_index_or square_names s []

-- the number of the square with this name: `square "e4"` is 28
abbrev pub square : Text → ℕ
square name = position_or_len (bytes_eq (codes name)) square_names
