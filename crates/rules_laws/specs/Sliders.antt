-- What rook, bishop and queen attack with pieces in their way, as diagrams (Laws of Chess 2023, articles 3.2 to 3.5).
use Rattle.std.specs.Prelude.{◌≡◌, ℕ, ◌==◌, Bool, List, [], ◌∷◌, codes, map, flat_map, reverse}
use Rattle.chess_base.specs.declared.man.Colour.{Colour}
use Rattle.chess_base.specs.declared.man.Kind.TheVariants.{Queen, Rook, Bishop}
use Rattle.chess_base.specs.Attacks.{could_capture}
use Rattle.chess_base.specs.Letters.{man_with_letter}
use Rattle.byte_devices.specs.Bytes.{byte}
use Rattle.chess_base.specs.Men.{Men}
use Rattle.rules_laws.specs.Names.{square}
use Rattle.rules_laws.specs.Reach.{all_squares}

-- a board with pieces about d4, from rank 8 to rank 1; White's have capital letters
abbrev pub board : List (List ℕ)
board =
    codes "...n...." ∷
    codes "...p..b." ∷
    codes ".p......" ∷
    codes "........" ∷
    codes ".N....P." ∷
    codes "........" ∷
    codes "...B...." ∷
    codes "R..q..k." ∷ []

-- what a rook on d4 of `board` attacks, marked by x
abbrev pub by_rook : List (List ℕ)
by_rook =
    codes "........" ∷
    codes "...x...." ∷
    codes "...x...." ∷
    codes "...x...." ∷
    codes ".xx.xxx." ∷
    codes "...x...." ∷
    codes "...x...." ∷
    codes "........" ∷ []

-- what a bishop on d4 of `board` attacks, marked by x
abbrev pub by_bishop : List (List ℕ)
by_bishop =
    codes "........" ∷
    codes "......x." ∷
    codes ".x...x.." ∷
    codes "..x.x..." ∷
    codes "........" ∷
    codes "..x.x..." ∷
    codes ".x...x.." ∷
    codes "x.....x." ∷ []

-- what a queen on d4 of `board` attacks, marked by x
abbrev pub by_queen : List (List ℕ)
by_queen =
    codes "........" ∷
    codes "...x..x." ∷
    codes ".x.x.x.." ∷
    codes "..xxx..." ∷
    codes ".xx.xxx." ∷
    codes "..xxx..." ∷
    codes ".x.x.x.." ∷
    codes "x.....x." ∷ []

-- the pieces of a diagram, from a1 to h8; a dot is an empty square
abbrev pub men_of : List (List ℕ) → Men
men_of rows = flat_map (map man_with_letter) (reverse rows)

-- whether each square of a diagram is marked, from a1 to h8
abbrev pub marks_of : List (List ℕ) → List Bool
marks_of rows = flat_map (map (λ c. c == byte "x")) (reverse rows)

-- on `board` rook, bishop and queen of colour c on d4 could capture on just the squares marked
pub record ReachIsByDiagrams (c : Colour) : Type 0 where
  pub rook : map (could_capture (men_of board) c Rook (square "d4")) all_squares ≡ marks_of by_rook
  pub bishop : map (could_capture (men_of board) c Bishop (square "d4")) all_squares ≡ marks_of by_bishop
  pub queen : map (could_capture (men_of board) c Queen (square "d4")) all_squares ≡ marks_of by_queen

-- `ReachIsByDiagrams` holds for both colours
abbrev pub DiagramsHold : Type 0
DiagramsHold = (c : Colour) → ReachIsByDiagrams c
