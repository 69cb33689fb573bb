-- Lines and columns, counted from one offset of a text to the next.
use Rattle.std.specs.Prelude.{◌≡◌, ◌≤◌, ◌<◌, ℕ, ◌+◌, ◌==◌, Bool, true, not, if◌then◌else◌, List, length}
use Rattle.std.specs.List.{suffix_len}
use Rattle.pgn_pieces.specs.Places.{breaks_line, line_of, column_of}
use Rattle.pgn_verifier.specs.declared.place.Place.{Place}
use Rattle.pgn_verifier.specs.ties.OnTheWay.{StandsIf}

-- the column right after these bytes, the first of which is in the column `column`
abbrev pub column_on : ℕ → List ℕ → ℕ
column_on column bytes = let last = suffix_len (λ c. not (breaks_line c)) bytes in
    if last == length bytes then column + last else last + 1

-- `place` has the line and the column that its offset has in the input
pub record IsHere (place : Place) (input : List ℕ) : Type 0 where
  pub line : line_of input (place.start.offset + place.offset) ≡ place.line
  pub column : column_of input (place.start.offset + place.offset) ≡ place.column

-- if faults are explained and the text is in the input where `place.start` says, `place` has the line and the column
-- that its offset has there; in any case the bytes before it bound them, so that they don't overflow
pub record Known (explain : Bool) (text : List ℕ) (place : Place) : Type 0 where
  pub offset : place.offset ≤ length text
  pub line : place.line ≤ place.start.line + place.offset
  pub column : place.column ≤ 1 + place.offset
  pub some : 0 < place.column
  pub here : (input : List ℕ) → StandsIf explain place.start input text → explain ≡ true → IsHere place input
