-- Where the pieces of a text are.
use Rattle.std.specs.Prelude.{◌≡◌, ℕ, ◌+◌, Bool, List, ◌∷◌, ◌++◌, length, take, drop, Some}
use Rattle.std.specs.List.{sum_by}
use Rattle.pgn_pieces.specs.Stream.{PieceSeen, pieces_seen}
use Rattle.pgn_pieces.specs.Places.{line_of, column_of}

-- a piece of a text, after the pieces `before`: its bytes, unless it is too long, are those at its offset; a line
-- begins there, as its column is 1; the line's number is one more than the number of line ends in the pieces before
pub record IsInPlace (text : List ℕ) (before : List PieceSeen) (piece : PieceSeen) : Type 0 where
  pub bytes : (bytes : List ℕ) → piece.bytes ≡ Some bytes → take (length bytes) (drop piece.offset text) ≡ bytes
  pub line : line_of text piece.offset ≡ sum_by (λ (p : PieceSeen). p.line_ends) before + 1
  pub column : column_of text piece.offset ≡ 1

-- each piece of a text is where its offset says, as `IsInPlace` has it; `ended`: the text is all of the input
abbrev pub PiecesAreInPlace : Type 0
PiecesAreInPlace = (ended : Bool) (text : List ℕ) (before : List PieceSeen) (piece : PieceSeen) (after : List PieceSeen)
    → pieces_seen ended 0 text ≡ before ++ piece ∷ after → IsInPlace text before piece
