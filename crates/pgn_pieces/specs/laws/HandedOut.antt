-- Before the first read, the pieces still to come are those that a text is cut into.
use Rattle.std.specs.Prelude.{◌≡◌, ℕ, Bool, List, []}
use Rattle.pgn_pieces.specs.Stream.{pieces_seen, pieces_after_part}

-- before the first read, the pieces still to come are those that the text is cut into (that each call returns the first
-- of the pieces still to come is said by `Next`). `ended`: the text is all of the input
abbrev pub PiecesAreCut : Type 0
PiecesAreCut = (ended : Bool) (text : List ℕ) → pieces_seen ended 0 text ≡ pieces_after_part ended 0 [] text
