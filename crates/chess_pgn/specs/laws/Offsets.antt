-- Where in its text a game's faults and moves are.
use Rattle.std.specs.Prelude.{◌≤◌, ℕ, ◌+◌, Bool, List, length, IfOk, IfErr, IfSome}
use Rattle.chess_pgn.specs.GameRead.{pgn_read}

-- if a text that is read from the offset `at` on has a fault, its offset is from `at` to the text's length; `limit` is
-- the most half-moves of a game, and `draws` says whether fivefold repetition and 75 moves end it
abbrev pub FaultsHaveOffsets : Type 0
FaultsHaveOffsets = (draws : Bool) (limit : ℕ) (text : List ℕ) (at : ℕ) → at ≤ length text
    → IfErr (pgn_read draws limit text at).answer (λ f. (at ≤ f.offset) × (f.offset ≤ length text))

-- a game that is read from the offset `at` on without a fault has at most as many half-moves as bytes from there to its
-- end; `limit` is the most half-moves of a game, and `draws` says whether fivefold repetition and 75 moves end it
abbrev pub HalfMovesHaveBytes : Type 0
HalfMovesHaveBytes =
    (draws : Bool) (limit : ℕ) (text : List ℕ) (at : ℕ) → at ≤ length text
    → IfOk (pgn_read draws limit text at).answer
    (λ o. IfSome o (λ e. length (pgn_read draws limit text at).state.moves + at ≤ e.offset))
