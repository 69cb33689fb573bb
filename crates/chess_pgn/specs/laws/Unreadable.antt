-- Games with a fault at what can't be read as a token.
use Rattle.std.specs.Prelude.{◌≡◌, ℕ, Bool, true, false, not, List, length, take, drop, None, IfErr}
use Rattle.std.specs.List.{list_any}
use Rattle.byte_devices.specs.Bytes.{after_byte_order_mark}
use Rattle.chess_pgn.specs.declared.read.PgnFaultKind.{PgnFaultKind}
use Rattle.chess_pgn.specs.declared.read.PgnFaultKind.TheVariants.{BadTag, BadToken, UnclosedComment, UnclosedVariation}
use Rattle.chess_pgn.specs.GameEnds.{game_end}
use Rattle.chess_pgn.specs.GameRead.{pgn_read}
use Rattle.pgn_tokens.specs.Tokens.{is_word_byte, tokens_from}

-- whether a fault of this kind at the offset `at` of the text is one of what can't be read as a token: a bad tag, a
-- comment or a variation that isn't closed, or a bad token that begins with no byte of a word
abbrev pub is_unreadable : List ℕ → ℕ → PgnFaultKind → Bool
is_unreadable text at BadTag = true
is_unreadable text at UnclosedComment = true
is_unreadable text at UnclosedVariation = true
is_unreadable text at BadToken = not (list_any is_word_byte (take 1 (drop at text)))
is_unreadable text at _ = false

-- a game with such a fault has no end: its tokens stop there, and none before ends it. `limit` is the most half-moves
-- of a game, and `draws` says whether fivefold repetition and 75 moves end it
abbrev pub UnreadableGamesHaveNoEnd : Type 0
UnreadableGamesHaveNoEnd = (draws : Bool) (limit : ℕ) (text : List ℕ) (at : ℕ)
    → IfErr (pgn_read draws limit text at).answer (λ fault. is_unreadable text fault.offset fault.kind ≡ true
    → game_end (length text) (tokens_from text (after_byte_order_mark text at)) ≡ None)
