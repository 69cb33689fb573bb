-- A game's last tag of a name (PGN standard of 1994, section 8.1). A token is paired with the length of the text from
-- it on.
use Rattle.std.specs.Prelude.{ℕ, Bool, true, false, if◌then◌else◌, List, Option, Some, None}
use Rattle.std.specs.List.{filter_map, last_or, take_while}
use Rattle.std.specs.Str.{bytes_eq}
use Rattle.pgn_tokens.specs.Tokens.{Token, Skip, Tag, Word}
use Rattle.pgn_tokens.specs.Marks.{is_marks}

-- whether a token says nothing of a game: `Skip`, such as a comment, or a word of marks
abbrev pub says_nothing : Token → Bool
says_nothing Skip = true
says_nothing (Word word) = is_marks word
says_nothing _ = false

-- whether more tags of a game may follow this token: it is a tag or says nothing
abbrev pub may_precede_tags : Token → Bool
may_precede_tags (Tag name text to_end) = true
may_precede_tags token = says_nothing token

-- of a tag with this name: the bytes between its quotes, and the length of the text after its first quote; otherwise
-- `None`
abbrev pub named_tag : List ℕ → Token → Option (List ℕ × ℕ)
named_tag name (Tag other text to_end) = if bytes_eq other name then Some (text, to_end) else None
named_tag name _ = None

-- a game's tag section, with all its tags: its tokens before the first that can't be read or is a word other than marks
-- (a number, move or outcome). A faulty FEN in a FEN tag doesn't end it
abbrev pub tag_section : List (ℕ × Token) → List (ℕ × Token)
tag_section tokens = take_while (λ t. may_precede_tags t.1) tokens

-- the last tag with this name among these tokens, as `named_tag` gives it; `None` without one
abbrev pub last_tag : List ℕ → List (ℕ × Token) → Option (List ℕ × ℕ)
last_tag name tags = last_or None (filter_map (λ t. named_tag name t.1) tags)
