-- Which part of a game's text is wrong, and why (PGN standard of 1994): the field of a FEN (section 16.1.3), what a tag
-- lacks (8.1), and what begins no token (7 and 8.2).
use Rattle.std.specs.Prelude.{◌≡◌, ℕ, zero, suc, ◌==◌, true, false, not, ◌||◌, List, [], ◌∷◌, ◌++◌, take, take_while, Option, Some, codes, is_some, if◌then◌else◌}
use Rattle.std.specs.List.{list_any}
use Rattle.std.specs.Str.{bytes_eq}
use Rattle.byte_devices.specs.Bytes.{byte, space, is_name_byte}
use Rattle.chess_base.specs.Faults.{fen_fault_name}
use Rattle.chess_base.specs.declared.fen_fault.FenFault.{FenFault}
use Rattle.chess_base.specs.declared.fen_fault.FenFault.TheVariants.{Side, Castling, EnPassant, Counters}
use Rattle.text_lines.specs.Words.{short_number}
use Rattle.pgn_tokens.specs.Split.{IsGap, OpensTag, IsString}
use Rattle.pgn_tokens.specs.Tokens.{is_word_byte}
use Rattle.pgn_pieces.specs.Pieces.{drop_while}

-- ---- the fields of a FEN

-- a FEN from the field with this number on, 0 for the first; empty if there is none. One or more spaces separate
-- fields: from field 4 on `8/8 w - - 0 1` is `0 1`
unfoldable pub from_field : ℕ → List ℕ → List ℕ
from_field zero fen = drop_while (λ c. c == space) fen
from_field (suc number) fen = from_field number (drop_while (λ c. not (c == space)) (drop_while (λ c. c == space) fen))

-- just the field with this number of a FEN; empty if there is none
abbrev pub field_at : ℕ → List ℕ → List ℕ
field_at number fen = take_while (λ c. not (c == space)) (from_field number fen)

-- the number of the field shown for this fault of a FEN, 0 for the first. For bad counters the field is the halfmove
-- clock or, if the clock is a number of 1 to 6 digits, the fullmove number. For a bad placement, and a fault of no
-- single field (no king, three fields), it is the placement
abbrev pub field_number : FenFault → List ℕ → ℕ
field_number Side fen = 1
field_number Castling fen = 2
field_number EnPassant fen = 3
field_number Counters fen = if is_some (short_number 6 (field_at 4 fen)) then 5 else 4
field_number _ fen = 0

-- the reason given for a bad FEN: the name of its fault, such as `kings`; for castling also by which rules it was
-- read (those of normal chess for an unknown Variant)
abbrev pub fen_reason : FenFault → List ℕ
fen_reason Castling = codes "castling, as in normal chess unless the tag Variant names Chess960"
fen_reason fault = fen_fault_name fault

-- ---- tags

-- the text begins with `[`, maybe white space and `%` lines (a gap), and a name's first byte: a letter, digit or `_`. A
-- `%` right after the `[` is inside a line (`false`), so it isn't skipped
abbrev pub HasName : List ℕ → Type 0
HasName text = (gap : List ℕ) × (c : ℕ) × (rest : List ℕ) × IsGap false gap × (is_name_byte c ≡ true)
    × (text ≡ byte "[" ∷ (gap ++ c ∷ rest))

-- the text is the opening of a tag, such as `[Event "`, and then `rest`
abbrev pub HasOpening : List ℕ → List ℕ → Type 0
HasOpening text rest = (name opening : List ℕ) × OpensTag name opening × (text ≡ opening ++ rest)

-- the text, which comes after a tag's first quote, begins with a string (`IsString`), maybe empty, and the quote that
-- ends it: `a"`
abbrev pub HasString : List ℕ → Type 0
HasString text = (string rest : List ℕ) × IsString string × (text ≡ string ++ byte "\"" ∷ rest)

-- the second argument is the reason for a bad tag, never `None`, by what it lacks first: a name, a quote after it, a
-- quote that ends the value on its line, or the `]`. `text`: all from the tag's `[` on, where no tag can be read
pub data IsTagReason (text : List ℕ) : Option (List ℕ) → Type 0 where
  no_name : (HasName text → ⊥) → IsTagReason text (Some (codes "no name"))
  no_value : HasName text → ((rest : List ℕ) → HasOpening text rest → ⊥) → IsTagReason text (Some (codes "no value"))
  not_closed : {rest : List ℕ} → HasOpening text rest → (HasString rest → ⊥)
      → IsTagReason text (Some (codes "string not closed"))
  no_bracket : {rest : List ℕ} → HasOpening text rest → HasString rest
      → IsTagReason text (Some (codes "no bracket after the value"))

-- ---- tokens

-- the reason for a bad token; `text`: all from its first byte on
abbrev pub token_reason : List ℕ → List ℕ
token_reason text =
    -- a draw written in another way: `1/2`, or `½`, the bytes C2 BD
    if bytes_eq (take_while is_word_byte text) (codes "1/2") || bytes_eq (take 2 text) (194 ∷ 189 ∷ [])
    then codes "a draw is written 1/2-1/2"
    -- an en dash, the bytes E2 80 93, as after the `1` of `1–0`
    else if bytes_eq (take 3 text) (226 ∷ 128 ∷ 147 ∷ []) then codes "an en dash, where results have a hyphen"
    else if list_any (bytes_eq (take_while is_word_byte text)) (codes "--" ∷ codes "Z0" ∷ [])
    then codes "a null move, which chess does not have"
    else if bytes_eq (take 1 text) (codes "(") then codes "no move that this variation replaces"
    -- `begins no token` also for a `[` in a variation, where no tag can be
    else if list_any is_word_byte (take 1 text) then codes "not a move" else codes "begins no token"
