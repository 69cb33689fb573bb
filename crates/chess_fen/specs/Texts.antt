-- What the fields of a FEN denote (PGN standard of 1994, section 16.1.3). Beyond the standard: several spaces between
-- fields and at both ends, digits side by side, letters of rights in any order, leading zeros. Our own limit: a counter
-- has at most six digits.
use Rattle.std.specs.Prelude.{ℕ, codes, count_by, ◌+◌, ◌-◌, ◌*◌, Bool, ◌&&◌, ◌||◌, List, [], ◌∷◌, ◌++◌, length, map, replicate, Option, Some, None, nat_lt, nat_le, ◌==◌, if◌then◌else◌, option_and_then}
use Rattle.std.specs.List.{slice_split, list_all, list_any, flat_map, filter}
use Rattle.std.specs.Option.{option_map}
use Rattle.std.specs.Str.{bytes_eq}
use Rattle.chess_base.specs.declared.man.Variant.{Variant}
use Rattle.chess_base.specs.declared.man.Variant.TheVariants.{Normal, Fischerandom}
use Rattle.chess_base.specs.declared.man.Colour.{Colour}
use Rattle.chess_base.specs.declared.man.Colour.TheVariants.{White, Black}
use Rattle.chess_base.specs.declared.man.Man.{Man}
use Rattle.chess_base.specs.ByColour.{by_colour}
use Rattle.chess_base.specs.Letters.{man_with_letter}
use Rattle.byte_devices.specs.Bytes.{byte, space}

-- ---- ranks

-- the squares that a byte of a rank denotes: n empty ones by a digit n from 1 to 8, one with a piece by its letter;
-- otherwise `None`
abbrev pub squares_of : ℕ → Option (List (Option Man))
squares_of c = if nat_le (byte "1") c && nat_le c (byte "8") then Some (replicate (c - byte "0") None) else option_map
    (λ m. Some m ∷ []) (man_with_letter c)

-- the values in a list of options; `None` if one is `None`
abbrev pub all_there : {A : Type 0} → List (Option A) → Option (List A)
all_there [] = Some []
all_there (o ∷ os) = option_and_then (λ x. option_map (λ xs. x ∷ xs) (all_there os)) o

-- the eight squares that a rank's text denotes, from file a to h, as "4P3"; `None` if a byte denotes none or they
-- aren't eight
abbrev pub rank_of : List ℕ → Option (List (Option Man))
rank_of text = option_and_then (λ row. if length row == 8 then Some row else None)
    (option_map (λ parts. flat_map (λ squares. squares) parts) (all_there (map squares_of text)))

-- ---- placement

-- what is on the squares of ranks, given from the highest down, as one list from the lowest up (a1 to h8)
abbrev pub from_top : List (List (Option Man)) → List (Option Man)
from_top [] = []
from_top (row ∷ rows) = from_top rows ++ row

-- what is on the 64 squares, from a1 to h8, by a FEN's first field: eight ranks, rank 8 first, with slashes between;
-- otherwise `None`
abbrev pub placement_of : List ℕ → Option (List (Option Man))
placement_of text = let ranks = slice_split (λ c. c == byte "/") text in
    if length ranks == 8 then option_map from_top (all_there (map rank_of ranks)) else None

-- ---- castling

-- the byte c occurs in the text
abbrev pub occurs : ℕ → List ℕ → Bool
occurs c text = list_any (λ b. b == c) text

-- the letter of file a for a colour's rooks in Chess960: A for White, a for Black
abbrev pub first_letter : Colour → ℕ
first_letter = by_colour (byte "A") (byte "a")

-- the letter is that of a file for colour c's rooks: A to H for White, a to h for Black
abbrev pub names_file : Colour → ℕ → Bool
names_file c letter = nat_le (first_letter c) letter && nat_lt letter (first_letter c + 8)

-- the letter may name a castling right: it is K, Q, k or q, or in Chess960 that of a file
unfoldable pub may_name_right : Variant → ℕ → Bool
may_name_right Normal letter = occurs letter (codes "KQkq")
may_name_right Fischerandom letter = occurs letter (codes "KQkq") || names_file White letter || names_file Black letter

-- the text has the form of a FEN's castling field: a dash, or one to four different letters that may name rights
abbrev pub is_castling_field : Variant → List ℕ → Bool
is_castling_field v text = bytes_eq text (codes "-")
    || (nat_lt 0 (length text) && nat_le (length text) 4
    && list_all (λ c. may_name_right v c && (count_by (λ b. b == c) text == 1)) text)

-- ---- target

-- the en passant target that a FEN's fourth field denotes: no target by a dash (`Some None`), a square of rank 3 or 6
-- by its name (`Some (Some 20)` by e3); otherwise `None`
abbrev pub target_of : List ℕ → Option (Option ℕ)
target_of (c ∷ []) = if c == byte "-" then Some None else None
target_of (f ∷ r ∷ []) = if nat_le (byte "a") f && nat_le f (byte "h")
    && (r == byte "3" || r == byte "6") then Some (Some (8 * (r - byte "1") + (f - byte "a"))) else None
target_of _ = None

-- ---- fields

-- a text's parts between spaces, without empty ones
abbrev pub fields_of : List ℕ → List (List ℕ)
fields_of text = filter (λ field. nat_lt 0 (length field)) (slice_split (λ c. c == space) text)
