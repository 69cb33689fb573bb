-- The letters of pieces and the names of squares.
use Prim.Native.String.{String as Text}
use Rattle.std.specs.Prelude.{ℕ, ◌+◌, ◌-◌, ◌*◌, ◌==◌, Bool, ◌&&◌, if◌then◌else◌, List, [], ◌∷◌, ◌++◌, map, find, Option, Some, None, nat_le, codes, slice_index_or}
use Rattle.chess_base.specs.declared.man.Colour.{Colour}
use Rattle.chess_base.specs.declared.man.Colour.TheVariants.{White, Black}
use Rattle.chess_base.specs.declared.man.Kind.{Kind}
use Rattle.chess_base.specs.declared.man.Kind.TheVariants.{Pawn, Knight, Bishop, Rook, Queen, King}
use Rattle.chess_base.specs.declared.man.Man.{Man}
use Rattle.chess_base.specs.ByColour.{by_colour}
use Rattle.chess_base.specs.Squares.{file, rank}

-- the code of a text's first character, 0 if empty: `byte "A"` is 65
abbrev pub byte : Text → ℕ
byte text = slice_index_or (codes text) 0 0

-- the capital letter of a kind of piece: White's in FEN (PGN, section 16.1.3.1), both colours' in SAN (8.2.3.2),
-- where a pawn's is omitted
abbrev pub white_letter : Kind → ℕ
white_letter Pawn = byte "P"
white_letter Knight = byte "N"
white_letter Bishop = byte "B"
white_letter Rook = byte "R"
white_letter Queen = byte "Q"
white_letter King = byte "K"

-- the FEN letter of a piece of colour c and kind k: Black's are small (byte + 32)
abbrev pub letter_by : Colour → Kind → ℕ
letter_by c k = by_colour (white_letter k) (white_letter k + 32) c

-- the FEN letter of a piece: N for a white knight, n for a black one
abbrev pub letter : Man → ℕ
letter m = letter_by m.colour m.kind

-- the six kinds of piece
abbrev pub kinds : List Kind
kinds = King ∷ Queen ∷ Rook ∷ Bishop ∷ Knight ∷ Pawn ∷ []

-- the twelve pieces: White's six kinds, then Black's
abbrev pub all_men : List Man
all_men = map (λ k. record { colour = White; kind = k }) kinds ++ map (λ k. record { colour = Black; kind = k }) kinds

-- the kind of piece whose capital letter is the byte c, if any
abbrev pub kind_with_letter : ℕ → Option Kind
kind_with_letter c = find (λ k. white_letter k == c) kinds

-- the kind of piece whose small letter is the byte c, if any
abbrev pub kind_with_small_letter : ℕ → Option Kind
kind_with_small_letter c = find (λ k. letter_by Black k == c) kinds

-- the piece whose FEN letter is the byte c, if any: a black knight for n
abbrev pub man_with_letter : ℕ → Option Man
man_with_letter c = find (λ m. letter m == c) all_men

-- the English word for a colour
abbrev pub colour_word : Colour → List ℕ
colour_word White = codes "white"
colour_word Black = codes "black"

-- the English word for a kind of piece
abbrev pub kind_word : Kind → List ℕ
kind_word King = codes "king"
kind_word Queen = codes "queen"
kind_word Rook = codes "rook"
kind_word Bishop = codes "bishop"
kind_word Knight = codes "knight"
kind_word Pawn = codes "pawn"

-- the name of a square, e4 for 28
abbrev pub square_text : ℕ → List ℕ
square_text square = (byte "a" + file square) ∷ (byte "1" + rank square) ∷ []

-- the byte is a file's letter, `a` to `h`
abbrev pub is_file_letter : ℕ → Bool
is_file_letter c = nat_le (byte "a") c && nat_le c (byte "h")

-- the byte is a rank's digit, `1` to `8`
abbrev pub is_rank_digit : ℕ → Bool
is_rank_digit c = nat_le (byte "1") c && nat_le c (byte "8")

-- the square whose name is the bytes f and r, if any: 28 for "e" and "4"
abbrev pub square_with_letters : ℕ → ℕ → Option ℕ
square_with_letters f r =
    if is_file_letter f && is_rank_digit r then Some (8 * (r - byte "1") + (f - byte "a")) else None
