-- The Zobrist hash of a position on the boards `Plain` and `Bits`: the exclusive or of keys (numbers below 2 to the
-- 64th). En passant target and counters have no part in it. Different positions may have equal hashes.
use Rattle.std.specs.Prelude.{ℕ, ◌+◌, ◌*◌, ◌/◌, ◌%◌, ◌^◌, Option, Some, None, List, [], ◌∷◌, ◌++◌, bit_xor, fold, flat_map}
use Rattle.chess_base.specs.declared.man.Colour.{Colour}
use Rattle.chess_base.specs.declared.man.Colour.TheVariants.{White, Black}
use Rattle.chess_base.specs.declared.man.Kind.{Kind}
use Rattle.chess_base.specs.declared.man.Kind.TheVariants.{King, Queen, Rook, Bishop, Knight, Pawn}
use Rattle.chess_base.specs.declared.man.Man.{Man}
use Rattle.chess_base.specs.declared.man.Rights.{Rights}
use Rattle.chess_base.specs.Squares.{file, squares}
use Rattle.chess_base.specs.Men.{Men, man_at}

-- ---- keys: the outputs of the generator SplitMix64 (splitmix64.c by Vigna, 2015, after Steele, Lea and Flood, 2014)

-- by how much SplitMix64's state grows for each output
abbrev pub increment : ℕ
increment = 0x9e3779b97f4a7c15

-- the first of the two factors by which SplitMix64 mixes its state
abbrev pub first_factor : ℕ
first_factor = 0xbf58476d1ce4e5b9

-- the second of the two factors by which SplitMix64 mixes its state
abbrev pub second_factor : ℕ
second_factor = 0x94d049bb133111eb

-- z xored with itself shifted right by k bits: z ^ (z >> k) in C
abbrev pub laid_over : ℕ → ℕ → ℕ
laid_over z k = bit_xor z (z / 2 ^ k)

-- the Zobrist key with index n: SplitMix64's output number n, counted from 0, with seed 0
unfoldable pub key : ℕ → ℕ
key n =
    let x = (n + 1) * increment % 2 ^ 64 in
    let y = laid_over x 30 * first_factor % 2 ^ 64 in
    let z = laid_over y 27 * second_factor % 2 ^ 64 in
    laid_over z 31

-- ---- what each key is for

-- a colour's index among the keys of pieces and of castling rights
abbrev pub colour_index : Colour → ℕ
colour_index White = 0
colour_index Black = 1

-- the index of a kind of piece among the keys of pieces
abbrev pub kind_index : Kind → ℕ
kind_index Pawn = 0
kind_index Knight = 1
kind_index Bishop = 2
kind_index Rook = 3
kind_index Queen = 4
kind_index King = 5

-- the key of the piece x on square s: one of the first 768 (12 pieces times 64 squares)
abbrev pub man_key : Man → ℕ → ℕ
man_key x s = key (64 * (6 * colour_index x.colour + kind_index x.kind) + s)

-- the key of Black on move
abbrev pub side_key : ℕ
side_key = key 768

-- the key of colour c's right to castle with its rook on square r: one for each file
abbrev pub right_key : Colour → ℕ → ℕ
right_key c r = key (769 + 8 * colour_index c + file r)

-- ---- the keys of a position's parts

-- the keys of a given content of square s: one for a piece, none if it is empty
abbrev pub square_keys : ℕ → Option Man → List ℕ
square_keys s None = []
square_keys s (Some x) = man_key x s ∷ []

-- the keys of what is on square s of the board
abbrev pub keys_on : Men → ℕ → List ℕ
keys_on men s = square_keys s (man_at men s)

-- the keys of all pieces on the board
unfoldable pub men_keys : Men → List ℕ
men_keys men = flat_map (keys_on men) squares

-- the keys of the side on move: none for White
abbrev pub side_keys : Colour → List ℕ
side_keys White = []
side_keys Black = side_key ∷ []

-- the keys of a castling right of colour c, given as its rook's square: none without the right
abbrev pub right_keys : Colour → Option ℕ → List ℕ
right_keys c None = []
right_keys c (Some r) = right_key c r ∷ []

-- the keys of all castling rights of both colours
unfoldable pub rights_keys : Rights → List ℕ
rights_keys r =
    right_keys White r.white.king_side ++ right_keys White r.white.queen_side ++ right_keys Black r.black.king_side
    ++ right_keys Black r.black.queen_side

-- ---- the hash

-- the exclusive or of all numbers of a list
abbrev pub xor_of : List ℕ → ℕ
xor_of ns = fold bit_xor 0 ns

-- the Zobrist hash of a position: the exclusive or of the keys of its pieces, side on move and castling rights
unfoldable pub position_hash : Men → Colour → Rights → ℕ
position_hash men side rights = xor_of (men_keys men ++ side_keys side ++ rights_keys rights)
