-- Which rights the letters of a FEN name: in normal chess K, Q, k and q (PGN standard of 1994, section 16.1.3.3); in
-- Chess960 a rook by its file (Shredder-FEN), or the outermost one by its side (X-FEN).
use Rattle.std.specs.Prelude.{ℕ, ◌+◌, ◌-◌, ◌==◌, nat_lt, Bool, true, false, not, ◌&&◌, ◌||◌, List, [], ◌∷◌, map, find, Option, Some, None, if◌then◌else◌}
use Rattle.std.specs.List.{list_all, filter}
use Rattle.std.specs.Option.{option_map_or}
use Rattle.chess_base.specs.declared.man.Colour.{Colour}
use Rattle.chess_base.specs.declared.man.Colour.TheVariants.{White, Black}
use Rattle.chess_base.specs.declared.man.CastlingSide.{CastlingSide}
use Rattle.chess_base.specs.declared.man.CastlingSide.TheVariants.{KingSide, QueenSide}
use Rattle.chess_base.specs.declared.man.Kind.TheVariants.{King, Queen, Rook}
use Rattle.chess_base.specs.declared.man.Rights.{Rights}
use Rattle.chess_base.specs.declared.man.Variant.{Variant}
use Rattle.chess_base.specs.declared.man.Variant.TheVariants.{Normal, Fischerandom}
use Rattle.chess_base.specs.Squares.{file}
use Rattle.chess_base.specs.Men.{Men, man_at, is_man}
use Rattle.chess_base.specs.Castling.{home_square, king_square, rook_file, rights_by, by_side}
use Rattle.chess_base.specs.Letters.{letter_by}
use Rattle.chess_fen.specs.Texts.{occurs, first_letter, names_file}

-- the four castling rights, in the order KQkq
abbrev pub all_rights : List (Colour × CastlingSide)
all_rights = (White, KingSide) ∷ (White, QueenSide) ∷ (Black, KingSide) ∷ (Black, QueenSide) ∷ []

-- colour c's letter of a side: K or Q for White, k or q for Black
abbrev pub side_letter : Colour → CastlingSide → ℕ
side_letter c = by_side (letter_by c King) (letter_by c Queen)

-- the letter written for colour c's right on side w, with the rook on square s: in normal chess for side w (K), in
-- Chess960 for the rook's file (H for h1, h for h8)
abbrev pub right_letter : Variant → Colour → CastlingSide → ℕ → ℕ
right_letter Normal c w s = side_letter c w
right_letter Fischerandom c w s = first_letter c + file s

-- ---- Chess960

-- the squares of colour c's first rank from side w's edge: for White's king side from h1 to a1
abbrev pub from_edge : Colour → CastlingSide → List ℕ
from_edge c w = map (home_square c)
    (by_side (7 ∷ 6 ∷ 5 ∷ 4 ∷ 3 ∷ 2 ∷ 1 ∷ 0 ∷ []) (0 ∷ 1 ∷ 2 ∷ 3 ∷ 4 ∷ 5 ∷ 6 ∷ 7 ∷ []) w)

-- square s is on the given side of `king`, a square of its rank: the queen side if nearer to file a, otherwise the king
-- side, also if they are equal or without a king
abbrev pub is_towards : CastlingSide → Option ℕ → ℕ → Bool
is_towards QueenSide king s = option_map_or (λ k. nat_lt s k) king false
is_towards KingSide king s = not (option_map_or (λ k. nat_lt s k) king false)

-- the letter names colour c's right on side w: it is c's letter of side w (as K), or of a file (as H) on side w of c's
-- king. Without a king on c's first rank this means nothing: no right of c is sound then
abbrev pub names_right : Men → Colour → CastlingSide → ℕ → Bool
names_right men c w letter = letter == side_letter c w
    || names_file c letter && is_towards w (king_square men c) (home_square c (letter - first_letter c))

-- the rook's square, if `letter` names colour c's right on side w. By c's letter of side w: that of c's rook nearest to
-- side w's edge on c's first rank, wherever the king is; `None` without a rook there. By a file's letter: that file's
-- square on c's first rank, even without a rook
abbrev pub rook_by : Men → Colour → CastlingSide → ℕ → Option ℕ
rook_by men c w letter = if letter == side_letter c w then find (λ s. is_man c Rook (man_at men s)) (from_edge c w)
    else Some (home_square c (letter - first_letter c))

-- what the letters of a castling field say of a right
pub data NamedRight : Type 0 where
  -- no letter names it
  Absent : NamedRight
  -- it is named, with the rook's square; `right_is_sound` asks whether a rook is there
  At : (rook : ℕ) → NamedRight
  -- only in Chess960: several letters name it, or a side's letter without a rook on its colour's first rank
  Wrong : NamedRight

-- a castling right of Chess960, from what `rook_by` gives for each letter that names it: `Wrong` for several or `None`
abbrev pub right_by : List (Option ℕ) → NamedRight
right_by [] = Absent
right_by (Some s ∷ []) = At s
right_by _ = Wrong

-- ---- both

-- what the letters of a castling field say of colour c's right on side w. Normal chess: `At` the corner if c's letter
-- of side w is among them, otherwise `Absent`. Chess960: what `right_by` gives for the letters that name it
abbrev pub right_in : Variant → Men → List ℕ → Colour → CastlingSide → NamedRight
right_in Normal men letters c w = if occurs (side_letter c w) letters then At (home_square c (rook_file w)) else Absent
right_in Fischerandom men letters c w = right_by (map (rook_by men c w) (filter (names_right men c w) letters))

-- a right is not `Wrong`
abbrev pub is_named_well : NamedRight → Bool
is_named_well Wrong = false
is_named_well _ = true

-- by the letters of a castling field no right is `Wrong`
abbrev pub names_rights_well : Variant → Men → List ℕ → Bool
names_rights_well v men letters = list_all (λ r. is_named_well (right_in v men letters r.0 r.1)) all_rights

-- the square of a right's rook; `None` if the right is `Absent` or `Wrong`
abbrev pub rook_of : NamedRight → Option ℕ
rook_of (At s) = Some s
rook_of _ = None

-- the rights that the letters name, without any that are `Wrong`
abbrev pub rights_in : Variant → Men → List ℕ → Rights
rights_in v men letters = rights_by (λ c w. rook_of (right_in v men letters c w))
