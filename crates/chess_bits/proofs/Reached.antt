-- The squares that the tables give for a piece are those that it could capture on (`could_capture`), one lemma for each
-- kind: king, knight and pawn by their shapes; queen, rook and bishop along lines with no occupied square between. By
-- the definition of each kind, where a line seen from the other end is the same line (line_back).
use Rattle.std.proofs.Common.{◌≡◌, ℕ, Bool, not, ◌&&◌, ◌||◌, ◌==◌, refl, ap, ◌∙◌, is_none, arith}
use Rattle.chess_base.specs.{declared.man.Colour.Colour, Men.Men, Men.man_at, Attacks.is_clear, Attacks.could_capture}
use Rattle.chess_base.specs.declared.man.Kind.TheVariants.{King, Queen, Rook, Bishop, Knight, Pawn}
use Rattle.chess_base.specs.Squares.{file, rank, is_between, share_rank_or_file, share_diagonal}
use Rattle.chess_base.proofs.{shared.Squares.each_square_same, shared.Geometry.diagonal_back, shared.MenAfter.eqb_comm}
use Rattle.chess_bits.specs.declared.table.Shape.TheVariants as shape
use Rattle.chess_bits.specs.{ties.Rays.is_open, ties.Shapes.in_shape, ties.Occupancy.IsOccupied}
use Rattle.chess_bits.proofs.Attackers.{de_morgan, queen_parts}

pub knight_from : (men : Men) (c : Colour) (a b : ℕ) → in_shape shape.Knight a b ≡ could_capture men c Knight a b
unfolding in_shape could_capture
knight_from men c a b = refl

pub king_from : (men : Men) (c : Colour) (a b : ℕ) → in_shape shape.King a b ≡ could_capture men c King a b
unfolding in_shape could_capture
king_from men c a b = refl

open_from : (w : ℕ) (men : Men) (a b : ℕ) → IsOccupied w men → is_open w a b ≡ is_clear men a b
unfolding is_open is_clear
open_from w men a b h =
    each_square_same _ _ (λ x l. rw (h.of_men x l) (de_morgan (is_between a b x) (is_none (man_at men x))))

pub line_back : (a b : ℕ) → share_rank_or_file b a ≡ share_rank_or_file a b
line_back a b = rw (eqb_comm (file b) (file a), eqb_comm (rank b) (rank a)) refl

pub rook_from : (w : ℕ) (men : Men) (c : Colour) (a b : ℕ) → IsOccupied w men
    → (not (b == a) && share_rank_or_file b a && is_open w a b) ≡ could_capture men c Rook a b
unfolding could_capture
rook_from w men c a b h = rw (eqb_comm b a, line_back a b, open_from w men a b h) refl

pub bishop_from : (w : ℕ) (men : Men) (c : Colour) (a b : ℕ) → IsOccupied w men
    → (not (b == a) && share_diagonal b a && is_open w a b) ≡ could_capture men c Bishop a b
unfolding could_capture
bishop_from w men c a b h = rw (eqb_comm b a, diagonal_back b a, open_from w men a b h) refl

-- a queen: along ranks and files, or along diagonals
pub queen_from : (w : ℕ) (men : Men) (c : Colour) (a b : ℕ) → IsOccupied w men
    → ((not (b == a) && share_rank_or_file b a && is_open w a b)
    || (not (b == a) && share_diagonal b a && is_open w a b)) ≡ could_capture men c Queen a b
unfolding could_capture
queen_from w men c a b h =
    rw (eqb_comm b a, line_back a b, diagonal_back b a, open_from w men a b h)
    (queen_parts (not (a == b)) (share_rank_or_file a b) (share_diagonal a b) (is_clear men a b))

-- b is on an open rank or file of a and in a set (m), or on an open diagonal of a and in the set, exactly if a queen on
-- a could capture on b and b is in the set
pub queen_met : (w : ℕ) (men : Men) (c : Colour) (a b : ℕ) (m : Bool) → IsOccupied w men
    → (((not (b == a) && share_rank_or_file b a && is_open w a b) && m)
    || ((not (b == a) && share_diagonal b a && is_open w a b) && m)) ≡ (could_capture men c Queen a b && m)
queen_met w men c a b m h =
    both (not (b == a) && share_rank_or_file b a && is_open w a b) (not (b == a) && share_diagonal b a && is_open w a b) m
    ∙ ap (λ t. t && m) (queen_from w men c a b h)
  where
    both : (x y z : Bool) → ((x && z) || (y && z)) ≡ ((x || y) && z)
    both x y z = grind arith

pub pawn_from : (men : Men) (c : Colour) (a b : ℕ) → in_shape (shape.Pawn c) a b ≡ could_capture men c Pawn a b
unfolding in_shape could_capture
pawn_from men c a b = refl
