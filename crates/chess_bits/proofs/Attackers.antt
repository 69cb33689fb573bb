-- Who attacks square b, found from b outwards: a piece on a attacks b exactly if its kind on b would attack a, for a
-- pawn a pawn of the other colour (attackers_are: by cases of the content of a, on the sets that `attackers` joins).
-- For lines: the two rays of a line together (both_rays), two kinds of lines together (on_lines, on_diagonals). A
-- square is attacked exactly if its set of attackers isn't empty (attacked_is).
use Rattle.std.proofs.Common.{◌≡◌, ℕ, ◌<◌, Bool, true, false, not, ◌&&◌, ◌||◌, ◌==◌, refl, ◌∙◌, arith, Option, Some, None, is_none, eqb-true}
use Rattle.std.proofs.lemmas.Bool.Decides.{nat_tests}
use Rattle.chess_base.specs.{declared.man.Colour.Colour, declared.man.Colour.TheVariants.White, declared.man.Colour.TheVariants.Black, declared.man.Kind.Kind, declared.man.Man.Man, shared.Splits.could_capture_as, declared.line.Line.Line, shared.Lines.line_number, shared.Lines.same_line}
use Rattle.chess_base.specs.declared.man.Kind.TheVariants.{King, Queen, Rook, Bishop, Knight, Pawn}
use Rattle.chess_base.specs.Squares.{file, rank, share_rank_or_file, share_diagonal, is_between, some_square}
use Rattle.chess_base.specs.Men.{Men, man_at, other, same_colour, same_kind, is_of, is_man}
use Rattle.chess_base.specs.Attacks.{is_clear, could_capture, attacks, is_attacked}
use Rattle.chess_base.specs.declared.line.Line.TheVariants.{Rank, File, Diagonal, Antidiagonal}
use Rattle.chess_base.proofs.{shared.Geometry.abs_diff_back, shared.Geometry.between_back, shared.Squares.each_square_same, shared.Squares.some_square_same, shared.MenAfter.eqb_comm}
use Rattle.chess_bits.specs.declared.table.Shape.TheVariants as shape
use mathlib.Core.Bool.{not-not}
use Rattle.chess_moves.specs.Sets.{contains}
use Rattle.chess_moves.proofs.shared.Members.{has_zero}
use Rattle.chess_bits.specs.{ties.Rays.is_on_ray, ties.Rays.is_open, ties.Shapes.in_shape, ties.Occupancy.IsOccupied}

-- a is on one of the two rays from b along its line of kind l, and o holds: it is another square of that line, and o
pub both_rays : (l : Line) (a b : ℕ) (o : Bool)
    → ((is_on_ray l true b a && o) || (is_on_ray l false b a && o)) ≡ (not (a == b) && same_line l a b && o)
both_rays l a b o = rw (eqb_comm (line_number l a) (line_number l b)) (grind (arith, nat_tests))

-- rank and file together: another square of a's rank or file, where o holds
pub on_lines : (a b : ℕ) (o : Bool)
    → ((not (a == b) && same_line Rank a b && o) || (not (a == b) && same_line File a b && o))
    ≡ (not (a == b) && share_rank_or_file a b && o)
on_lines a b o = grind arith

-- diagonal and antidiagonal together: another square of a's diagonals, where o holds
pub on_diagonals : (a b : ℕ) (o : Bool)
    → ((not (a == b) && same_line Diagonal a b && o) || (not (a == b) && same_line Antidiagonal a b && o))
    ≡ (not (a == b) && share_diagonal a b && o)
on_diagonals a b true = grind (arith, nat_tests)
on_diagonals a b false = grind (arith, nat_tests)

pub de_morgan : (p q : Bool) → not (p && not q) ≡ (not p || q)
de_morgan p q = grind arith

-- what is clear on the board is open in the set of its pieces, seen from the other end
pub open_is_clear : (w : ℕ) (men : Men) (a b : ℕ) → IsOccupied w men → is_open w b a ≡ is_clear men a b
unfolding is_open is_clear
open_is_clear w men a b h =
    each_square_same _ _
    (λ x l. rw (between_back b a x, h.of_men x l) (de_morgan (is_between a b x) (is_none (man_at men x))))

-- a king, a knight or a pawn on a attacks b exactly if a is in the tables' set for b (for a pawn, the other colour's)
king_back : (men : Men) (c : Colour) (a b : ℕ) → in_shape shape.King b a ≡ could_capture men c King a b
unfolding in_shape could_capture
king_back men c a b = rw (eqb_comm b a, abs_diff_back (file b) (file a), abs_diff_back (rank b) (rank a)) refl

knight_back : (men : Men) (c : Colour) (a b : ℕ) → in_shape shape.Knight b a ≡ could_capture men c Knight a b
unfolding in_shape could_capture
knight_back men c a b = rw (abs_diff_back (file b) (file a), abs_diff_back (rank b) (rank a)) refl

pub pawn_back : (men : Men) (c : Colour) (a b : ℕ) → in_shape (shape.Pawn (other c)) b a ≡ could_capture men c Pawn a b
unfolding in_shape could_capture
pawn_back men White a b = rw (abs_diff_back (file b) (file a)) refl
pawn_back men Black a b = rw (abs_diff_back (file b) (file a)) refl

-- whether `attackers` has a square: it is on an open line (l) or diagonal (d) of b, or a king's step (k), a knight's
-- move (n) or a pawn's capture (p) away, and holds a piece of this kind and of the colour that is asked for (s)
abbrev pub hit : Bool → Bool → Bool → Bool → Bool → Bool → Kind → Bool
hit l d k n p s kind =
    ((l && ((s && same_kind Rook kind) || (s && same_kind Queen kind)))
    || (d && ((s && same_kind Bishop kind) || (s && same_kind Queen kind))))
    || ((k && (s && same_kind King kind)) || (n && (s && same_kind Knight kind)))
    || (p && (s && same_kind Pawn kind))

pub queen_parts : (e l d o : Bool) → ((e && l && o) || (e && d && o)) ≡ (e && (l || d) && o)
queen_parts e l d o = grind arith

-- whether `attackers` for b has square a, with a piece of this kind on it; s: it is of colour c, which is asked for
abbrev seen : Men → Colour → ℕ → ℕ → Bool → Kind → Bool
seen men c a b s kind =
    hit (not (a == b) && share_rank_or_file a b && is_clear men a b)
    (not (a == b) && share_diagonal a b && is_clear men a b)
    (in_shape shape.King b a) (in_shape shape.Knight b a) (in_shape (shape.Pawn (other c)) b a) s kind

-- it has square a exactly if s holds, and this kind, of colour c, on a could capture on b
seen_kind : (men : Men) (c : Colour) (a b : ℕ) (s : Bool) (kind : Kind)
    → seen men c a b s kind ≡ (s && could_capture men c kind a b)
unfolding could_capture
seen_kind men c a b s King = grind (arith, king_back men c a b)
seen_kind men c a b s Queen = grind arith
seen_kind men c a b s Rook = grind arith
seen_kind men c a b s Bishop = grind arith
seen_kind men c a b s Knight = grind (arith, knight_back men c a b)
seen_kind men c a b s Pawn = grind (arith, pawn_back men c a b)

-- where the colours c and d are the same, a piece of the one captures as a piece of the other
own_reach : (men : Men) (c d : Colour) (kind : Kind) (a b : ℕ) → (same_colour c d && could_capture men c kind a b)
    ≡ (same_colour c d && could_capture men d kind a b)
own_reach men White White kind a b = refl
own_reach men White Black kind a b = refl
own_reach men Black White kind a b = refl
own_reach men Black Black kind a b = refl

-- so a is among the attackers exactly if its content (o) is a piece of colour c that could capture on b
pub attackers_are : (men : Men) (c : Colour) (a b : ℕ) (o : Option Man)
    → ((((not (a == b) && share_rank_or_file a b && is_clear men a b) && (is_man c Rook o || is_man c Queen o))
    || ((not (a == b) && share_diagonal a b && is_clear men a b) && (is_man c Bishop o || is_man c Queen o)))
    || ((in_shape shape.King b a && is_man c King o) || (in_shape shape.Knight b a && is_man c Knight o))
    || (in_shape (shape.Pawn (other c)) b a && is_man c Pawn o))
    ≡ (is_of c o && could_capture_as men o a b)
unfolding is_of is_man
attackers_are men c a b None = seen_kind men c a b false King
attackers_are men c a b (Some x) = seen_kind men c a b (same_colour c x.colour) x.kind
    ∙ own_reach men c x.colour x.kind a b

-- if w has just the squares from which pieces of colour c attack b, b is attacked exactly if w is not empty
pub attacked_is : (w : ℕ) (men : Men) (b : ℕ) (c : Colour)
    → ((k : ℕ) → k < 64 → contains w k ≡ (is_of c (man_at men k) && attacks men k b))
    → not (not (some_square (λ k. contains w k))) ≡ is_attacked men b c
unfolding is_attacked
attacked_is w men b c h =
    not-not (some_square (λ k. contains w k))
    ∙ some_square_same (λ k. contains w k) (λ k. is_of c (man_at men k) && attacks men k b) h

-- a set that is the number 0 has no square
pub none_there : (w k : ℕ) → (w == 0) ≡ true → contains w k ≡ false
none_there w k e = let empty : w ≡ 0 = eqb-true w 0 e in rw empty (has_zero k)
