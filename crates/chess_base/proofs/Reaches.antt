-- If squares a and b are on one line with no piece between them, colour c attacks b from a exactly if a has a piece of
-- c that reaches b (attacked_from_by): decided by its kind and the kind of line, for king and pawn also by the squares'
-- distance (`reaches`). By cases of the kind of piece and of line.
use Rattle.std.proofs.Common.{◌≡◌, ◌≢◌, ℕ, ◌+◌, ◌*◌, ◌<◌, Bool, true, false, ◌&&◌, ◌||◌, not, ◌==◌, nat_le, Option, Some, None, refl, sym, ap, ◌∙◌, arith, eqb-true, ne_eqb}
use Rattle.std.proofs.lemmas.Bool.Decides.{nat_tests}
use Rattle.std.specs.Int.{abs_diff}
use Rattle.chess_base.specs.{declared.line.Line.Line, declared.man.Colour.Colour, declared.man.Kind.Kind, declared.man.Man.Man, Attacks.is_clear, Attacks.could_capture, Attacks.attacks, shared.Lines.same_line}
use Rattle.chess_base.specs.declared.line.Line.TheVariants.{Rank, File, Diagonal, Antidiagonal}
use Rattle.chess_base.specs.declared.man.Kind.TheVariants.{King, Queen, Rook, Bishop, Knight, Pawn}
use Rattle.chess_base.specs.Squares.{file, rank, share_rank_or_file, share_diagonal}
use Rattle.chess_base.specs.Men.{Men, man_at, is_of, same_colour}
use Rattle.chess_base.specs.ties.Lines.{step_of, is_straight, reaches, attacked_from}
use Rattle.chess_base.proofs.shared.Geometry.{by_parts}

-- two squares of one line, with files f and g and ranks r and q: they are a king's step apart exactly if their numbers
-- (8 * rank + file) differ by that line's step, 1, 8, 9 or 7

-- on a rank: by 1
rank_king : (f g r q : ℕ) → f < 8 → g < 8 → r ≡ q
    → (nat_le (abs_diff f g) 1 && nat_le (abs_diff r q) 1 && not (8 * r + f == 8 * q + g))
    ≡ (abs_diff (8 * r + f) (8 * q + g) == 1)
rank_king f g r q h k e = grind (arith, nat_tests)

-- on a file: by 8
file_king : (f g r q : ℕ) → f ≡ g → (nat_le (abs_diff f g) 1 && nat_le (abs_diff r q) 1 && not (8 * r + f == 8 * q + g))
    ≡ (abs_diff (8 * r + f) (8 * q + g) == 8)
file_king f g r q e = grind (arith, nat_tests)

-- on a diagonal: by 9
diagonal_king : (f g r q : ℕ) → r + g ≡ q + f
    → (nat_le (abs_diff f g) 1 && nat_le (abs_diff r q) 1 && not (8 * r + f == 8 * q + g))
    ≡ (abs_diff (8 * r + f) (8 * q + g) == 9)
diagonal_king f g r q e = grind (arith, nat_tests)

-- on an antidiagonal: by 7
antidiagonal_king : (f g r q : ℕ) → r + f ≡ q + g
    → (nat_le (abs_diff f g) 1 && nat_le (abs_diff r q) 1 && not (8 * r + f == 8 * q + g))
    ≡ (abs_diff (8 * r + f) (8 * q + g) == 7)
antidiagonal_king f g r q e = grind (arith, nat_tests)

-- of three joined tests the first may come last
moved_first : (p q r : Bool) → (p && q && r) ≡ (q && r && p)
moved_first p q r = grind arith

-- the same for squares a and b of a line of any kind
next_to : (l : Line) (a b : ℕ) → same_line l b a ≡ true
    → (nat_le (abs_diff (file a) (file b)) 1 && nat_le (abs_diff (rank a) (rank b)) 1
    && not (8 * rank a + file a == 8 * rank b + file b))
    ≡ (abs_diff (8 * rank a + file a) (8 * rank b + file b) == step_of l)
next_to Rank a b e =
    let n = eqb-true _ _ e in
    rank_king (file a) (file b) (rank a) (rank b) (omega arith) (omega arith) (sym n)
next_to File a b e =
    let n = eqb-true _ _ e in
    file_king (file a) (file b) (rank a) (rank b) (sym n)
next_to Diagonal a b e =
    let n = eqb-true _ _ e in
    diagonal_king (file a) (file b) (rank a) (rank b) (omega (arith, n))
next_to Antidiagonal a b e =
    let n = eqb-true _ _ e in
    antidiagonal_king (file a) (file b) (rank a) (rank b) (sym n)

-- two squares of a line share a rank or file if the line is one, and otherwise a diagonal
straight_is : (l : Line) (a b : ℕ) → a ≢ b → same_line l b a ≡ true → share_rank_or_file a b ≡ is_straight l
straight_is Rank a b n e = grind (arith, nat_tests, e)
straight_is File a b n e = grind (arith, nat_tests, e)
straight_is Diagonal a b n e = grind (arith, nat_tests, e)
straight_is Antidiagonal a b n e = grind (arith, nat_tests, e)

diagonal_is : (l : Line) (a b : ℕ) → a ≢ b → same_line l b a ≡ true → share_diagonal a b ≡ not (is_straight l)
diagonal_is Rank a b n e = grind (arith, nat_tests, e)
diagonal_is File a b n e = grind (arith, nat_tests, e)
diagonal_is Diagonal a b n e = grind (arith, nat_tests, e)
diagonal_is Antidiagonal a b n e = grind (arith, nat_tests, e)

either_way : (b : Bool) → (b || not b) ≡ true
either_way true = refl
either_way false = refl

-- two squares of a line are no knight's way apart
no_knight : (l : Line) (a b : ℕ) → same_line l b a ≡ true
    → (((abs_diff (file a) (file b) == 1) && (abs_diff (rank a) (rank b) == 2))
    || ((abs_diff (file a) (file b) == 2) && (abs_diff (rank a) (rank b) == 1))) ≡ false
no_knight Rank a b e = grind (arith, nat_tests, e)
no_knight File a b e = grind (arith, nat_tests, e)
no_knight Diagonal a b e = grind (arith, nat_tests, e)
no_knight Antidiagonal a b e = grind (arith, nat_tests, e)

-- three joined tests of which only the second is open
all_three : (p q r v : Bool) → p ≡ true → q ≡ v → r ≡ true → (p && q && r) ≡ v
all_three true true true v e f g = f
all_three true false true v e f g = f
all_three true q false v e f g = cc
all_three false q r v e f g = cc

-- so a piece could capture along a clear line exactly if it reaches the square
captures_is : (men : Men) (l : Line) (c : Colour) (k : Kind) (a b : ℕ) → a ≢ b → same_line l b a ≡ true
    → is_clear men a b ≡ true → could_capture men c k a b ≡ reaches l c k a b
unfolding could_capture
captures_is men l c King a b n on clear =
    moved_first (not (a == b)) (nat_le (abs_diff (file a) (file b)) 1) (nat_le (abs_diff (rank a) (rank b)) 1)
    ∙ rw (by_parts a, by_parts b) at (next_to l a b on)
captures_is men l c Queen a b n on clear =
    all_three (not (a == b)) (share_rank_or_file a b || share_diagonal a b) (is_clear men a b) true
    (ap not (ne_eqb _ _ n)) (rw (straight_is l a b n on, diagonal_is l a b n on) (either_way (is_straight l))) clear
captures_is men l c Rook a b n on clear =
    all_three (not (a == b)) (share_rank_or_file a b) (is_clear men a b) (is_straight l)
    (ap not (ne_eqb _ _ n)) (straight_is l a b n on) clear
captures_is men l c Bishop a b n on clear =
    all_three (not (a == b)) (share_diagonal a b) (is_clear men a b) (not (is_straight l))
    (ap not (ne_eqb _ _ n)) (diagonal_is l a b n on) clear
captures_is men l c Knight a b n on clear = no_knight l a b on
captures_is men l c Pawn a b n on clear = refl

-- the content x of square a is a piece of colour c that reaches b along a line of kind l
abbrev pub reaching : Line → Colour → ℕ → ℕ → Option Man → Bool
reaching l c a b None = false
reaching l c a b (Some x) = same_colour c x.colour && reaches l x.colour x.kind a b

-- if the way along the line is clear, c attacks b from a exactly if the piece on a reaches it
pub attacked_from_by : (men : Men) (l : Line) (c : Colour) (a b : ℕ) → a ≢ b → same_line l b a ≡ true
    → is_clear men a b ≡ true → (o : Option Man) → man_at men a ≡ o → attacked_from men c b a ≡ reaching l c a b o
unfolding is_of attacks
attacked_from_by men l c a b n on clear None at = rw at refl
attacked_from_by men l c a b n on clear (Some x) at =
    rw at (ap (λ v. same_colour c x.colour && v) (captures_is men l x.colour x.kind a b n on clear))
