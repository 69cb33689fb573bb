-- For proofs about lines. A square is between two squares of a line exactly if it is on that line and its number is
-- between theirs (between_on_line), while the definition `is_between` asks for ranks and files: shown for one kind of
-- line after the other, by arithmetic. Which squares are between two, and whether these are empty, does not depend on
-- the order of the two (between_back, is_clear_back).
use Rattle.std.proofs.Common.{◌≡◌, ℕ, ◌<◌, ◌*◌, ◌+◌, nat_lt, ◌-◌, inl, inr, Bool, true, false, ◌&&◌, ◌||◌, not, ◌==◌, is_none, refl, sym, ap, ◌∙◌, arith}
use Rattle.std.proofs.{lemmas.Bool.Decides.nat_tests, lemmas.Bool.cases_order, lemmas.Bool.eqb-true}
use Rattle.std.specs.Int.{abs_diff}
use Rattle.chess_base.specs.Squares.{file, rank, is_strictly_between, share_diagonal, is_between}
use Rattle.chess_base.specs.{declared.line.Line.Line, Men.Men, Men.man_at, Attacks.is_clear}
use Rattle.chess_base.specs.declared.line.Line.TheVariants.{Rank, File, Diagonal, Antidiagonal}
use Rattle.chess_base.specs.shared.Lines.{same_line, is_between_on_file, is_between_on_rank, is_between_on_diagonal}
use Rattle.chess_base.proofs.{shared.Parts.is_between_is, shared.Squares.each_square_same}

-- ---- which squares are between two does not depend on their order

-- a difference, the other way round
pub abs_diff_back : (m n : ℕ) → abs_diff m n ≡ abs_diff n m
abs_diff_back m n = omega arith

-- which numbers are strictly between two doesn't depend on their order
inside_back : (m n x : ℕ) → is_strictly_between m n x ≡ is_strictly_between n m x
inside_back m n x = grind (arith, nat_tests)

-- of three joined tests the first two may change places
swap_first : (p q r : Bool) → (p && q && r) ≡ (q && p && r)
swap_first p q r = grind arith

-- which squares of a file are between two squares doesn't depend on their order
back_on_file : (a b x : ℕ) → is_between_on_file a b x ≡ is_between_on_file b a x
unfolding is_between_on_file
back_on_file a b x = rw (inside_back (rank a) (rank b) (rank x))
    (swap_first (file x == file a) (file x == file b) (is_strictly_between (rank b) (rank a) (rank x)))

-- which squares of a rank are between two squares doesn't depend on their order
back_on_rank : (a b x : ℕ) → is_between_on_rank a b x ≡ is_between_on_rank b a x
unfolding is_between_on_rank
back_on_rank a b x = rw (inside_back (file a) (file b) (file x))
    (swap_first (rank x == rank a) (rank x == rank b) (is_strictly_between (file b) (file a) (file x)))

-- two squares share a diagonal, the other way round
pub diagonal_back : (a b : ℕ) → share_diagonal a b ≡ share_diagonal b a
diagonal_back a b = rw (abs_diff_back (file a) (file b), abs_diff_back (rank a) (rank b)) refl

-- which squares of a diagonal are between two squares doesn't depend on their order
back_on_diagonal : (a b x : ℕ) → is_between_on_diagonal a b x ≡ is_between_on_diagonal b a x
unfolding is_between_on_diagonal
back_on_diagonal a b x =
    let e = inside_back (rank a) (rank b) (rank x) in
    let f = inside_back (file a) (file b) (file x) in
    grind (arith, e, f, diagonal_back a x, diagonal_back x b)

-- ---- on each kind of line

-- two squares share a diagonal if they are on one line of either direction
pub share_diagonal_is : (a b : ℕ) → a < 64 → b < 64
    → share_diagonal a b ≡ (same_line Diagonal a b || same_line Antidiagonal a b)
share_diagonal_is a b h l = grind (arith, nat_tests)

-- what is between two squares of a rank
pub between_rank : (a b x : ℕ) → same_line Rank a b ≡ true
    → is_between a b x ≡ (same_line Rank a x && is_strictly_between a b x)
unfolding is_between is_between_on_file is_between_on_rank is_between_on_diagonal
between_rank a b x e = grind (arith, nat_tests)

-- of three tests, one is left
only_first : (p q r t : Bool) → p ≡ t → q ≡ false → r ≡ false → (p || q || r) ≡ t
only_first p q r t e f g = rw (e, f, g) (elim t as (λ v. (v || false || false) ≡ v) [ true ↦ refl | false ↦ refl ])

-- of three tests of which the first two fail, the last decides
only_last : (p q r t : Bool) → p ≡ false → q ≡ false → r ≡ t → (p || q || r) ≡ t
only_last p q r t e f g = rw (e, f, g) refl

-- of two squares on one file, what is between them on that file, by the squares' numbers
file_part : (a b x : ℕ) → same_line File a b ≡ true
    → is_between_on_file a b x ≡ (same_line File a x && is_strictly_between a b x)
unfolding is_between_on_file
file_part a b x e = grind (arith, nat_tests)

-- between two squares on one file nothing is between them on a rank
file_no_rank : (a b x : ℕ) → same_line File a b ≡ true → is_between_on_rank a b x ≡ false
unfolding is_between_on_rank
file_no_rank a b x e = grind (arith, nat_tests)

-- between two squares on one file nothing is between them on a diagonal
file_no_diagonal : (a b x : ℕ) → same_line File a b ≡ true → is_between_on_diagonal a b x ≡ false
unfolding is_between_on_diagonal
file_no_diagonal a b x e = grind (arith, nat_tests)

-- what is between two squares of a file
pub between_file : (a b x : ℕ) → same_line File a b ≡ true
    → is_between a b x ≡ (same_line File a x && is_strictly_between a b x)
between_file a b x e =
    is_between_is a b x ∙ only_first _ _ _ _ (file_part a b x e) (file_no_rank a b x e) (file_no_diagonal a b x e)

-- strictly between two numbers, if the first is the smaller
inside_up : (m n x : ℕ) → m < n → is_strictly_between m n x ≡ (nat_lt m x && nat_lt x n)
inside_up m n x h = grind (arith, nat_tests)

-- strictly between two numbers, if the second is the smaller
inside_down : (m n x : ℕ) → n < m → is_strictly_between m n x ≡ (nat_lt n x && nat_lt x m)
inside_down m n x h = grind (arith, nat_tests)

-- strictly between two equal numbers there is none
inside_none : (m n x : ℕ) → m ≡ n → is_strictly_between m n x ≡ false
inside_none m n x h = grind (arith, nat_tests)

-- over files and ranks, up a diagonal: what is between, by the squares' numbers
up_diagonal : (f r g q h t : ℕ) → f < 8 → g < 8 → h < 8 → r + g ≡ q + f → f < g
    → (abs_diff f h == abs_diff r t && abs_diff h g == abs_diff t q && is_strictly_between r q t
    && is_strictly_between f g h)
    ≡ ((r + 7 - f == t + 7 - h) && (nat_lt (8 * r + f) (8 * t + h) && nat_lt (8 * t + h) (8 * q + g)))
up_diagonal f r g q h t a b c e l =
    rw (inside_up r q t (omega arith), inside_up f g h l) (grind (arith, nat_tests))

-- the same along an antidiagonal, where the file falls as the rank rises
up_antidiagonal : (f r g q h t : ℕ) → f < 8 → g < 8 → h < 8 → r + f ≡ q + g → r < q
    → (abs_diff f h == abs_diff r t && abs_diff h g == abs_diff t q && is_strictly_between r q t
    && is_strictly_between f g h)
    ≡ ((r + f == t + h) && (nat_lt (8 * r + f) (8 * t + h) && nat_lt (8 * t + h) (8 * q + g)))
up_antidiagonal f r g q h t a b c e l =
    rw (inside_up r q t l, inside_down f g h (omega arith)) (grind (arith, nat_tests))

-- a square by its rank and its file
pub by_parts : (s : ℕ) → 8 * rank s + file s ≡ s
by_parts s = omega arith

-- between a square and itself there is none, neither by rank and file nor by number
none_inside : (a b x : ℕ) (s t u : Bool) → rank a ≡ rank b → a ≡ b
    → (s && t && is_strictly_between (rank a) (rank b) (rank x) && is_strictly_between (file a) (file b) (file x))
    ≡ (u && is_strictly_between a b x)
none_inside a b x s t u e f = rw (inside_none (rank a) (rank b) (rank x) e, inside_none a b x f) (grind arith)

-- the squares of a line that are between two of it don't depend on their order
flipped : (l : Line) (a b x : ℕ) → same_line l a b ≡ true
    → (same_line l b x && is_strictly_between b a x) ≡ (same_line l a x && is_strictly_between a b x)
flipped l a b x e = rw (eqb-true _ _ e, inside_back a b x) refl

-- what is between two squares of a diagonal, by their numbers, if the first is the lower one
diagonal_up : (a b x : ℕ) → rank a + file b ≡ rank b + file a → file a < file b
    → is_between_on_diagonal a b x ≡ (same_line Diagonal a x && is_strictly_between a b x)
unfolding is_between_on_diagonal
diagonal_up a b x n less =
    rw (inside_up a b x (omega arith))
    (rw (by_parts a, by_parts b, by_parts x) at
    (up_diagonal (file a) (rank a) (file b) (rank b) (file x) (rank x) (omega arith) (omega arith) (omega arith) n less))

-- what is between two squares of an antidiagonal, by their numbers, if the first is the lower one
antidiagonal_up : (a b x : ℕ) → rank a + file a ≡ rank b + file b → rank a < rank b
    → is_between_on_diagonal a b x ≡ (same_line Antidiagonal a x && is_strictly_between a b x)
unfolding is_between_on_diagonal
antidiagonal_up a b x n less =
    rw (inside_up a b x (omega arith))
    (rw (by_parts a, by_parts b, by_parts x) at
    (up_antidiagonal (file a) (rank a) (file b) (rank b) (file x) (rank x) (omega arith) (omega arith) (omega arith) n less))

-- what is between two squares of a diagonal, by their numbers, in either order
diagonal_part : (a b x : ℕ) → same_line Diagonal a b ≡ true
    → is_between_on_diagonal a b x ≡ (same_line Diagonal a x && is_strictly_between a b x)
unfolding is_between_on_diagonal
diagonal_part a b x e =
    let n : rank a + file b ≡ rank b + file a = grind (arith, nat_tests) in
    elim (cases_order (file a) (file b)) [
      | inl same ↦ none_inside a b x (share_diagonal a x) (share_diagonal x b) _ (omega arith) (omega arith)
      | inr (inl less) ↦ diagonal_up a b x n less
      | inr (inr more) ↦ back_on_diagonal a b x ∙ diagonal_up b a x (sym n) more ∙ flipped Diagonal a b x e
    ]

-- what is between two squares of an antidiagonal, by their numbers, in either order
antidiagonal_part : (a b x : ℕ) → same_line Antidiagonal a b ≡ true
    → is_between_on_diagonal a b x ≡ (same_line Antidiagonal a x && is_strictly_between a b x)
unfolding is_between_on_diagonal
antidiagonal_part a b x e =
    let n : rank a + file a ≡ rank b + file b = grind (arith, nat_tests) in
    elim (cases_order (rank a) (rank b)) [
      | inl same ↦ none_inside a b x (share_diagonal a x) (share_diagonal x b) _ same (omega arith)
      | inr (inl less) ↦ antidiagonal_up a b x n less
      | inr (inr more) ↦ back_on_diagonal a b x ∙ antidiagonal_up b a x (sym n) more ∙ flipped Antidiagonal a b x e
    ]

-- between two squares on one diagonal nothing is between them on a file
diagonal_no_file : (a b x : ℕ) → same_line Diagonal a b ≡ true → is_between_on_file a b x ≡ false
unfolding is_between_on_file
diagonal_no_file a b x e = grind (arith, nat_tests)

-- between two squares on one diagonal nothing is between them on a rank
diagonal_no_rank : (a b x : ℕ) → same_line Diagonal a b ≡ true → is_between_on_rank a b x ≡ false
unfolding is_between_on_rank
diagonal_no_rank a b x e = grind (arith, nat_tests)

-- what is between two squares of a diagonal
pub between_diagonal : (a b x : ℕ) → same_line Diagonal a b ≡ true
    → is_between a b x ≡ (same_line Diagonal a x && is_strictly_between a b x)
between_diagonal a b x e =
    is_between_is a b x ∙ only_last _ _ _ _ (diagonal_no_file a b x e) (diagonal_no_rank a b x e)
    (diagonal_part a b x e)

-- between two squares on one antidiagonal nothing is between them on a file
antidiagonal_no_file : (a b x : ℕ) → same_line Antidiagonal a b ≡ true → is_between_on_file a b x ≡ false
unfolding is_between_on_file
antidiagonal_no_file a b x e = grind (arith, nat_tests)

-- between two squares on one antidiagonal nothing is between them on a rank
antidiagonal_no_rank : (a b x : ℕ) → same_line Antidiagonal a b ≡ true → is_between_on_rank a b x ≡ false
unfolding is_between_on_rank
antidiagonal_no_rank a b x e = grind (arith, nat_tests)

-- what is between two squares of an antidiagonal
pub between_antidiagonal : (a b x : ℕ) → same_line Antidiagonal a b ≡ true
    → is_between a b x ≡ (same_line Antidiagonal a x && is_strictly_between a b x)
between_antidiagonal a b x e =
    is_between_is a b x ∙ only_last _ _ _ _ (antidiagonal_no_file a b x e) (antidiagonal_no_rank a b x e)
    (antidiagonal_part a b x e)

-- what lies between two squares of one line lies on the line, between them in number
pub between_on_line : (l : Line) (a b x : ℕ) → same_line l a b ≡ true
    → is_between a b x ≡ (same_line l a x && is_strictly_between a b x)
between_on_line Rank a b x e = between_rank a b x e
between_on_line File a b x e = between_file a b x e
between_on_line Diagonal a b x e = between_diagonal a b x e
between_on_line Antidiagonal a b x e = between_antidiagonal a b x e

-- what is between two squares, the other way round
pub between_back : (a b x : ℕ) → is_between a b x ≡ is_between b a x
between_back a b x =
    is_between_is a b x ∙ rw (back_on_file a b x, back_on_rank a b x, back_on_diagonal a b x) refl
    ∙ sym (is_between_is b a x)

-- the squares between two are empty, the other way round
pub is_clear_back : (men : Men) (a b : ℕ) → is_clear men a b ≡ is_clear men b a
unfolding is_clear
is_clear_back men a b =
    each_square_same _ _ (λ x l. ap (λ t. not t || is_none (man_at men x)) (between_back a b x))

-- a square is not between another and itself
pub is_between-end : (a b : ℕ) → is_between a b b ≡ false
unfolding is_between is_between_on_file is_between_on_rank is_between_on_diagonal
is_between-end a b = grind (arith, nat_tests)
