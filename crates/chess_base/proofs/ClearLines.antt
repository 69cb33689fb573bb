-- Between two squares of one line the way is clear exactly if each square of the line between them is empty (clear_by,
-- not_clear_by; from between_on_line of shared/Geometry). The loop of `is_clear_above` walks so from `low` up to
-- `high`: `IsWalkedTo`, its invariant, holds at first (walk_begins) and after an empty square (walk_goes_on); it ends
-- on a clear way (walk_ends) or at a piece (walk_stops). Before these are lemmas of a step to the next square.
use Rattle.std.proofs.Common.{◌≡◌, ℕ, ◌+◌, ◌<◌, ◌≤◌, inl, inr, Bool, true, false, ◌||◌, not, is_none, refl, sym, ◌∙◌, arith}
use Rattle.std.proofs.lemmas.Bool.{and_parts, and_from, cases_order, eqb-true, eq-eqb}
use Rattle.std.proofs.lemmas.Bool.Decides.{nat_tests}
use Rattle.chess_base.specs.{declared.line.Line.Line, Squares.is_strictly_between, Squares.is_between, Men.Men, Men.man_at, Attacks.is_clear, shared.Lines.same_line, ties.Lines.step_of}
use Rattle.chess_base.specs.declared.line.Line.TheVariants.{Rank, File, Diagonal, Antidiagonal}
use Rattle.chess_base.proofs.{shared.Squares.each_square-all, shared.Squares.each_square-fails, shared.Geometry.between_on_line}

-- ---- from square to square

-- the next square of the line is not past a further one
pub step_fits : (l : Line) (x k : ℕ) → x < k → k < 64 → same_line l x k ≡ true → x + step_of l ≤ k
step_fits Rank x k h low e = omega arith
step_fits File x k h low e = let same = eqb-true _ _ e in omega (arith, same)
step_fits Diagonal x k h low e =
    let same = eqb-true _ _ e in omega (arith, same)
step_fits Antidiagonal x k h low e = let same = eqb-true _ _ e in omega (arith, same)

-- and it is on the line
pub step_stays : (l : Line) (x k : ℕ) → x < k → k < 64 → same_line l x k ≡ true → same_line l (x + step_of l) k ≡ true
step_stays Rank x k h low e =
    let same = eqb-true _ _ e in eq-eqb _ _ (omega (arith, same))
step_stays File x k h low e =
    let same = eqb-true _ _ e in eq-eqb _ _ (omega (arith, same))
step_stays Diagonal x k h low e =
    let same = eqb-true _ _ e in
    eq-eqb _ _ (omega (arith, same))
step_stays Antidiagonal x k h low e =
    let same = eqb-true _ _ e in
    eq-eqb _ _ (omega (arith, same))

-- to be on one line of a kind is symmetric, and transitive
pub line_back : (l : Line) (a b : ℕ) → same_line l a b ≡ true → same_line l b a ≡ true
line_back l a b e = eq-eqb _ _ (sym (eqb-true _ _ e))

pub line_on : (l : Line) (a b c : ℕ) → same_line l a b ≡ true → same_line l b c ≡ true → same_line l a c ≡ true
line_on l a b c e f =
    eq-eqb _ _ (eqb-true _ _ e ∙ eqb-true _ _ f)

-- ---- clear lines

-- strictly between two numbers, of which the first is the lower: above the one and below the other, and back
inside_rising : (low high k : ℕ) → low < high → is_strictly_between low high k ≡ true → (low < k) × (k < high)
inside_rising low high k h e = (grind (arith, nat_tests), grind (arith, nat_tests))

inside_of : (low high k : ℕ) → low < k → k < high → is_strictly_between low high k ≡ true
inside_of low high k h g = grind (arith, nat_tests)

-- "if p, then q", as a test: it passes, or fails
passes_if : (p q : Bool) → (p ≡ true → q ≡ true) → (not p || q) ≡ true
passes_if true q h = h refl
passes_if false q h = refl

fails_by : (p q : Bool) → p ≡ true → q ≡ false → (not p || q) ≡ false
fails_by p q e f = rw (e, f) refl

-- if each square of the line between the two is empty, the way between them is clear
pub clear_by : (men : Men) (l : Line) (low high : ℕ) → low < high → same_line l low high ≡ true
    → ((k : ℕ) → low < k → k < high → same_line l low k ≡ true → is_none (man_at men k) ≡ true)
    → is_clear men low high ≡ true
unfolding is_clear
clear_by men l low high rising on empty =
    each_square-all _
    (λ k _.
    passes_if (is_between low high k) (is_none (man_at men k))
    (λ e.
    let both = and_parts _ _ (sym (between_on_line l low high k on) ∙ e) in
    let inside = inside_rising low high k rising both.1 in
    empty k inside.0 inside.1 both.0))

-- if one of these squares holds a piece, it is not clear
pub not_clear_by : (men : Men) (l : Line) (low high k : ℕ) → low < k → k < high → high ≤ 64
    → same_line l low high ≡ true → same_line l low k ≡ true → is_none (man_at men k) ≡ false
    → is_clear men low high ≡ false
unfolding is_clear
not_clear_by men l low high k h g in_board on there piece =
    each_square-fails _ k (omega arith)
    (fails_by (is_between low high k) (is_none (man_at men k))
    (between_on_line l low high k on ∙ and_from _ _ there (inside_of low high k h g)) piece)

-- ---- a walk up a line

-- walking up the line from `low` towards `high`, the next square to look at is number n, and all before it are empty
pub record IsWalkedTo (men : Men) (l : Line) (low high n : ℕ) : Type 0 where
  pub risen : low < n
  pub fits : n ≤ high
  pub on : same_line l n high ≡ true
  pub empty : (k : ℕ) → low < k → k < n → same_line l low k ≡ true → is_none (man_at men k) ≡ true

-- the next square of a line has the greater number
pub rises : (l : Line) (x : ℕ) → x < x + step_of l
rises Rank x = omega arith
rises File x = omega arith
rises Diagonal x = omega arith
rises Antidiagonal x = omega arith

-- between a square and the next one of its line, no square is on the line
pub none_between : (l : Line) (x k : ℕ) → x < k → k < x + step_of l → k < 64 → same_line l x k ≡ true → ⊥
none_between l x k h g low e = let far = step_fits l x k h low e in omega (arith, far)

-- a walk begins at the line's first square above `low`: none of its squares is between them
pub walk_begins : (men : Men) (l : Line) (low high : ℕ) → low < high → high < 64 → same_line l low high ≡ true
    → IsWalkedTo men l low high (low + step_of l)
walk_begins men l low high rising in_board on =
    let fit = step_fits l low high rising in_board on in
    record {
      risen = rises l low;
      fits = fit;
      on = step_stays l low high rising in_board on;
      empty = λ k h g e. absurd (none_between l low k h g (omega (arith, fit)) e);
    }

-- if n is empty too, so are all squares of the line above `low` and below the one after n
step_empty : (men : Men) (l : Line) (low high n : ℕ) → IsWalkedTo men l low high n → n < high → high < 64
    → same_line l low high ≡ true → is_none (man_at men n) ≡ true → (k : ℕ) → low < k → k < n + step_of l
    → same_line l low k ≡ true → is_none (man_at men k) ≡ true
step_empty men l low high n w more in_board on empty k h g e =
    let fit = step_fits l n high more in_board w.on in
    elim (cases_order k n) [
      | inl same ↦ rw same empty
      | inr apart ↦
          elim apart [
            | inl less ↦ w.empty k h less e
            | inr past ↦
                absurd (none_between l n k past g (omega (arith, fit))
                (line_on _ _ _ _ w.on (line_on _ _ _ _ (line_back _ _ _ on) e)))
          ]
    ]

-- from an empty square the walk goes on to the next one of the line
pub walk_goes_on : (men : Men) (l : Line) (low high n : ℕ) → IsWalkedTo men l low high n → n < high → high < 64
    → same_line l low high ≡ true → is_none (man_at men n) ≡ true → IsWalkedTo men l low high (n + step_of l)
walk_goes_on men l low high n w more in_board on empty = record {
  risen = let more_risen = rises l n in omega (arith, more_risen, w.risen);
  fits = step_fits l n high more in_board w.on;
  on = step_stays l n high more in_board w.on;
  empty = step_empty men l low high n w more in_board on empty;
}

-- a walk that comes to `high` has met no piece, so the way is clear
pub walk_ends : (men : Men) (l : Line) (low high n : ℕ) → IsWalkedTo men l low high n → high ≤ n → low < high
    → same_line l low high ≡ true → is_clear men low high ≡ true
walk_ends men l low high n w past rising on =
    clear_by men l low high rising on (λ k h g e. w.empty k h (omega (arith, past, g)) e)

-- a walk that meets a piece before `high` shows that the way is not clear
pub walk_stops : (men : Men) (l : Line) (low high n : ℕ) → IsWalkedTo men l low high n → n < high → high < 64
    → same_line l low high ≡ true → is_none (man_at men n) ≡ false → is_clear men low high ≡ false
walk_stops men l low high n w more in_board on piece =
    not_clear_by men l low high n w.risen more (omega arith) on (line_on _ _ _ _ on (line_back _ _ _ w.on)) piece
