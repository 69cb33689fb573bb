-- The squares between two squares of one line are those on the ray up from the lower and on the ray down from the
-- higher one, joined for all four kinds of lines, of which the two share one (on_some_line). An entry written so keeps
-- the table right (paired_more). Two squares of one rank, file or diagonal have a line of some kind, so the table has
-- what is between them (by_line), and that line is open exactly if no square between is occupied (open_between).
use Rattle.std.proofs.Common.{◌≡◌, ℕ, ◌+◌, ◌*◌, ◌/◌, ◌%◌, ◌<◌, ◌≤◌, inl, inr, Bool, true, false, not, ◌&&◌, ◌||◌, refl, sym, ap, ◌∙◌, arith, List, length, get_or, set, get_or-set_same, get_or-set_other, [], ◌∷◌}
use Rattle.std.specs.List.{list_any, list_all}
use Rattle.std.proofs.{lemmas.Bool.Decides.nat_tests, lemmas.Bool.cases_Bool, lemmas.Bool.cases_eq, lemmas.Bool.or_cases}
use Rattle.chess_base.specs.Squares.{squares, is_between, share_rank_or_file, share_diagonal, some_square, each_square}
use Rattle.chess_base.specs.{declared.line.Line.Line, shared.Lines.line_number, shared.Lines.same_line}
use Rattle.chess_base.specs.declared.line.Line.TheVariants.{Rank, File, Diagonal, Antidiagonal}
use Rattle.chess_bits.specs.ties.Rays.{is_on_ray, is_open}
use Rattle.chess_base.proofs.{shared.Geometry.between_on_line, shared.Geometry.share_diagonal_is, shared.Squares.each_square_same, shared.MenAfter.eqb_comm}
use Rattle.chess_moves.specs.Sets.{contains}

-- ---- on one line

-- k is on the ray up from a and on the ray down from b, along lines of kind l, exactly if a and b are on one line of
-- this kind and k is between them
one_line : (l : Line) (a b k : ℕ) → a ≤ b
    → (is_on_ray l true a k && is_on_ray l false b k) ≡ (same_line l a b && is_between a b k)
one_line l a b k low =
    elim (cases_Bool (same_line l a b)) [
      | inl same ↦ rw (same, between_on_line l a b k same) (grind (arith, nat_tests, same, low))
      | inr apart ↦ rw apart (grind (arith, nat_tests, apart))
    ]

-- if one of the four tests r, f, d and a passes, t joined with each of them is t
some_holds : (r f d a t : Bool) → (r || f || d || a) ≡ true → (((r && t) || (f && t)) || ((d && t) || (a && t))) ≡ t
some_holds r f d a t h = grind (arith, h)

-- squares of one line share a rank, a file, a diagonal or an antidiagonal
some_line : (l : Line) (a b : ℕ) → same_line l a b ≡ true
    → (same_line Rank a b || same_line File a b || same_line Diagonal a b || same_line Antidiagonal a b) ≡ true
some_line Rank a b e = grind (arith, e)
some_line File a b e = grind (arith, e)
some_line Diagonal a b e = grind (arith, e)
some_line Antidiagonal a b e = grind (arith, e)

-- so the four kinds of lines together give the squares between, whichever kind a and b share
pub on_some_line : (l : Line) (a b k : ℕ) → a ≤ b → same_line l a b ≡ true
    → (((is_on_ray Rank true a k && is_on_ray Rank false b k) || (is_on_ray File true a k && is_on_ray File false b k))
    || ((is_on_ray Diagonal true a k && is_on_ray Diagonal false b k)
    || (is_on_ray Antidiagonal true a k && is_on_ray Antidiagonal false b k)))
    ≡ is_between a b k
on_some_line l a b k low same =
    rw (one_line Rank a b k low, one_line File a b k low, one_line Diagonal a b k low, one_line Antidiagonal a b k low)
    (some_holds (same_line Rank a b) (same_line File a b) (same_line Diagonal a b) (same_line Antidiagonal a b)
    (is_between a b k) (some_line l a b same))

-- ---- the table

-- the entries below n of the table are those of their pairs: for squares a and b of one line, entry 64 a + b
abbrev pub AreBetween : List ℕ → ℕ → Type 0
AreBetween sets n = (l : Line) (a b k : ℕ) → a < 64 → b < 64 → 64 * a + b < n → same_line l a b ≡ true → k < 64
    → contains (get_or sets (64 * a + b) 0) k ≡ is_between a b k

-- if the entry with the index i is written with the squares between its two squares, x and y, the entries up to it are
-- right
pub paired_more : (sets : List ℕ) (i v x y : ℕ) → i < length sets → x ≡ i / 64 → y ≡ i % 64
    → ((l : Line) → same_line l x y ≡ true → (k : ℕ) → k < 64 → contains v k ≡ is_between x y k)
    → AreBetween sets i → AreBetween (set sets i v) (i + 1)
paired_more sets i v x y inside ex ey made before l a b k la lb low same lk =
    elim (cases_eq (64 * a + b) i) [
      | inl here ↦
          let first : x ≡ a = omega (arith, here, lb, ex) in
          let second : y ≡ b = omega (arith, here, lb, ey) in
          let at = rw (first, second) at made in
          rw (here, get_or-set_same sets i v 0 inside) (at l same k lk)
      | inr away ↦
          rw (get_or-set_other sets i (64 * a + b) v 0 away)
          (before l a b k la lb (omega (arith, away, low)) same lk)
    ]

-- ---- open lines

-- no square passes a test exactly if each square fails it
neither : (x y : Bool) → not (x || y) ≡ (not x && not y)
neither x y = grind arith

none_among : (xs : List ℕ) (p : ℕ → Bool) → not (list_any p xs) ≡ list_all (λ k. not (p k)) xs
none_among [] p = refl
none_among (x ∷ xs) p = neither (p x) (list_any p xs) ∙ ap (λ t. not (p x) && t) (none_among xs p)

pub none_square : (p : ℕ → Bool) → not (some_square p) ≡ each_square (λ k. not (p k))
unfolding some_square each_square
none_square p = none_among squares p

-- two squares are on one rank, file or diagonal
abbrev pub are_on_line : ℕ → ℕ → Bool
are_on_line a b = share_rank_or_file a b || share_diagonal a b

-- squares of one rank, file or diagonal are on a line of some kind, so v has what is between them
pub by_line : (a b v k : ℕ) → a < 64 → b < 64 → are_on_line b a ≡ true
    → ((l : Line) → same_line l a b ≡ true → contains v k ≡ is_between a b k)
    → contains v k ≡ is_between a b k
by_line a b v k la lb on made =
    elim (or_cases (share_rank_or_file b a) (share_diagonal b a) on) [
      | inl straight ↦
          elim (or_cases (same_line File b a) (same_line Rank b a) straight) [
            | inl f ↦ made File (eqb_comm (line_number File a) (line_number File b) ∙ f)
            | inr r ↦ made Rank (eqb_comm (line_number Rank a) (line_number Rank b) ∙ r)
          ]
      | inr aslant ↦
          elim
          (or_cases (same_line Diagonal b a) (same_line Antidiagonal b a) (sym (share_diagonal_is b a lb la) ∙ aslant)) [
            | inl d ↦ made Diagonal (eqb_comm (line_number Diagonal a) (line_number Diagonal b) ∙ d)
            | inr t ↦ made Antidiagonal (eqb_comm (line_number Antidiagonal a) (line_number Antidiagonal b) ∙ t)
          ]
    ]

-- if u are the squares of w between a and b, two squares of one line, that line is open exactly if u is empty
pub open_between : (w a b u v : ℕ) (t : Bool) → a < 64 → b < 64 → are_on_line b a ≡ true
    → ((l : Line) → same_line l a b ≡ true → (k : ℕ) → k < 64 → contains v k ≡ is_between a b k)
    → ((k : ℕ) → contains u k ≡ (contains v k && contains w k))
    → t ≡ not (some_square (λ k. contains u k)) → t ≡ is_open w a b
unfolding is_open
open_between w a b u v t la lb on made met none =
    none ∙ none_square (λ k. contains u k)
    ∙ each_square_same _ _
    (λ k low. ap not (met k ∙ ap (λ s. s && contains w k) (by_line a b v k la lb on (λ l same. made l same k low))))
