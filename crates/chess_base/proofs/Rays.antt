-- All attacks on a square b are those that the code finds (attacked_is): along four kinds of lines, up and down, and by
-- knights. On a line the first piece from b hides the others, so it decides (first_decides). The loops keep that all
-- squares so far are empty (`HasRisen`, `HasFallen`); from this follow their ends (rise_stops, rise_ends, fall_stops,
-- fall_ends). Nothing else attacks: what captures is on a line with b, or a knight (lined).
use Rattle.std.proofs.Common.{◌≡◌, ℕ, ◌+◌, ◌-◌, ◌<◌, ◌≤◌, ◌⊎◌, inl, inr, Bool, true, false, ◌&&◌, ◌||◌, not, ◌==◌, nat_le, nat_lt, is_none, Option, Some, None, refl, sym, ap, ◌∙◌, arith}
use Rattle.std.proofs.lemmas.Bool.{and_parts, and_from, and_right, cases_order, eqb-true, eq-eqb, ltb-true, or_cases}
use Rattle.std.proofs.{Math.Bool.and-false, lemmas.Bool.Decides.nat_tests}
use Rattle.std.specs.Int.{abs_diff}
use Rattle.chess_base.specs.{declared.line.Line.Line, declared.man.Colour.Colour, declared.man.Colour.TheVariants.White, declared.man.Colour.TheVariants.Black, declared.man.Kind.Kind, declared.man.Man.Man, shared.Parts.is_rank_ahead}
use Rattle.chess_base.specs.declared.line.Line.TheVariants.{Rank, File, Diagonal, Antidiagonal}
use Rattle.chess_base.specs.declared.man.Kind.TheVariants.{King, Queen, Rook, Bishop, Knight, Pawn}
use Rattle.chess_base.specs.Squares.{file, rank, is_strictly_between, share_rank_or_file, share_diagonal, is_between, some_square}
use Rattle.chess_base.specs.Men.{Men, man_at, is_of, is_man, same_kind}
use Rattle.chess_base.specs.Attacks.{is_clear, could_capture, attacks, is_attacked}
use Rattle.chess_base.specs.shared.Lines.{same_line, is_between_on_file, is_between_on_rank, is_between_on_diagonal}
use Rattle.chess_base.specs.ties.Lines.{step_of, is_above, is_below, attacked_from, attacked_along_from_above, attacked_along_from_below, attacked_along, attacked_by_knight, attacked_by_knight_from_below, attacked_by_knight_from_above, attacked_from_below, attacked_from_above}
use Rattle.chess_base.proofs.{shared.Parts.is_between_is, shared.Geometry.between_on_line, shared.Geometry.is_clear_back, Knights.attacked_by_knight_is}
use Rattle.chess_base.proofs.shared.Squares.{each_square-fails, some_square_same, none_passes, one_decides, some_square-or}
use Rattle.chess_base.proofs.ClearLines.{clear_by, step_fits, step_stays, none_between, rises, line_back, line_on}

-- ---- a piece between two squares hides one from the other

-- squares that have one between them are further apart than a king steps
not_near : (a b x : ℕ) → is_between a b x ≡ true
    → (nat_le (abs_diff (file a) (file b)) 1 && nat_le (abs_diff (rank a) (rank b)) 1) ≡ false
unfolding is_between is_between_on_file is_between_on_rank is_between_on_diagonal
not_near a b x e = grind (arith, nat_tests, e)

-- squares that have one between them on a file are no knight's way apart
no_knight_on_file : (a b x : ℕ) → is_between_on_file a b x ≡ true
    → (((abs_diff (file a) (file b) == 1) && (abs_diff (rank a) (rank b) == 2))
    || ((abs_diff (file a) (file b) == 2) && (abs_diff (rank a) (rank b) == 1))) ≡ false
unfolding is_between_on_file
no_knight_on_file a b x e = grind (arith, nat_tests, e)

-- nor are those that have one between them on a rank
no_knight_on_rank : (a b x : ℕ) → is_between_on_rank a b x ≡ true
    → (((abs_diff (file a) (file b) == 1) && (abs_diff (rank a) (rank b) == 2))
    || ((abs_diff (file a) (file b) == 2) && (abs_diff (rank a) (rank b) == 1))) ≡ false
unfolding is_between_on_rank
no_knight_on_rank a b x e = grind (arith, nat_tests, e)

-- over files and ranks: from one square to the next on a diagonal, both change alike
alike : (f h g r t q : ℕ) → abs_diff f h ≡ abs_diff r t → abs_diff h g ≡ abs_diff t q → is_strictly_between r q t ≡ true
    → is_strictly_between f g h ≡ true
    → abs_diff f g ≡ abs_diff r q
alike f h g r t q e1 e2 i1 i2 = grind (arith, nat_tests, i1, i2)

no_knight_alike : (n m : ℕ) → n ≡ m → (((n == 1) && (m == 2)) || ((n == 2) && (m == 1))) ≡ false
no_knight_alike n m e = grind (arith, nat_tests)

-- nor are those that have one between them on a diagonal
no_knight_on_diagonal : (a b x : ℕ) → is_between_on_diagonal a b x ≡ true
    → (((abs_diff (file a) (file b) == 1) && (abs_diff (rank a) (rank b) == 2))
    || ((abs_diff (file a) (file b) == 2) && (abs_diff (rank a) (rank b) == 1))) ≡ false
unfolding is_between_on_diagonal
no_knight_on_diagonal a b x e =
    let last = and_parts _ _ e in
    let next = and_parts _ _ last.0 in
    let first = and_parts _ _ next.0 in
    no_knight_alike (abs_diff (file a) (file b)) (abs_diff (rank a) (rank b))
    (alike (file a) (file x) (file b) (rank a) (rank x) (rank b) (eqb-true _ _ first.0)
    (eqb-true _ _ first.1) next.1 last.1)

-- so squares that have one between them are no knight's way apart
no_knight_between : (a b x : ℕ) → is_between a b x ≡ true
    → (((abs_diff (file a) (file b) == 1) && (abs_diff (rank a) (rank b) == 2))
    || ((abs_diff (file a) (file b) == 2) && (abs_diff (rank a) (rank b) == 1))) ≡ false
no_knight_between a b x e =
    elim (or_cases (is_between_on_file a b x || is_between_on_rank a b x) (is_between_on_diagonal a b x)
    (rw (is_between_is a b x) at e)) [
      | inl straight ↦
          elim (or_cases _ _ straight) [
            | inl on_file ↦ no_knight_on_file a b x on_file
            | inr on_rank ↦ no_knight_on_rank a b x on_rank
          ]
      | inr diagonal ↦ no_knight_on_diagonal a b x diagonal
    ]

-- nor does a pawn on a attack b then
no_pawn_between : (c : Colour) (a b x : ℕ) → is_between a b x ≡ true
    → ((abs_diff (file a) (file b) == 1) && is_rank_ahead c a b) ≡ false
no_pawn_between White a b x e = let far = not_near a b x e in grind (arith, nat_tests, far)
no_pawn_between Black a b x e = let far = not_near a b x e in grind (arith, nat_tests, far)

-- a piece between two squares shuts the way
shut : (men : Men) (a b x : ℕ) → x < 64 → is_between a b x ≡ true → is_none (man_at men x) ≡ false
    → is_clear men a b ≡ false
unfolding is_clear
shut men a b x h e piece = each_square-fails _ x h (rw (e, piece) refl)

-- three joined tests fail if the last two or the last one does
last_two_fail : (p q r : Bool) → (q && r) ≡ false → (p && q && r) ≡ false
last_two_fail true q r e = e
last_two_fail false q r e = refl

last_fails : (p q r : Bool) → r ≡ false → (p && q && r) ≡ false
last_fails true true r e = e
last_fails true false r e = refl
last_fails false q r e = refl

-- so no piece on a could capture on b if another is between them
hidden : (men : Men) (c : Colour) (k : Kind) (a b x : ℕ) → x < 64 → is_between a b x ≡ true
    → is_none (man_at men x) ≡ false → could_capture men c k a b ≡ false
unfolding could_capture
hidden men c King a b x h e piece =
    last_two_fail (not (a == b)) (nat_le (abs_diff (file a) (file b)) 1) (nat_le (abs_diff (rank a) (rank b)) 1)
    (not_near a b x e)
hidden men c Queen a b x h e piece =
    last_fails (not (a == b)) (share_rank_or_file a b || share_diagonal a b) (is_clear men a b)
    (shut men a b x h e piece)
hidden men c Rook a b x h e piece =
    last_fails (not (a == b)) (share_rank_or_file a b) (is_clear men a b) (shut men a b x h e piece)
hidden men c Bishop a b x h e piece =
    last_fails (not (a == b)) (share_diagonal a b) (is_clear men a b) (shut men a b x h e piece)
hidden men c Knight a b x h e piece = no_knight_between a b x e
hidden men c Pawn a b x h e piece = no_pawn_between c a b x e

-- nothing attacks from an empty square
none_from : (men : Men) (c : Colour) (b k : ℕ) → (o : Option Man) → man_at men k ≡ o → is_none o ≡ true
    → attacked_from men c b k ≡ false
unfolding is_of
none_from men c b k None at e = rw at refl
none_from men c b k (Some x) at e = absurd cc

empty_from : (men : Men) (c : Colour) (b k : ℕ) → is_none (man_at men k) ≡ true → attacked_from men c b k ≡ false
empty_from men c b k e = none_from men c b k (man_at men k) refl e

-- and nothing from a square that another piece hides from b
hidden_attacks : (men : Men) (b k x : ℕ) → x < 64 → is_between k b x ≡ true → is_none (man_at men x) ≡ false
    → (o : Option Man) → man_at men k ≡ o → attacks men k b ≡ false
unfolding attacks
hidden_attacks men b k x h e piece None at = rw at refl
hidden_attacks men b k x h e piece (Some y) at = rw at (hidden men y.colour y.kind k b x h e piece)

hidden_from : (men : Men) (c : Colour) (b k x : ℕ) → x < 64 → is_between k b x ≡ true
    → is_none (man_at men x) ≡ false → attacked_from men c b k ≡ false
hidden_from men c b k x h e piece = and_right _ _ (hidden_attacks men b k x h e piece (man_at men k) refl)

-- ---- of the squares that pass a test, only the first piece counts

-- square k is empty, or it is x, or x is between it and b
abbrev IsHidden : Men → ℕ → ℕ → ℕ → Type 0
IsHidden men b x k = (is_none (man_at men k) ≡ true) ⊎ ((k ≡ x) ⊎ (is_between k b x ≡ true))

-- if the piece on x does not attack b, nothing that it hides does
all_hidden : (p : ℕ → Bool) (men : Men) (c : Colour) (b x k : ℕ) → x < 64 → is_none (man_at men x) ≡ false
    → attacked_from men c b x ≡ false → IsHidden men b x k → attacked_from men c b k ≡ false
all_hidden p men c b x k h piece fails (inl empty) = empty_from men c b k empty
all_hidden p men c b x k h piece fails (inr (inl same)) = rw same fails
all_hidden p men c b x k h piece fails (inr (inr between)) = hidden_from men c b k x h between piece

-- if the piece on x hides all other squares that pass p, or they are empty, it alone decides whether one of them
-- attacks b
pub first_decides : (p : ℕ → Bool) (men : Men) (c : Colour) (b x : ℕ) → x < 64 → p x ≡ true
    → is_none (man_at men x) ≡ false → ((k : ℕ) → k < 64 → p k ≡ true → IsHidden men b x k)
    → attacked_from men c b x ≡ some_square (λ a. p a && attacked_from men c b a)
first_decides p men c b x h on piece hidden =
    one_decides p (λ a. attacked_from men c b a) x h on
    (λ k low e fails. all_hidden p men c b x k h piece fails (hidden k low e))

-- if all squares that pass p are empty, none of them attacks b
pub none_decides : (p : ℕ → Bool) (men : Men) (c : Colour) (b : ℕ)
    → ((k : ℕ) → k < 64 → p k ≡ true → is_none (man_at men k) ≡ true)
    → false ≡ some_square (λ a. p a && attacked_from men c b a)
none_decides p men c b empty =
    sym (none_passes p (λ a. attacked_from men c b a) (λ k low e. empty_from men c b k (empty k low e)))

-- ---- up a line

-- from b up its line, whose last square is `end`, all squares up to n were looked at and are empty
pub record HasRisen (men : Men) (l : Line) (b end n : ℕ) : Type 0 where
  pub begun : b ≤ n
  pub fits : n ≤ end
  pub on : same_line l n end ≡ true
  pub empty : (k : ℕ) → b < k → k ≤ n → same_line l b k ≡ true → is_none (man_at men k) ≡ true

-- b and n are on one line
line_of_rise : (men : Men) (l : Line) (b end n : ℕ) → same_line l b end ≡ true → HasRisen men l b end n
    → same_line l b n ≡ true
line_of_rise men l b end n on w = line_on _ _ _ _ on (line_back _ _ _ w.on)

-- what is on the line above b, but before the next square, is empty
before_next : (men : Men) (l : Line) (b end n : ℕ) → same_line l b end ≡ true → HasRisen men l b end n → n < end
    → end < 64 → (k : ℕ) → b < k → k < n + step_of l → same_line l b k ≡ true → is_none (man_at men k) ≡ true
before_next men l b end n on w more in_board k above below e =
    let fit = step_fits l n end more in_board w.on in
    elim (cases_order k n) [
      | inl same ↦ w.empty k above (omega (arith, same)) e
      | inr apart ↦
          elim apart [
            | inl less ↦ w.empty k above (omega (arith, less)) e
            | inr past ↦
                absurd (none_between l n k past below (omega (arith, fit))
                (line_on _ _ _ _ (line_back _ _ _ (line_of_rise men l b end n on w)) e))
          ]
    ]

-- a number is between two others, of which the first is the higher one, or the lower one
inside_falling : (k b x : ℕ) → b < x → x < k → is_strictly_between k b x ≡ true
inside_falling k b x h g = grind (arith, nat_tests)

inside_rising : (k b x : ℕ) → x < b → k < x → is_strictly_between k b x ≡ true
inside_rising k b x h g = grind (arith, nat_tests)

-- on one line, a square whose number is between those of two others is between them
hides : (l : Line) (k b x : ℕ) → same_line l b k ≡ true → same_line l b x ≡ true → is_strictly_between k b x ≡ true
    → is_between k b x ≡ true
hides l k b x e f inside =
    let back = line_back _ _ _ e in
    between_on_line l k b x back ∙ and_from _ _ (line_on _ _ _ _ back f) inside

-- what `is_above` says, and that it follows
above_parts : (l : Line) (b k : ℕ) → is_above l b k ≡ true → (same_line l b k ≡ true) × (b < k)
above_parts l b k e =
    let both = and_parts _ _ e in (both.0, ltb-true _ _ both.1)

above_from : (l : Line) (b k : ℕ) → same_line l b k ≡ true → b < k → is_above l b k ≡ true
above_from l b k e h = and_from _ _ e (grind (arith, nat_tests))

-- the piece on the next square of the line hides all that is above it; all below it is empty
hidden_by_first : (men : Men) (l : Line) (b end n : ℕ) → same_line l b end ≡ true → HasRisen men l b end n → n < end
    → end < 64 → same_line l b (n + step_of l) ≡ true → (k : ℕ) → b < k → same_line l b k ≡ true
    → IsHidden men b (n + step_of l) k
hidden_by_first men l b end n on w more in_board there k above e =
    elim (cases_order k (n + step_of l)) [
      | inl same ↦ inr (inl same)
      | inr apart ↦
          elim apart [
            | inl less ↦ inl (before_next men l b end n on w more in_board k above less e)
            | inr past ↦ inr (inr (hides l k b (n + step_of l) e there
                (inside_falling k b (n + step_of l)
                (let far = rises l n in omega (arith, far, w.begun)) past)))
          ]
    ]

-- a walk up that meets a piece: this one decides whether b is attacked from above along the line
pub rise_stops : (men : Men) (l : Line) (c : Colour) (b end n : ℕ) → same_line l b end ≡ true → HasRisen men l b end n
    → n < end → end < 64 → is_none (man_at men (n + step_of l)) ≡ false
    → attacked_from men c b (n + step_of l) ≡ attacked_along_from_above men l c b
unfolding attacked_along_from_above
rise_stops men l c b end n on w more in_board piece =
    let fit = step_fits l n end more in_board w.on in
    let far = rises l n in
    let there : same_line l b (n + step_of l) ≡ true =
    line_on _ _ _ _ on (line_back _ _ _ (step_stays l n end more in_board w.on)) in
    first_decides (λ a. is_above l b a) men c b (n + step_of l) (omega (arith, fit, in_board))
    (above_from l b (n + step_of l) there (omega (arith, far, w.begun))) piece
    (λ k low e.
    let parts = above_parts l b k e in hidden_by_first men l b end n on w more in_board there k parts.1 parts.0)

-- between b and the next square of the line there is no piece
pub rise_clear : (men : Men) (l : Line) (b end n : ℕ) → same_line l b end ≡ true → HasRisen men l b end n → n < end
    → end < 64 → is_clear men (n + step_of l) b ≡ true
rise_clear men l b end n on w more in_board =
    let far = rises l n in
    is_clear_back men (n + step_of l) b
    ∙ clear_by men l b (n + step_of l) (omega (arith, far, w.begun))
    (line_on _ _ _ _ on (line_back _ _ _ (step_stays l n end more in_board w.on)))
    (λ k above below e. before_next men l b end n on w more in_board k above below e)

-- a walk up that comes to the last square: nothing attacks b from above along the line
pub rise_ends : (men : Men) (l : Line) (c : Colour) (b end n : ℕ) → HasRisen men l b end n → end ≤ n
    → ((k : ℕ) → k < 64 → same_line l b k ≡ true → k ≤ end) → false ≡ attacked_along_from_above men l c b
unfolding attacked_along_from_above
rise_ends men l c b end n w past last =
    none_decides (λ a. is_above l b a) men c b
    (λ k low e.
    let parts = above_parts l b k e in
    let far = last k low parts.0 in w.empty k parts.1 (omega (arith, far, past)) parts.0)

-- ---- down a line

-- from b down its line, whose last square is `end`, all squares down to n were looked at and are empty
pub record HasFallen (men : Men) (l : Line) (b end n : ℕ) : Type 0 where
  pub begun : n ≤ b
  pub fits : end ≤ n
  pub on : same_line l end n ≡ true
  pub empty : (k : ℕ) → k < b → n ≤ k → same_line l b k ≡ true → is_none (man_at men k) ≡ true

-- the square before one that is above `end` is on the line
step_back_stays : (l : Line) (e x : ℕ) → e < x → x < 64 → same_line l e x ≡ true → same_line l e (x - step_of l) ≡ true
step_back_stays Rank e x h low on =
    let same = eqb-true _ _ on in eq-eqb _ _ (omega (arith, same))
step_back_stays File e x h low on =
    let same = eqb-true _ _ on in eq-eqb _ _ (omega (arith, same))
step_back_stays Diagonal e x h low on =
    let same = eqb-true _ _ on in
    eq-eqb _ _ (omega (arith, same))
step_back_stays Antidiagonal e x h low on =
    let same = eqb-true _ _ on in
    eq-eqb _ _ (omega (arith, same))

-- b and n are on one line
line_of_fall : (men : Men) (l : Line) (b end n : ℕ) → same_line l b end ≡ true → HasFallen men l b end n
    → same_line l b n ≡ true
line_of_fall men l b end n on w = line_on _ _ _ _ on w.on

-- what is on the line below b, but above the next square, is empty
above_next : (men : Men) (l : Line) (b end n : ℕ) → b < 64 → same_line l b end ≡ true → HasFallen men l b end n
    → (k : ℕ) → k < b → n < k + step_of l → same_line l b k ≡ true → is_none (man_at men k) ≡ true
above_next men l b end n in_board on w k below above e =
    elim (cases_order k n) [
      | inl same ↦ w.empty k below (omega (arith, same)) e
      | inr apart ↦
          elim apart [
            | inl less ↦
                absurd (none_between l k n less above (omega (arith, w.begun, in_board))
                (line_on _ _ _ _ (line_back _ _ _ e) (line_of_fall men l b end n on w)))
            | inr past ↦ w.empty k below (omega (arith, past)) e
          ]
    ]

-- from a square above the line's last one, a step down does not pass that one
pub fall_fits : (men : Men) (l : Line) (b end n : ℕ) → b < 64 → HasFallen men l b end n → end < n → end + step_of l ≤ n
fall_fits men l b end n in_board w more = step_fits l end n more (omega (arith, w.begun, in_board)) w.on

-- what `is_below` says, and that it follows
below_parts : (l : Line) (b k : ℕ) → is_below l b k ≡ true → (same_line l b k ≡ true) × (k < b)
below_parts l b k e =
    let both = and_parts _ _ e in (both.0, ltb-true _ _ both.1)

below_from : (l : Line) (b k : ℕ) → same_line l b k ≡ true → k < b → is_below l b k ≡ true
below_from l b k e h = and_from _ _ e (grind (arith, nat_tests))

-- the piece on the next square hides all that is below it; all above it is empty
beyond_first : (men : Men) (l : Line) (b end n x : ℕ) → b < 64 → same_line l b end ≡ true → HasFallen men l b end n
    → x + step_of l ≡ n → same_line l b x ≡ true → (k : ℕ) → k < b → same_line l b k ≡ true → IsHidden men b x k
beyond_first men l b end n x in_board on w next there k below e =
    elim (cases_order k x) [
      | inl same ↦ inr (inl same)
      | inr apart ↦
          elim apart [
            | inl less ↦
                inr (inr (hides l k b x e there
                (inside_rising k b x (let far = rises l x in omega (arith, far, next, w.begun)) less)))
            | inr past ↦ inl (above_next men l b end n in_board on w k below (omega (arith, past, next)) e)
          ]
    ]

-- a walk down that meets a piece: this one decides whether b is attacked from below along the line
pub fall_stops : (men : Men) (l : Line) (c : Colour) (b end n : ℕ) → b < 64 → same_line l b end ≡ true
    → HasFallen men l b end n → end < n → is_none (man_at men (n - step_of l)) ≡ false
    → attacked_from men c b (n - step_of l) ≡ attacked_along_from_below men l c b
unfolding attacked_along_from_below
fall_stops men l c b end n in_board on w more piece =
    let fit = fall_fits men l b end n in_board w more in
    let next : (n - step_of l) + step_of l ≡ n = omega (arith, fit) in
    let far = rises l (n - step_of l) in
    let there : same_line l b (n - step_of l) ≡ true =
    line_on _ _ _ _ on (step_back_stays l end n more (omega (arith, w.begun, in_board)) w.on) in
    first_decides (λ a. is_below l b a) men c b (n - step_of l) (omega (arith, w.begun, in_board))
    (below_from l b (n - step_of l) there (omega (arith, far, next, w.begun))) piece
    (λ k low e.
    let parts = below_parts l b k e in
    beyond_first men l b end n (n - step_of l) in_board on w next there k parts.1 parts.0)

-- between b and the next square of the line downwards there is no piece
pub fall_clear : (men : Men) (l : Line) (b end n : ℕ) → b < 64 → same_line l b end ≡ true
    → HasFallen men l b end n → end < n → is_clear men (n - step_of l) b ≡ true
fall_clear men l b end n in_board on w more =
    let fit = fall_fits men l b end n in_board w more in
    let next : (n - step_of l) + step_of l ≡ n = omega (arith, fit) in
    let far = rises l (n - step_of l) in
    let there : same_line l b (n - step_of l) ≡ true =
    line_on _ _ _ _ on (step_back_stays l end n more (omega (arith, w.begun, in_board)) w.on) in
    clear_by men l (n - step_of l) b (omega (arith, far, next, w.begun)) (line_back _ _ _ there) (λ k above below e.
    above_next men l b end n in_board on w k below (omega (arith, above, next)) (line_on _ _ _ _ there e))

-- a walk down that comes to the last square: nothing attacks b from below along the line
pub fall_ends : (men : Men) (l : Line) (c : Colour) (b end n : ℕ) → HasFallen men l b end n → n ≤ end
    → ((k : ℕ) → k < 64 → same_line l b k ≡ true → end ≤ k) → false ≡ attacked_along_from_below men l c b
unfolding attacked_along_from_below
fall_ends men l c b end n w past last =
    none_decides (λ a. is_below l b a) men c b
    (λ k low e.
    let parts = below_parts l b k e in
    let far = last k low parts.0 in w.empty k parts.1 (omega (arith, far, past)) parts.0)

-- ---- both ways

-- no piece attacks its own square
pub could_capture-itself : (men : Men) (c : Colour) (k : Kind) (b : ℕ) → could_capture men c k b b ≡ false
unfolding could_capture
could_capture-itself men c King b = grind (arith, nat_tests)
could_capture-itself men c Queen b = grind (arith, nat_tests)
could_capture-itself men c Rook b = grind (arith, nat_tests)
could_capture-itself men c Bishop b = grind (arith, nat_tests)
could_capture-itself men c Knight b = grind (arith, nat_tests)
could_capture-itself men White Pawn b = grind (arith, nat_tests)
could_capture-itself men Black Pawn b = grind (arith, nat_tests)

no_attack_itself : (men : Men) (b : ℕ) → (o : Option Man) → man_at men b ≡ o → attacks men b b ≡ false
unfolding attacks
no_attack_itself men b None at = rw at refl
no_attack_itself men b (Some y) at = rw at (could_capture-itself men y.colour y.kind b)

itself_from : (men : Men) (c : Colour) (b : ℕ) → attacked_from men c b b ≡ false
itself_from men c b = and_right _ _ (no_attack_itself men b (man_at men b) refl)

-- a test that fails on b itself, by the squares above b and those below
above_or_below : (e : Bool) (b k : ℕ) (s : Bool) → (b ≡ k → s ≡ false)
    → (e && s) ≡ ((e && nat_lt b k && s) || (e && nat_lt k b && s))
above_or_below false b k s h = refl
above_or_below true b k false h = grind arith
above_or_below true b k true h =
    elim (cases_order b k) [
      | inl same ↦ let no = h same in cc
      | inr apart ↦ grind (arith, nat_tests)
    ]

-- the attacks along a line are those from above and those from below
pub along_is : (men : Men) (l : Line) (c : Colour) (b : ℕ)
    → attacked_along men l c b ≡ (attacked_along_from_above men l c b || attacked_along_from_below men l c b)
unfolding attacked_along attacked_along_from_above attacked_along_from_below
along_is men l c b =
    some_square_same (λ a. same_line l b a && attacked_from men c b a)
    (λ a. (is_above l b a && attacked_from men c b a) || (is_below l b a && attacked_from men c b a))
    (λ k low. above_or_below (same_line l b k) b k (attacked_from men c b k)
    (λ e. ap (λ t. attacked_from men c b t) (sym e) ∙ itself_from men c b))
    ∙ some_square-or (λ a. is_above l b a && attacked_from men c b a) (λ a. is_below l b a && attacked_from men c b a)

-- ---- all ways

-- some line of the four is shared
abbrev on_some_line : ℕ → ℕ → Bool
on_some_line a b = same_line File b a || same_line Rank b a || same_line Diagonal b a || same_line Antidiagonal b a

-- squares that share a rank, a file or a diagonal are on one of the four kinds of lines
straight_line : (a b : ℕ) → share_rank_or_file a b ≡ true → on_some_line a b ≡ true
straight_line a b e = grind (arith, nat_tests, e)

diagonal_line : (a b : ℕ) → share_diagonal a b ≡ true → on_some_line a b ≡ true
diagonal_line a b e = grind (arith, nat_tests, e)

either_line : (a b : ℕ) → (share_rank_or_file a b || share_diagonal a b) ≡ true → on_some_line a b ≡ true
either_line a b e =
    elim (or_cases _ _ e) [
      | inl straight ↦ straight_line a b straight
      | inr diagonal ↦ diagonal_line a b diagonal
    ]

-- so are those that a king's step or a pawn's attack joins
king_line : (a b : ℕ) → nat_le (abs_diff (file a) (file b)) 1 ≡ true → nat_le (abs_diff (rank a) (rank b)) 1 ≡ true
    → (share_rank_or_file a b || share_diagonal a b) ≡ true
king_line a b e f = grind (arith, nat_tests, e, f)

pawn_line : (c : Colour) (a b : ℕ) → ((abs_diff (file a) (file b) == 1) && is_rank_ahead c a b) ≡ true
    → share_diagonal a b ≡ true
pawn_line White a b e = grind (arith, nat_tests, e)
pawn_line Black a b e = grind (arith, nat_tests, e)

middle : (p q r : Bool) → (p && q && r) ≡ true → q ≡ true
middle p q r e = (and_parts _ _ (and_parts _ _ e).0).1

-- what captures goes along a line, or is a knight
lined : (men : Men) (d : Colour) (k : Kind) (a b : ℕ) → could_capture men d k a b ≡ true
    → (on_some_line a b ≡ true) ⊎ ((same_kind Knight k ≡ true) × (could_capture men d Knight a b ≡ true))
unfolding could_capture
lined men d King a b e =
    inl (either_line a b (king_line a b (middle _ _ _ e) (and_parts _ _ e).1))
lined men d Queen a b e = inl (either_line a b (middle _ _ _ e))
lined men d Rook a b e = inl (straight_line a b (middle _ _ _ e))
lined men d Bishop a b e = inl (diagonal_line a b (middle _ _ _ e))
lined men d Knight a b e = inr (refl, e)
lined men d Pawn a b e = inl (diagonal_line a b (pawn_line d a b e))

-- a knight of colour c on square a could capture on b
abbrev knight_attacks : Men → Colour → ℕ → ℕ → Bool
knight_attacks men c b a = is_man c Knight (man_at men a) && could_capture men c Knight a b

-- what attacks b is on a line with it, or is a knight
lined_of : (men : Men) (c : Colour) (a b : ℕ) (o : Option Man) → man_at men a ≡ o → attacked_from men c b a ≡ true
    → (on_some_line a b ≡ true) ⊎ (knight_attacks men c b a ≡ true)
unfolding is_of is_man attacks could_capture
lined_of men c a b None at e = let none = rw at at e in cc
lined_of men c a b (Some x) at e =
    let both = and_parts _ _ (rw at at e) in
    elim (lined men x.colour x.kind a b both.1) [
      | inl line ↦ inl line
      | inr knight ↦
          inr (rw at (and_from _ _ (and_from _ _ both.0 knight.0) knight.1))
    ]

-- a knight that could capture on b attacks it
knight_by : (men : Men) (c d : Colour) (k : Kind) (a b : ℕ) → same_kind Knight k ≡ true
    → could_capture men c Knight a b ≡ true → could_capture men d k a b ≡ true
unfolding could_capture
knight_by men c d King a b e f = cc
knight_by men c d Queen a b e f = cc
knight_by men c d Rook a b e f = cc
knight_by men c d Bishop a b e f = cc
knight_by men c d Knight a b e f = f
knight_by men c d Pawn a b e f = cc

knight_of : (men : Men) (c : Colour) (a b : ℕ) (o : Option Man) → man_at men a ≡ o → knight_attacks men c b a ≡ true
    → attacked_from men c b a ≡ true
unfolding is_of is_man attacks
knight_of men c a b None at e = let none = rw at at e in cc
knight_of men c a b (Some x) at e =
    let both = and_parts _ _ (rw at at e) in
    let man = and_parts _ _ both.0 in
    rw at (and_from _ _ man.0 (knight_by men c x.colour x.kind a b man.1 both.1))

-- if s holds only on one of four lines (f, r, d, t) or together with k, and k gives s: s holds exactly if it does on
-- one of the lines, or if k does
ways : (f r d t k s : Bool) → (s ≡ true → ((f || r || d || t) ≡ true) ⊎ (k ≡ true)) → (k ≡ true → s ≡ true)
    → s ≡ ((f && s) || (r && s) || (d && s) || (t && s) || k)
ways f r d t k true h g =
    elim (h refl) [
      | inl line ↦ grind (arith, line)
      | inr knight ↦ grind (arith, knight)
    ]
ways f r d t true false h g = let no = g refl in cc
ways f r d t false false h g = rw (and-false f, and-false r, and-false d, and-false t) refl

-- the attacks on b are those along the four kinds of lines and those of knights
lines_attack : (men : Men) (b : ℕ) (c : Colour)
    → is_attacked men b c ≡ (attacked_along men File c b || attacked_along men Rank c b
    || attacked_along men Diagonal c b || attacked_along men Antidiagonal c b || attacked_by_knight men c b)
unfolding is_attacked attacked_along attacked_by_knight
lines_attack men b c =
    let f : ℕ → Bool = λ a. same_line File b a && attacked_from men c b a in
    let r : ℕ → Bool = λ a. same_line Rank b a && attacked_from men c b a in
    let d : ℕ → Bool = λ a. same_line Diagonal b a && attacked_from men c b a in
    let t : ℕ → Bool = λ a. same_line Antidiagonal b a && attacked_from men c b a in
    let k : ℕ → Bool = λ a. knight_attacks men c b a in
    some_square_same (λ a. attacked_from men c b a) (λ a. f a || r a || d a || t a || k a)
    (λ a low. ways (same_line File b a) (same_line Rank b a) (same_line Diagonal b a) (same_line Antidiagonal b a)
    (knight_attacks men c b a) (attacked_from men c b a) (lined_of men c a b (man_at men a) refl)
    (knight_of men c a b (man_at men a) refl))
    ∙ (some_square-or (λ a. f a || r a || d a || t a) k
    ∙ ap (λ v. v || some_square k) (some_square-or (λ a. f a || r a || d a) t
    ∙ ap (λ v. v || some_square t) (some_square-or (λ a. f a || r a) d
    ∙ ap (λ v. v || some_square d) (some_square-or f r))))

-- the same tests in the code's order: first the attacks from squares below b, then those from above
by_numbers : (fa fb ra rb da db ta tb kb ka : Bool)
    → ((fa || fb) || (ra || rb) || (da || db) || (ta || tb) || (kb || ka))
    ≡ ((kb || db || fb || tb || rb) || (ka || ra || ta || fa || da))
by_numbers fa fb ra rb da db ta tb kb ka = grind arith

-- all attacks on b, as the code looks for them
pub attacked_is : (men : Men) (b : ℕ) (c : Colour) → b < 64
    → is_attacked men b c ≡ (attacked_from_below men b c || attacked_from_above men b c)
attacked_is men b c low =
    lines_attack men b c
    ∙ (rw (
      along_is men File c b,
      along_is men Rank c b,
      along_is men Diagonal c b,
      along_is men Antidiagonal c b,
      attacked_by_knight_is men c b low,
    )
    (by_numbers (attacked_along_from_above men File c b) (attacked_along_from_below men File c b)
    (attacked_along_from_above men Rank c b) (attacked_along_from_below men Rank c b)
    (attacked_along_from_above men Diagonal c b) (attacked_along_from_below men Diagonal c b)
    (attacked_along_from_above men Antidiagonal c b) (attacked_along_from_below men Antidiagonal c b)
    (attacked_by_knight_from_below men c b) (attacked_by_knight_from_above men c b)))
