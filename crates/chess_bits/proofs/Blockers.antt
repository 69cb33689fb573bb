-- A sweep from a along a ray is that ray without the ray that continues from its first blocker f: so it is the open
-- part of the ray, with f (swept_to). With a blocker, a square of the ray is open exactly if it does not come after f
-- (open_to_first); without one, f is the board's last square, and the whole ray is open (swept_all). In these lemmas w
-- are the occupied squares.
use mathlib.Core.Bool.{and-true}
use Rattle.std.proofs.Common.{◌≡◌, ◌==◌, ℕ, zero, suc, ◌<◌, inl, inr, Bool, true, false, not, ◌&&◌, ◌||◌, nat_lt, refl, sym, ap, ◌∙◌, arith}
use Rattle.std.proofs.lemmas.Bool.Decides.{nat_tests}
use Rattle.std.proofs.lemmas.Bool.{and_parts, and_right, both_ways, cases_Bool, eq-eqb, or_right}
use Rattle.chess_base.specs.{Squares.is_between, declared.line.Line.Line, shared.Lines.same_line}
use Rattle.chess_moves.specs.Sets.{contains, is_beyond}
use Rattle.chess_moves.proofs.shared.Members.{has_zero}
use Rattle.chess_bits.specs.ties.Rays.{is_on_ray, is_open}
use Rattle.chess_base.proofs.{shared.Geometry.between_on_line, shared.Squares.each_square-all, shared.Squares.each_square-fails}

-- what lies between a square and one on a ray from it lies on that ray, before that square
between_on_ray : (l : Line) (up : Bool) (a b x : ℕ) → is_on_ray l up a b ≡ true
    → is_between a b x ≡ (is_on_ray l up a x && is_beyond up x b)
between_on_ray l true a b x e =
    let same = and_parts (same_line l a b) (nat_lt a b) e in
    rw (between_on_line l a b x same.0) (grind (arith, nat_tests))
between_on_ray l false a b x e =
    let same = and_parts (same_line l a b) (nat_lt b a) e in
    rw (between_on_line l a b x same.0) (grind (arith, nat_tests))

-- a ray from a square of a ray is the rest of that ray
ray_on : (l : Line) (up : Bool) (a f x : ℕ) → is_on_ray l up a f ≡ true
    → is_on_ray l up f x ≡ (is_on_ray l up a x && is_beyond up f x)
ray_on l true a f x e = grind (arith, nat_tests)
ray_on l false a f x e = grind (arith, nat_tests)

-- if x comes before b, and b does not come after f, x comes before f
before_first : (up : Bool) (x b f : ℕ) → is_beyond up x b ≡ true → is_beyond up f b ≡ false → is_beyond up x f ≡ true
before_first true x b f e n = grind (arith, nat_tests)
before_first false x b f e n = grind (arith, nat_tests)

pub not_both : (p q : Bool) → (p ≡ true → q ≡ false) → not (p && q) ≡ true
not_both true q h = rw (h refl) refl
not_both false q h = refl

-- with no blocker on the ray all of it is open
pub open_ray : (l : Line) (up : Bool) (a b w : ℕ)
    → ((x : ℕ) → x < 64 → (is_on_ray l up a x && contains w x) ≡ false)
    → is_on_ray l up a b ≡ true → is_open w a b ≡ true
unfolding is_open
open_ray l up a b w none e =
    each_square-all _
    (λ x h.
    not_both (is_between a b x) (contains w x)
    (λ t.
    let on = and_parts (is_on_ray l up a x) (is_beyond up x b) (sym (between_on_ray l up a b x e) ∙ t) in
    let clear : (is_on_ray l up a x && contains w x) ≡ false = none x h in
    (rw on.0 at clear)))

-- if f is the first blocker, a square b of the ray is open exactly if it does not come after f
pub open_to_first : (l : Line) (up : Bool) (a b w f : ℕ)
    → f < 64
    → is_on_ray l up a f ≡ true
    → contains w f ≡ true
    → ((x : ℕ) → x < 64 → is_beyond up x f ≡ true → (is_on_ray l up a x && contains w x) ≡ false)
    → is_on_ray l up a b ≡ true
    → is_open w a b ≡ not (is_on_ray l up f b)
unfolding is_open
open_to_first l up a b w f h on here nearer e =
    elim (cases_Bool (is_beyond up f b)) [
      | inl past ↦
          let rest : is_on_ray l up f b ≡ true = ray_on l up a f b on ∙ rw (e, past) refl in
          let inside : is_between a b f ≡ true = between_on_ray l up a b f e ∙ rw (on, past) refl in
          rw rest (each_square-fails _ f h (rw (inside, here) refl))
      | inr short ↦
          let rest : is_on_ray l up f b ≡ false = ray_on l up a f b on ∙ rw (e, short) refl in
          rw rest
          (each_square-all _
          (λ x k.
          not_both (is_between a b x) (contains w x)
          (λ t.
          let both = and_parts (is_on_ray l up a x) (is_beyond up x b) (sym (between_on_ray l up a b x e) ∙ t) in
          let clear : (is_on_ray l up a x && contains w x) ≡ false = nearer x k (before_first up x b f both.1 short) in
          (rw both.0 at clear))))
    ]

-- if f is the first blocker, the ray from a without the ray from f is the open part of the ray from a
pub swept : (l : Line) (up : Bool) (a b w f : ℕ)
    → f < 64
    → is_on_ray l up a f ≡ true
    → contains w f ≡ true
    → ((x : ℕ) → x < 64 → is_beyond up x f ≡ true → (is_on_ray l up a x && contains w x) ≡ false)
    → (is_on_ray l up a b && not (is_on_ray l up f b)) ≡ (is_on_ray l up a b && is_open w a b)
swept l up a b w f h on here nearer =
    elim (cases_Bool (is_on_ray l up a b)) [
      | inl e ↦ rw e (sym (open_to_first l up a b w f h on here nearer e))
      | inr n ↦ rw n refl
    ]

-- without a blocker the ray from a is its own open part
pub swept_all : (l : Line) (up : Bool) (a b w : ℕ)
    → ((x : ℕ) → x < 64 → (is_on_ray l up a x && contains w x) ≡ false)
    → is_on_ray l up a b ≡ (is_on_ray l up a b && is_open w a b)
swept_all l up a b w none =
    elim (cases_Bool (is_on_ray l up a b)) [
      | inl e ↦ rw e (sym (open_ray l up a b w none e))
      | inr n ↦ rw n refl
    ]

-- ---- where a ray without blockers ends with the board

-- a set with a square is not 0
pub positive : (w s : ℕ) → contains w s ≡ true → 0 < w
positive zero s h = absurd (both_ways (contains 0 s) (has_zero s) h)
positive (suc w) s h = omega arith

-- a set (u) to which a square was added is not 0
pub with_end : (w u v e s : ℕ) → ((k : ℕ) → contains u k ≡ (contains w k || contains v k)) → ((k : ℕ) → contains v k ≡ (k == s)) → e ≡ s
    → 0 < u
with_end w u v e s joined one same =
    positive u e (joined e ∙ or_right (contains w e) (contains v e) (one e ∙ eq-eqb e s same))

-- a square that comes neither before nor after f is f
not_past : (up : Bool) (k f : ℕ) → is_beyond up k f ≡ false → is_beyond up f k ≡ false → k ≡ f
not_past true k f a b = grind (arith, nat_tests, a, b)
not_past false k f a b = grind (arith, nat_tests, a, b)

-- what `sweep` gives: v are the blockers on the ray, and f is the first of them, or the board's last square in this
-- direction if there is none
pub swept_to : (l : Line) (up : Bool) (a b w v f : ℕ) → f < 64 → b < 64
    → ((k : ℕ) → k < 64 → contains v k ≡ (is_on_ray l up a k && contains w k))
    → ((k : ℕ) → is_beyond up k f ≡ true → contains v k ≡ false)
    → (contains v f ≡ false → (k : ℕ) → k < 64 → is_beyond up f k ≡ false)
    → (is_on_ray l up a b && not (is_on_ray l up f b)) ≡ (is_on_ray l up a b && is_open w a b)
swept_to l up a b w v f low high blocked nearer beyond =
    elim (cases_Bool (contains v f)) [
      | inl here ↦
          let both = and_parts (is_on_ray l up a f) (contains w f) (sym (blocked f low) ∙ here) in
          swept l up a b w f low both.0 both.1 (λ x k past. sym (blocked x k) ∙ nearer x past)
      | inr none ↦
          let short : is_on_ray l up f b ≡ false = and_right (same_line l f b) (is_beyond up f b) (beyond none b high) in
          ap (λ t. is_on_ray l up a b && not t) short
          ∙ and-true (is_on_ray l up a b)
          ∙ swept_all l up a b w
          (λ x k. sym (blocked x k)
          ∙ elim (cases_Bool (is_beyond up x f)) [
            | inl past ↦ nearer x past
            | inr away ↦ ap (contains v) (not_past up x f away (beyond none x k)) ∙ none
          ])
    ]
