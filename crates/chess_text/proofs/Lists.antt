-- Facts of lists that are made from a list by `map`, `flat_map` or `++`, by induction on it. If x is in a list (IsIn),
-- what is made of x is in the list made from it (in-append-left and so on). If each element has a property
-- (AllByRecursion), so has each element of the list made (each-append and so on), and what a test finds has it (found).
use Rattle.std.proofs.Common.{◌≡◌, ℕ, zero, suc, ◌<◌, inl, inr, Bool, true, ◌||◌, List, [], ◌∷◌, ◌++◌, map, Option, refl, ap, ◌∙◌, arith, IfSome}
use Rattle.std.specs.List.{AllByRecursion, list_any, flat_map}
use Rattle.std.proofs.{lemmas.Bool.or_cases, lemmas.Bool.or_left, lemmas.Bool.or_right, lemmas.List.Folds.list_any-append}
use Rattle.chess_base.specs.{declared.man.Kind.Kind, MoveList.promotions, shared.Below.from_below}
use Rattle.chess_text.specs.laws.Laws.{CanPromote}
use Rattle.chess_moves.proofs.shared.AnyMove.{any-flat_map}

-- ---- an element of a list

pub any-map : {A B : Type 0} (t : B → Bool) (g : A → B) (xs : List A)
    → list_any t (map g xs) ≡ list_any (λ x. t (g x)) xs
any-map t g [] = refl
any-map t g (x ∷ xs) = ap (λ b. t (g x) || b) (any-map t g xs)

-- x is in the list: whatever test x passes finds an element of the list that passes
abbrev pub IsIn : (A : Type 0) → List A → A → Type 0
IsIn A xs x = (t : A → Bool) → t x ≡ true → list_any t xs ≡ true

pub in-flat_map : {A B : Type 0} (g : A → List B) (xs : List A) (x : A) (y : B) → IsIn A xs x → IsIn B (g x) y
    → IsIn B (flat_map g xs) y
in-flat_map g xs x y h k t e = any-flat_map t g xs ∙ h (λ z. list_any t (g z)) (k t e)

-- x in xs gives g x in the list of the g y for y in xs
pub in-one : {A B : Type 0} (g : A → B) (xs : List A) (x : A) → IsIn A xs x → IsIn B (flat_map (λ y. g y ∷ []) xs) (g x)
in-one g xs x h = in-flat_map (λ y. g y ∷ []) xs x (g x) h (λ t e. or_left (t (g x)) _ e)

pub in-map : {A B : Type 0} (g : A → B) (xs : List A) (x : A) → IsIn A xs x → IsIn B (map g xs) (g x)
in-map g xs x h t e = any-map t g xs ∙ h (λ y. t (g y)) e

pub in-append-left : {A : Type 0} (xs ys : List A) (x : A) → IsIn A xs x → IsIn A (xs ++ ys) x
in-append-left xs ys x h t e = list_any-append t xs ys ∙ or_left (list_any t xs) (list_any t ys) (h t e)

pub in-append-right : {A : Type 0} (xs ys : List A) (x : A) → IsIn A ys x → IsIn A (xs ++ ys) x
in-append-right xs ys x h t e = list_any-append t xs ys ∙ or_right (list_any t xs) (list_any t ys) (h t e)

-- each possible promotion, and `None`, is in the list of promotions
pub promotion_in : (o : Option Kind) → IfSome o CanPromote → IsIn (Option Kind) promotions o
promotion_in o h t e = grind (arith, e, h)

-- ---- each element of a list

pub each-append : {A : Type 0} (P : A → Type 0) (xs ys : List A) → AllByRecursion P xs → AllByRecursion P ys
    → AllByRecursion P (xs ++ ys)
each-append P [] ys h k = k
each-append P (x ∷ xs) ys h k = (h.0, each-append P xs ys h.1 k)

-- if each x of xs has P, and P of x gives Q for each element of g x, each element of these lists joined has Q
pub each-flat_map : {A B : Type 0} (P : A → Type 0) (Q : B → Type 0) (g : A → List B) (xs : List A)
    → AllByRecursion P xs → ((x : A) → P x → AllByRecursion Q (g x)) → AllByRecursion Q (flat_map g xs)
each-flat_map P Q g [] h k = tt
each-flat_map P Q g (x ∷ xs) h k =
    each-append Q (g x) (flat_map g xs) (k x h.0) (each-flat_map P Q g xs h.1 k)

pub each-one : {A B : Type 0} (P : A → Type 0) (Q : B → Type 0) (g : A → B) (xs : List A) → AllByRecursion P xs
    → ((x : A) → P x → Q (g x)) → AllByRecursion Q (flat_map (λ y. g y ∷ []) xs)
each-one P Q g xs h k = each-flat_map P Q (λ y. g y ∷ []) xs h (λ x p. (k x p, tt))

-- if each of f 0 .. f (n - 1) has P, so has each element of the list of these
pub each-below : {A : Type 0} (P : A → Type 0) (n : ℕ) (f : ℕ → A) → ((k : ℕ) → k < n → P (f k))
    → AllByRecursion P (from_below n f)
each-below P zero f h = tt
each-below P (suc n) f h = (h 0 (omega arith), each-below P n (λ k. f (suc k)) (λ k l. h (suc k) (omega arith)))

-- if each element has P, a test that finds an element finds one with P
pub found : {A : Type 0} (P : A → Type 0) (xs : List A) → AllByRecursion P xs → (t : A → Bool) → list_any t xs ≡ true
    → (x : A) × P x × (t x ≡ true)
found P [] h t e = absurd cc
found P (x ∷ xs) h t e =
    elim (or_cases (t x) (list_any t xs) e) [ inl at ↦ (x, h.0, at) | inr after ↦ found P xs h.1 t after ]
