-- When the content of one square changes: the sets of a colour stay if no piece of it left or came (kinds_kept,
-- all_kept), and the set of all its pieces gains or loses that square if one came or left (all_put, all_lift). The rest
-- is of colours (theirs_of, own_of) and of writes to one square, of which the last holds (set_twice, cleared).
use mathlib.Core.Bool.{and-true, and-false, or-true, or-false}
use Rattle.std.proofs.Common.{◌≡◌, ℕ, ◌<◌, inl, inr, true, false, not, ◌&&◌, ◌||◌, ◌==◌, refl, sym, ◌∙◌, ap, arith, Option, Some, None, List, [], ◌∷◌, zero, suc, length, get_or, set, get_or-set_same, get_or-set_other}
use Rattle.std.proofs.{lemmas.Bool.cases_eq, lemmas.Bool.eq-eqb, lemmas.Bool.ne_eqb, lemmas.List.set-get_or}
use Rattle.chess_base.specs.{declared.man.Colour.Colour, declared.man.Kind.Kind, declared.man.Man.Man, shared.Parts.kind_number}
use Rattle.chess_base.specs.Men.{Men, man_at, is_of, is_man, other}
use Rattle.chess_moves.specs.Sets.{contains}
use Rattle.chess_base.proofs.{shared.Changes.not_same_other, shared.Men.not_is_man, shared.Men.is_of-none, shared.Men.same_colour-self}
use Rattle.chess_bits.specs.ties.KindSets.{IsAll, IsKinds}

-- the sets of a colour's kinds stay right when the content of square s becomes o, if neither the old content nor o is a
-- piece of this colour
pub kinds_kept : (sets : List ℕ) (men : Men) (c : Colour) (s : ℕ) (o : Option Man) → length men ≡ 64 → s < 64
    → is_of c (man_at men s) ≡ false → is_of c o ≡ false → IsKinds sets c men → IsKinds sets c (set men s o)
kinds_kept sets men c s o all ls was is h = record { of_kind = at }
  where
    at : (y : Kind) (k : ℕ) → k < 64 → contains (get_or sets (kind_number y) 0) k ≡ is_man c y (get_or (set men s o) k None)
    at y k l =
        let in_men : s < length men = omega arith in
        elim (cases_eq k s) [
          | inl here ↦ rw (here, get_or-set_same)
              (h.of_kind y s ls ∙ not_is_man c y (man_at men s) was ∙ sym (not_is_man c y o is))
          | inr away ↦ rw (get_or-set_other men s k o None away) (h.of_kind y k l)
        ]

-- the set of all pieces of a colour stays right when the content of square s becomes o, if neither the old content nor
-- o is a piece of this colour
pub all_kept : (w : ℕ) (men : Men) (c : Colour) (s : ℕ) (o : Option Man) → length men ≡ 64 → s < 64
    → is_of c (man_at men s) ≡ false → is_of c o ≡ false → IsAll w c men → IsAll w c (set men s o)
all_kept w men c s o all ls was is h = λ k l.
    let in_men : s < length men = omega arith in
    elim (cases_eq k s) [
      | inl here ↦ rw (here, get_or-set_same) (h s ls ∙ was ∙ sym is)
      | inr away ↦ rw (get_or-set_other men s k o None away) (h k l)
    ]

-- if a piece of this colour comes to s, the set of all pieces with s added is right
pub all_put : (w v : ℕ) (men : Men) (c : Colour) (s : ℕ) (o : Option Man) → length men ≡ 64 → s < 64 → is_of c o ≡ true
    → ((j : ℕ) → contains v j ≡ (contains w j || (j == s))) → IsAll w c men → IsAll v c (set men s o)
all_put w v men c s o all ls own made h = λ k l.
    let in_men : s < length men = omega arith in
    elim (cases_eq k s) [
      | inl here ↦ rw (here, get_or-set_same, own, made s, eq-eqb s s refl) (or-true (contains w s))
      | inr away ↦ rw (get_or-set_other men s k o None away, made k, ne_eqb k s away, or-false (contains w k)) (h k l)
    ]

-- if square s is emptied, the set of all pieces of a colour without s is right
pub all_lift : (w v : ℕ) (men : Men) (c : Colour) (s : ℕ) → length men ≡ 64 → s < 64
    → ((j : ℕ) → j < 64 → contains v j ≡ (contains w j && not (j == s))) → IsAll w c men → IsAll v c (set men s None)
unfolding is_of
all_lift w v men c s all ls made h = λ k l.
    let in_men : s < length men = omega arith in
    elim (cases_eq k s) [
      | inl here ↦ rw (here, get_or-set_same, made s ls, eq-eqb s s refl) (and-false (contains w s))
      | inr away ↦ rw (get_or-set_other men s k None None away, made k l, ne_eqb k s away, and-true (contains w k)) (h k l)
    ]

-- ---- colours

-- a piece of colour d is none of the other colour
pub theirs_of : (d : Colour) (m : Man) → m.colour ≡ d → is_of (other d) (Some m) ≡ false
unfolding is_of
theirs_of d m e = rw e (not_same_other d)

pub own_of : (d : Colour) (m : Man) → m.colour ≡ d → is_of d (Some m) ≡ true
unfolding is_of
own_of d m e = rw e (same_colour-self d)

pub as_own : (d : Colour) (m : Man) → m.colour ≡ d → Some m ≡ Some (record { colour = d; kind = m.kind })
as_own d m e = ap (λ (c : Colour). let man : Man = record { colour = c; kind = m.kind } in Some man) e

-- no piece of the other colour is there
pub theirs_at : (d : Colour) (m : Man) (o : Option Man) → o ≡ Some m → m.colour ≡ d → is_of (other d) o ≡ false
theirs_at d m o at e = ap (is_of (other d)) at ∙ theirs_of d m e

pub none_of : (c : Colour) (o : Option Man) → o ≡ None → is_of c o ≡ false
none_of c o bare = ap (is_of c) bare ∙ is_of-none c None refl

-- ---- one square

-- of two writes to one square the second stays; to write what is there changes nothing
pub set_twice : {A : Type 0} (xs : List A) (s : ℕ) (a b : A) → set (set xs s a) s b ≡ set xs s b
set_twice [] s a b = refl
set_twice (x ∷ xs) zero a b = refl
set_twice (x ∷ xs) (suc s) a b = ap (λ ys. x ∷ ys) (set_twice xs s a b)

pub same_written : (men : Men) (s : ℕ) (o : Option Man) → man_at men s ≡ o → set men s o ≡ men
same_written men s o e = ap (set men s) (sym e) ∙ set-get_or men s None

pub cleared : (men : Men) (s : ℕ) → s < 64 → length men ≡ 64 → man_at (set men s None) s ≡ None
cleared men s l all = let inside : s < length men = omega arith in get_or-set_same men s None None inside

-- ---- two squares

-- an empty square stays empty when another one is emptied
pub still_empty : (men : Men) (a b : ℕ) → length men ≡ 64 → a < 64 → man_at men b ≡ None
    → man_at (set men a None) b ≡ None
still_empty men a b all low bare =
    elim (cases_eq b a) [
      | inl here ↦ rw here (cleared men a low all)
      | inr away ↦ get_or-set_other men a b None None away ∙ bare
    ]
