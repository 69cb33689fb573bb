-- The letter of a promotion is that of a piece in FEN, where a capital letter is White's and a small one Black's: if a
-- piece has the letter, it is read as the promotion to this piece (promotion_found), and if none has, as no promotion
-- (no_promotion). By cases of colour and kind.
use Rattle.std.proofs.Common.{◌≡◌, ℕ, Bool, true, false, cond, eqb, List, [], ◌∷◌, Option, Some, None, refl, sym, ap, ◌∙◌, arith, find, ◌==◌}
use Rattle.std.proofs.lemmas.Bool.Decides.{nat_tests}
use Rattle.chess_base.specs.{declared.man.Colour.Colour, declared.man.Kind.Kind, declared.man.Man.Man}
use Rattle.chess_base.specs.Letters.{letter, letter_by, all_men, man_with_letter}
use Rattle.chess_text.specs.{declared.parts.Promotion.Promotion, laws.Laws.CanPromote, shared.Fitting.promotion_letter, shared.Reader.promotion_by, shared.Reader.promotion_to}
use Rattle.chess_text.proofs.Grammar.{promotion_is}

abbrev man_from : List Man → ℕ → Option Man
man_from men c = find (λ m. letter m == c) men

man_found : (men : List Man) (c : ℕ) (m : Man) → man_from men c ≡ Some m → letter m ≡ c
man_found [] c m e = absurd cc
man_found (x ∷ men) c m e = by_test (λ h. man_found men c m h) (eqb (letter x) c) refl e
  where
    by_test : (man_from men c ≡ Some m → letter m ≡ c) → (b : Bool) → eqb (letter x) c ≡ b
        → cond b (Some x) (man_from men c) ≡ Some m → letter m ≡ c
    by_test later true t e = let same : x ≡ m = cc in let at : letter x ≡ c = grind (arith, nat_tests) in ap letter
        (sym same) ∙ at
    by_test later false t e = later e

-- the letter of a piece, capital or small, is that of the promotion to it
by_letter : (equals : Bool) (c : Colour) (k : Kind)
    → promotion_by equals (letter_by c k) ≡ promotion_to equals (record { colour = c; kind = k })
by_letter equals c k = grind arith

pub promotion_found : (equals : Bool) (c : ℕ) (m : Man) → man_with_letter c ≡ Some m
    → promotion_to equals m ≡ promotion_by equals c
promotion_found equals c m e =
    sym (by_letter equals m.colour m.kind) ∙ ap (promotion_by equals) (man_found all_men c m e)

-- a promotion's letter is a piece's
is_letter_of : (small : Bool) (k : Kind) → CanPromote k
    → man_with_letter (promotion_letter (record { kind = k; equals = false; small = small })) ≡ None → ⊥
is_letter_of small k h e = grind (arith, h, e)

pub no_promotion : (equals : Bool) (c : ℕ) → man_with_letter c ≡ None → promotion_by equals c ≡ None
no_promotion equals c none = by_result (promotion_by equals c) refl
  where
    by_result : (o : Option Promotion) → promotion_by equals c ≡ o → promotion_by equals c ≡ None
    by_result None is = is
    by_result (Some p) is =
        let h = promotion_is equals c p is in
        absurd (is_letter_of p.small p.kind h.2 (ap man_with_letter (sym h.1) ∙ none))
