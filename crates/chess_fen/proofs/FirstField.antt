-- For `read_setup`, which reads the pieces while it looks for the first field's end: the field at the front of the
-- text, without its first spaces, is the text's first field, if its pieces were read (fields-read) and if it denotes
-- none (first_is_menless). Then the six fields are read as the other five with these pieces (setup-with), or as the
-- fault `Placement` (setup-menless).
use Rattle.std.proofs.Common.{◌≡◌, ℕ, ◌<◌, not, eqb, List, [], ◌∷◌, length, drop, Option, Some, None, Err, refl, sym, ap, ◌∙◌, arith, inl, inr}
use Rattle.std.specs.List.{position_or_len, before_first}
use Rattle.std.proofs.{lemmas.Bool.cases_lt, lemmas.List.nil_from_length}
use Rattle.chess_base.specs.declared.fen_fault.FenFault.TheVariants as faults
use Rattle.chess_base.specs.{declared.man.Man.Man, declared.man.Variant.Variant}
use Rattle.chess_fen.specs.{ties.Reader.setup_with, ties.Reader.setup_by, Texts.placement_of, Texts.fields_of, ties.Runs.PlacementIsRead, ties.Runs.from_space}
use Rattle.chess_fen.proofs.CutFields.{no_fields, next_fields}

-- a text without its first spaces
abbrev skipped : List ℕ → List ℕ
skipped text = drop (position_or_len (λ b. not (eqb b 32)) text) text

-- the field at the front of what is left, if it is not empty, is the first of all
first_of : (text front : List ℕ) → front ≡ skipped text → 0 < length front
    → fields_of text ≡ before_first (λ b. eqb b 32) front ∷ fields_of (from_space front)
first_of text front is some = next_fields text front _ _ is some refl refl

-- lists that are equal have the same first element
heads : {A : Type 0} (x y : A) (xs ys : List A) → x ∷ xs ≡ y ∷ ys → y ≡ x
heads x y xs ys e = cc

-- if the field at the front denotes no pieces, the first field of the text denotes none
pub first_is_menless : (text front : List ℕ) → front ≡ skipped text
    → placement_of (before_first (λ b. eqb b 32) front) ≡ None
    → (field : List ℕ) → (fields : List (List ℕ)) → fields_of text ≡ field ∷ fields → placement_of field ≡ None
first_is_menless text front is none field fields all =
    elim (cases_lt 0 (length front)) [
      | inl some ↦ ap placement_of (heads _ field _ fields (sym (first_of text front is some) ∙ all)) ∙ none
      | inr short ↦ (let empty : length front ≡ 0 = omega (arith, short) in
          let nothing : [] ≡ field ∷ fields = sym (no_fields text front is empty) ∙ all in absurd cc)
    ]

-- a text whose pieces were read: its fields are that one and those of the rest
pub fields-read : (text front : List ℕ) (men : List (Option Man)) (rest : List ℕ) → front ≡ skipped text
    → PlacementIsRead front men rest
    → fields_of text ≡ before_first (λ b. eqb b 32) front ∷ fields_of rest
fields-read text front men rest is read =
    elim (cases_lt 0 (length front)) [
      | inl some ↦ (first_of text front is some
          ∙ ap (λ ys. before_first (λ b. eqb b 32) front ∷ fields_of ys) (sym read.back))
      | inr short ↦ (let none : front ≡ [] = nil_from_length front (omega (arith, short)) in
          let empty : None ≡ Some men = ap (λ xs. placement_of (before_first (λ b. eqb b 32) xs)) (sym none)
          ∙ read.denotes in absurd cc)
    ]

-- six fields with the first read as these pieces are read as the other five with these pieces
pub setup-with : (v : Variant) (placement a b c d e : List ℕ) (men : List (Option Man))
    → placement_of placement ≡ Some men → setup_by v placement a b c d e ≡ setup_with v men a b c d e
setup-with v placement a b c d e men is = rw is refl

-- six fields of which the first denotes no pieces are read as the fault of the placement
pub setup-menless : (v : Variant) (placement a b c d e : List ℕ) → placement_of placement ≡ None
    → setup_by v placement a b c d e ≡ Err faults.Placement
setup-menless v placement a b c d e is = rw is refl
