-- The castling field of a FEN is the letters of the rights that are there, appended right by right, or a dash if there
-- are none (rights_are); `or_dash`, by which this is said, asks whether the text is empty (dashed). By cases of each
-- right: there or not (after).
use Rattle.std.proofs.Common.{◌≡◌, ℕ, false, List, [], ◌∷◌, ◌++◌, ◌==◌, if◌then◌else◌, length, Option, Some, None, refl, sym, ap, ◌∙◌, append_assoc, append-nil, arith, codes, option_map}
use Rattle.std.specs.List.{cons_option, filter_map}
use Rattle.std.proofs.lemmas.Bool.Decides.{nat_tests}
use Rattle.chess_base.specs.{Castling.right_of, declared.man.CastlingSide.CastlingSide, declared.man.CastlingSide.TheVariants.KingSide, declared.man.CastlingSide.TheVariants.QueenSide, declared.man.Colour.Colour, declared.man.Colour.TheVariants.White, declared.man.Colour.TheVariants.Black, declared.man.Rights.Rights, declared.man.Variant.Variant}
use Rattle.chess_fen.specs.{RightNames.all_rights, RightNames.right_letter, Writing.rights_text, shared.RightTexts.or_dash, shared.RightTexts.right_text}

-- the four letters
abbrev pub letters : Variant → Rights → List ℕ
letters v r =
    right_text v White KingSide r.white.king_side ++ right_text v White QueenSide r.white.queen_side
    ++ right_text v Black KingSide r.black.king_side ++ right_text v Black QueenSide r.black.queen_side

-- the letter of a right that may be there, after others and before others
after : (v : Variant) (c : Colour) (w : CastlingSide) (right : Option ℕ) (xs ys : List ℕ)
    → xs ++ cons_option (option_map (right_letter v c w) right) ys ≡ (xs ++ right_text v c w right) ++ ys
after v c w None xs ys = ap (λ zs. zs ++ ys) (sym (append-nil xs))
after v c w (Some s) xs ys = sym (append_assoc xs (right_letter v c w s ∷ []) ys)

-- a text, or `-` if it is empty
pub dashed : (text : List ℕ) → or_dash text ≡ (if length text == 0 then codes "-" else text)
dashed [] = refl
dashed (c ∷ cs) = let some : (length (c ∷ cs) == 0) ≡ false = grind (arith, nat_tests) in rw some refl

-- the castling field is the four letters as far as they are there, or `-`
pub rights_are : (v : Variant) (r : Rights) → rights_text v r ≡ or_dash (letters v r)
rights_are v r =
    sym (dashed (filter_map (λ p. option_map (right_letter v p.0 p.1) (right_of r p.0 p.1)) all_rights))
    ∙ ap or_dash (after v White KingSide r.white.king_side [] _ ∙ after v White QueenSide r.white.queen_side _ _
    ∙ after v Black KingSide r.black.king_side _ _ ∙ after v Black QueenSide r.black.queen_side _ []
    ∙ append-nil (letters v r))
