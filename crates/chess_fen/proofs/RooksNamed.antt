-- What the letters of a castling field say of a right, as an option of an option: `None` for `Wrong`, `Some None` for
-- `Absent`, `Some (Some s)` for `At s`. Proofs about rights use this form. It says the same as `right_in`: of the rook
-- of one right (rook_is), of all rights (rights_as_options), and whether none is wrong (wells_as_options).
use Rattle.std.proofs.Common.{◌≡◌, ℕ, Bool, true, false, ◌&&◌, List, [], ◌∷◌, map, Option, Some, None, if◌then◌else◌, refl, ap, ◌∙◌, is_some}
use Rattle.std.specs.{Bool.then_some, List.filter, List.list_all, Option.option_flatten}
use Rattle.chess_base.specs.{declared.man.CastlingSide.CastlingSide, declared.man.CastlingSide.TheVariants.KingSide, declared.man.CastlingSide.TheVariants.QueenSide, declared.man.Colour.Colour, declared.man.Colour.TheVariants.White, declared.man.Colour.TheVariants.Black, declared.man.Rights.Rights, declared.man.Variant.Variant, declared.man.Variant.TheVariants.Normal, declared.man.Variant.TheVariants.Fischerandom, Castling.home_square, Castling.rook_file, Castling.rights_by, Men.Men}
use Rattle.chess_fen.specs.RightNames.{all_rights, side_letter, names_right, rook_by, NamedRight, Absent, At, Wrong, right_by, right_in, is_named_well, names_rights_well, rook_of, rights_in}
use Rattle.chess_fen.specs.Texts.{occurs}

-- ---- the form

-- the right by the rooks that the letters naming it give: absent without a letter, that rook for one; wrong for two
-- letters, or a letter without a rook
abbrev pub option_by : List (Option ℕ) → Option (Option ℕ)
option_by [] = Some None
option_by (Some s ∷ []) = Some (Some s)
option_by _ = None

-- the right on side w by the letters of a castling field. In normal chess it is there if its letter is, in Chess960 it
-- is by the rooks that the letters give
abbrev pub option_in : Variant → Men → List ℕ → Colour → CastlingSide → Option (Option ℕ)
option_in Normal men letters c w = Some (then_some (occurs (side_letter c w) letters) (home_square c (rook_file w)))
option_in Fischerandom men letters c w = option_by (map (rook_by men c w) (filter (names_right men c w) letters))

-- each of the four rights is named rightly, or is absent: none is named wrongly
abbrev pub options_are_well : Variant → Men → List ℕ → Bool
options_are_well v men letters = list_all (λ r. is_some (option_in v men letters r.0 r.1)) all_rights

-- the four rights; one named wrongly is left out
abbrev pub rights_by_options : Variant → Men → List ℕ → Rights
rights_by_options v men letters = rights_by (λ c w. option_flatten (option_in v men letters c w))

-- in Chess960 a right in this form is by the rooks of the letters that name it
pub in_chess960 : (men : Men) (c : Colour) (w : CastlingSide) (letters : List ℕ)
    → option_in Fischerandom men letters c w ≡ option_by (map (rook_by men c w) (filter (names_right men c w) letters))
in_chess960 men c w letters = refl

-- ---- one right

-- the result of `right_in` in this form
abbrev as_option : NamedRight → Option (Option ℕ)
as_option Absent = Some None
as_option (At s) = Some (Some s)
as_option Wrong = None

-- a right by the rooks of its letters, in this form
by_option : (os : List (Option ℕ)) → as_option (right_by os) ≡ option_by os
by_option [] = refl
by_option (Some s ∷ []) = refl
by_option (None ∷ []) = refl
by_option (Some s ∷ o ∷ os) = refl
by_option (None ∷ o ∷ os) = refl

-- a right of normal chess, in this form
normal_option : (b : Bool) (s : ℕ) → as_option (if b then At s else Absent) ≡ Some (then_some b s)
normal_option true s = refl
normal_option false s = refl

-- so what letters say of a right, in this form
option_is : (v : Variant) (men : Men) (letters : List ℕ) (c : Colour) (w : CastlingSide)
    → as_option (right_in v men letters c w) ≡ option_in v men letters c w
option_is Normal men letters c w = normal_option (occurs (side_letter c w) letters) (home_square c (rook_file w))
option_is Fischerandom men letters c w = by_option (map (rook_by men c w) (filter (names_right men c w) letters))

-- ---- all rights

-- the rook of a right, from this form
rook_as_option : (n : NamedRight) → rook_of n ≡ option_flatten (as_option n)
rook_as_option Absent = refl
rook_as_option (At s) = refl
rook_as_option Wrong = refl

-- the rook of a right, if it is named rightly, by this form
pub rook_is : (v : Variant) (men : Men) (letters : List ℕ) (c : Colour) (w : CastlingSide)
    → rook_of (right_in v men letters c w) ≡ option_flatten (option_in v men letters c w)
rook_is v men letters c w = rook_as_option (right_in v men letters c w)
    ∙ ap (λ (o : Option (Option ℕ)). option_flatten o) (option_is v men letters c w)

abbrev four_rights : Option ℕ → Option ℕ → Option ℕ → Option ℕ → Rights
four_rights a b c d = record {
  white = record { king_side = a; queen_side = b };
  black = record { king_side = c; queen_side = d };
}

same_rights : (f g : Colour → CastlingSide → Option ℕ) → ((c : Colour) (w : CastlingSide) → f c w ≡ g c w)
    → rights_by f ≡ rights_by g
same_rights f g h =
    ap (λ (o : Option ℕ). four_rights o (f White QueenSide) (f Black KingSide) (f Black QueenSide)) (h White KingSide)
    ∙ ap (λ (o : Option ℕ). four_rights (g White KingSide) o (f Black KingSide) (f Black QueenSide)) (h White QueenSide)
    ∙ ap (λ (o : Option ℕ). four_rights (g White KingSide) (g White QueenSide) o (f Black QueenSide)) (h Black KingSide)
    ∙ ap (λ (o : Option ℕ). four_rights (g White KingSide) (g White QueenSide) (g Black KingSide) o) (h Black QueenSide)

-- the four rights that letters name, by this form
pub rights_as_options : (v : Variant) (men : Men) (letters : List ℕ)
    → rights_in v men letters ≡ rights_by_options v men letters
rights_as_options v men letters = same_rights (λ c w. rook_of (right_in v men letters c w))
    (λ c w. option_flatten (option_in v men letters c w)) (rook_is v men letters)

-- whether a right is not wrong, from this form
well_as_option : (n : NamedRight) → is_named_well n ≡ is_some (as_option n)
well_as_option Absent = refl
well_as_option (At s) = refl
well_as_option Wrong = refl

-- so whether letters name a right not wrongly
well_is : (v : Variant) (men : Men) (letters : List ℕ) (c : Colour) (w : CastlingSide)
    → is_named_well (right_in v men letters c w) ≡ is_some (option_in v men letters c w)
well_is v men letters c w = well_as_option (right_in v men letters c w)
    ∙ ap (λ (o : Option (Option ℕ)). is_some o) (option_is v men letters c w)

same_tests : (f g : Colour → CastlingSide → Bool) → ((c : Colour) (w : CastlingSide) → f c w ≡ g c w)
    → (f White KingSide && (f White QueenSide && (f Black KingSide && (f Black QueenSide && true))))
    ≡ (g White KingSide && (g White QueenSide && (g Black KingSide && (g Black QueenSide && true))))
same_tests f g h =
    ap (λ (b : Bool). b && (f White QueenSide && (f Black KingSide && (f Black QueenSide && true)))) (h White KingSide)
    ∙ ap (λ (b : Bool). g White KingSide && (b && (f Black KingSide && (f Black QueenSide && true))))
    (h White QueenSide)
    ∙ ap (λ (b : Bool). g White KingSide && (g White QueenSide && (b && (f Black QueenSide && true))))
    (h Black KingSide)
    ∙ ap (λ (b : Bool). g White KingSide && (g White QueenSide && (g Black KingSide && (b && true))))
    (h Black QueenSide)

-- whether no right is named wrongly, by this form
pub wells_as_options : (v : Variant) (men : Men) (letters : List ℕ)
    → names_rights_well v men letters ≡ options_are_well v men letters
wells_as_options v men letters = same_tests (λ c w. is_named_well (right_in v men letters c w))
    (λ c w. is_some (option_in v men letters c w)) (well_is v men letters)
