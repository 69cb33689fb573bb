-- Each text is read as a FEN of normal chess in the same way by the definitions for both variants and by those for
-- normal chess alone (reading_kept): step by step, field after field, then the conditions of soundness. So what is read
-- by those for normal chess alone is a position of normal chess (reading_is_normal).
use Rattle.std.proofs.Common.{◌≡◌, ℕ, Bool, true, false, List, [], ◌∷◌, ◌++◌, take, drop, Option, Some, None, Result, Ok, refl, ap, subst, if◌then◌else◌, ◌∙◌, ok_or, codes, max, IfOk}
use Rattle.chess_base.specs.{declared.fen_fault.FenFault.FenFault, declared.man.Colour.Colour, declared.man.Colour.TheVariants.White, declared.man.Colour.TheVariants.Black, declared.man.CastlingSide.TheVariants.KingSide, declared.man.CastlingSide.TheVariants.QueenSide, declared.man.Rights.Rights, declared.man.Variant.TheVariants.Normal, declared.setup.Setup.Setup, Men.Men}
use Rattle.chess_base.specs.declared.fen_fault.FenFault.TheVariants as faults
use Rattle.chess_base.specs.Faults.{conditions, conditions_if, rights_are_sound, first_failing, setup_fault}
use Rattle.chess_base_laws.proofs.shared.Normal.{normal_kept}
use Rattle.chess_fen.specs.{Reading.◌>>=◌, Reading.side_of, Reading.fen_reading_as, RightNames.names_rights_well}
use Rattle.text_lines.specs.Words.{short_number}
use Rattle.chess_fen.specs.Texts.{may_name_right, placement_of, target_of, fields_of, is_castling_field}
use Rattle.chess_fen.proofs.shared.Steps.{rights_as_options, wells_as_options, steps_to, steps, denoted_by, unless_fault, if_fit, denoted_in, third, reading-steps}
use Rattle.chess_fen.proofs.shared.Variants.{reading_in_variant}
use Rattle.chess_fen_laws.specs.Normal.{normal_rights_named, normal_setup_by, normal_setup_in, normal_rights_are_sound, normal_fault, normal_sound, normal_fen_reading}

-- rights of normal chess are sound by one definition exactly if they are by the other
stand_kept : (p : Setup) → p.variant ≡ Normal → rights_are_sound p ≡ normal_rights_are_sound p
unfolding rights_are_sound
stand_kept p e =
    let kept = normal_kept p e in
    rw (
      kept.stands White KingSide,
      kept.stands White QueenSide,
      kept.stands Black KingSide,
      kept.stands Black QueenSide,
    ) refl

-- the first fault of a position of normal chess is the same by both definitions
fault_kept : (p : Setup) → p.variant ≡ Normal → setup_fault p ≡ normal_fault p
unfolding setup_fault normal_fault
fault_kept p e =
    ap (λ stand. first_failing (take 4 (conditions p) ++ ((faults.Castling, stand) ∷ drop 5 (conditions p))))
    (stand_kept p e)

-- ---- the fields

-- the position of normal chess by what each of its fields denotes; `fits` is whether the third, `castling`, has the
-- form of one
abbrev normal_steps : List ℕ → Option Men → Option Colour → Bool → Option (Option ℕ) → Option ℕ → Option ℕ
    → Result Setup FenFault
normal_steps castling men side fits target halfmove fullmove =
    steps_to Ok Normal
    (λ pieces. ok_or (if fits then Some (normal_rights_named castling) else None) faults.Castling)
    men side target halfmove fullmove

-- the position of normal chess of these parts
abbrev normal_setup : Men → Colour → Option ℕ → ℕ → ℕ → Rights → Setup
normal_setup men colour target halfmove fullmove rights = record {
  variant = Normal;
  men = men;
  side = colour;
  rights = rights;
  target = target;
  halfmove = halfmove;
  fullmove = max fullmove 1;
}

-- reading by both definitions, from what each field denotes: the fields in turn, and then the conditions
steps_kept : (c : List ℕ) (men : Option Men) (side : Option Colour) (fits : Bool) (target : Option (Option ℕ))
    (halfmove fullmove : Option ℕ)
    → (steps Normal c men side fits target halfmove fullmove >>= if_fit c)
    ≡ (normal_steps c men side fits target halfmove fullmove >>= normal_sound)
unfolding setup_fault
steps_kept c None side fits target halfmove fullmove = refl
steps_kept c (Some men) None fits target halfmove fullmove = refl
steps_kept c (Some men) (Some colour) false target halfmove fullmove = refl
steps_kept c (Some men) (Some colour) true None halfmove fullmove = refl
steps_kept c (Some men) (Some colour) true (Some target) None fullmove = refl
steps_kept c (Some men) (Some colour) true (Some target) (Some halfmove) None = refl
steps_kept c (Some men) (Some colour) true (Some target) (Some halfmove) (Some fullmove) =
    let p : Setup = normal_setup men colour target halfmove fullmove (normal_rights_named c) in
    ap (λ (r : Rights). unless_fault (normal_setup men colour target halfmove fullmove r)
    (first_failing (conditions_if (names_rights_well Normal men c)
    (normal_setup men colour target halfmove fullmove r))))
    (rights_as_options Normal men c)
    ∙ ap (λ (b : Bool). unless_fault p (first_failing (conditions_if b p))) (wells_as_options Normal men c)
    ∙ ap (unless_fault p) (fault_kept p refl)

-- six fields are read the same by both definitions
fields_kept : (a b c d h f : List ℕ)
    → (denoted_by Normal a b c d h f >>= if_fit c) ≡ (normal_setup_by a b c d h f >>= normal_sound)
unfolding may_name_right
fields_kept a b c d h f =
    steps_kept c (placement_of a) (side_of b) (is_castling_field Normal c) (target_of d) (short_number 6 h) (short_number 6 f)

-- each text is read as the same position, or fault, by both definitions
pub reading_kept : (text : List ℕ) → fen_reading_as Normal text ≡ normal_fen_reading text
reading_kept text = reading-steps Normal (fields_of text) ∙ by_fields (fields_of text)
  where
    by_fields : (fields : List (List ℕ))
        → (denoted_in Normal fields >>= if_fit (third fields)) ≡ (normal_setup_in fields >>= normal_sound)
    by_fields [] = refl
    by_fields (a ∷ []) = refl
    by_fields (a ∷ b ∷ []) = refl
    by_fields (a ∷ b ∷ c ∷ []) = refl
    by_fields (a ∷ b ∷ c ∷ d ∷ []) =
        fields_kept a b c d (codes "0") (codes "1")
    by_fields (a ∷ b ∷ c ∷ d ∷ e ∷ []) = refl
    by_fields (a ∷ b ∷ c ∷ d ∷ e ∷ f ∷ []) = fields_kept a b c d e f
    by_fields (a ∷ b ∷ c ∷ d ∷ e ∷ f ∷ g ∷ more) = refl

-- what is read by the definitions for normal chess alone is of normal chess
pub reading_is_normal : (text : List ℕ) → IfOk (normal_fen_reading text) (λ p. p.variant ≡ Normal)
reading_is_normal text = subst (λ r. IfOk r (λ p. p.variant ≡ Normal)) (reading_kept text)
    (reading_in_variant Normal text)
