-- The reading of a FEN's fields in two parts: the position that they denote, sound or not (`denoted_in`), and then its
-- conditions (`if_fit`). reading-steps shows that this is the definition's reading. Proofs then go through the cases of
-- `steps`, one for each field.
use Rattle.std.proofs.Common.{◌≡◌, ℕ, Bool, false, cond, ◌==◌, if◌then◌else◌, length, List, [], ◌∷◌, ◌++◌, get_or, arith, Option, Result, Ok, Err, refl, max, codes}
use Rattle.std.proofs.lemmas.Bool.Decides.{nat_tests}
use Rattle.std.specs.Option.{ok_or, option_map_or}
use Rattle.chess_base.specs.{declared.fen_fault.FenFault.FenFault, declared.man.Colour.Colour, declared.man.Rights.Rights, declared.man.Variant.Variant, declared.setup.Setup.Setup, Faults.first_failing, Men.Men}
use Rattle.chess_base.specs.declared.fen_fault.FenFault.TheVariants as faults
use Rattle.text_lines.specs.Words.{short_number}
use Rattle.chess_fen.specs.{RightNames.rights_in, Texts.placement_of, Texts.is_castling_field, Texts.target_of}
use Rattle.chess_fen.specs.Reading.{◌>>=◌, side_of, conditions_of, reading_in}

-- the steps up to the position, with which `end` goes on; the rights are read when the pieces are known
abbrev pub steps_to : (Setup → Result Setup FenFault) → Variant → (Men → Result Rights FenFault) → Option Men
    → Option Colour → Option (Option ℕ) → Option ℕ → Option ℕ → Result Setup FenFault
steps_to end v rights men side target halfmove fullmove = do
  pieces ← ok_or men faults.Placement
  colour ← ok_or side faults.Side
  named ← rights pieces
  passed ← ok_or target faults.EnPassant
  clock ← ok_or halfmove faults.Counters
  number ← ok_or fullmove faults.Counters
  end (record {
    variant = v;
    men = pieces;
    side = colour;
    rights = named;
    target = passed;
    halfmove = clock;
    fullmove = max number 1;
  })

-- the rights by the third field, `castling`, where `fits` says whether it has the form of one
abbrev rights_if : Variant → List ℕ → Bool → Men → Result Rights FenFault
rights_if v castling fits men = cond fits (Ok (rights_in v men castling)) (Err faults.Castling)

-- the position of these fields' values, sound or not, with the rights that the field `castling` names; or the fault of
-- the first field without a value
abbrev pub steps : Variant → List ℕ → Option Men → Option Colour → Bool → Option (Option ℕ) → Option ℕ → Option ℕ
    → Result Setup FenFault
steps v castling men side fits target halfmove fullmove =
    steps_to Ok v (rights_if v castling fits) men side target halfmove fullmove

-- the position that the six fields of a FEN denote, sound or not; or the fault of the first field that denotes nothing
abbrev pub denoted_by : Variant → List ℕ → List ℕ → List ℕ → List ℕ → List ℕ → List ℕ → Result Setup FenFault
denoted_by v placement side castling target halfmove fullmove =
    steps v castling (placement_of placement) (side_of side) (is_castling_field v castling) (target_of target)
    (short_number 6 halfmove) (short_number 6 fullmove)

-- `Ok p` if the optional fault is none, otherwise that fault as an error
abbrev pub unless_fault : Setup → Option FenFault → Result Setup FenFault
unless_fault p fault = option_map_or Err fault (Ok p)

-- the position, if no condition fails
abbrev pub if_fit : List ℕ → Setup → Result Setup FenFault
if_fit letters p = unless_fault p (first_failing (conditions_of letters p))

-- the position that a list of fields denotes, sound or not
abbrev pub denoted_in : Variant → List (List ℕ) → Result Setup FenFault
denoted_in v (a ∷ b ∷ c ∷ d ∷ []) = denoted_by v a b c d (codes "0") (codes "1")
denoted_in v (a ∷ b ∷ c ∷ d ∷ e ∷ f ∷ []) = denoted_by v a b c d e f
denoted_in v _ = Err faults.Fields

-- the third of a list of fields, that of the castling rights
abbrev pub third : List (List ℕ) → List ℕ
third fields = get_or fields 2 []

-- the reading of six fields as that of the position, and of its conditions
of_fields : (v : Variant) (a b c d e f : List ℕ) → reading_in v (a ∷ b ∷ c ∷ d ∷ e ∷ f ∷ []) ≡ (denoted_by v a b c d e f >>= if_fit c)
of_fields v a b c d e f =
    by_steps (placement_of a) (side_of b) (is_castling_field v c) (target_of d) (short_number 6 e) (short_number 6 f)
  where
    by_steps : (men : Option Men) (side : Option Colour) (fits : Bool) (target : Option (Option ℕ))
        (halfmove fullmove : Option ℕ)
        → steps_to (if_fit c) v (rights_if v c fits) men side target halfmove fullmove
        ≡ (steps v c men side fits target halfmove fullmove >>= if_fit c)
    by_steps men side fits target halfmove fullmove = grind arith

-- the fields with the counters, if these are left out
abbrev with_counters : List (List ℕ) → List (List ℕ)
with_counters fields = if length fields == 4 then fields ++ (codes "0" ∷ codes "1" ∷ []) else fields

-- the reading of a list of fields, by their number
pub reading-steps : (v : Variant) (fields : List (List ℕ))
    → reading_in v (with_counters fields) ≡ (denoted_in v fields >>= if_fit (third fields))
reading-steps v [] = refl
reading-steps v (a ∷ []) = refl
reading-steps v (a ∷ b ∷ []) = refl
reading-steps v (a ∷ b ∷ c ∷ []) = refl
reading-steps v (a ∷ b ∷ c ∷ d ∷ []) = of_fields v a b c d (codes "0") (codes "1")
reading-steps v (a ∷ b ∷ c ∷ d ∷ e ∷ []) = refl
reading-steps v (a ∷ b ∷ c ∷ d ∷ e ∷ f ∷ []) = of_fields v a b c d e f
reading-steps v (a ∷ b ∷ c ∷ d ∷ e ∷ f ∷ g ∷ more) =
    let many : (length (a ∷ b ∷ c ∷ d ∷ e ∷ f ∷ g ∷ more) == 4) ≡ false = grind (arith, nat_tests) in
    rw many refl
