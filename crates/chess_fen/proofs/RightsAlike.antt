-- A FEN is read by code as by the definition (judged-read, refused-read). The two differ in rights that are named
-- wrongly, but both refuse them: the definition by a condition of their own, the code since it takes them as rights
-- whose rook is on a4 (`nowhere`), where no right is sound.
use Rattle.std.proofs.Common.{◌≡◌, ℕ, ◌⊎◌, inl, inr, Bool, true, false, cond, List, [], ◌∷◌, ◌++◌, map, take, drop, Option, Some, None, Result, Ok, Err, refl, sym, ap, ◌∙◌, arith, filter, fold, ◌&&◌, is_some, max, codes, IsOk, IfOk, IfErr, ◌↔◌}
use Rattle.std.specs.Option.{option_flatten, option_map_or, ok_or, unwrap_or}
use Rattle.chess_base.specs.{declared.man.Colour.Colour, declared.man.Colour.TheVariants.White, declared.man.Colour.TheVariants.Black, declared.man.CastlingSide.CastlingSide, declared.man.CastlingSide.TheVariants.KingSide, declared.man.CastlingSide.TheVariants.QueenSide, declared.man.Variant.Variant, declared.man.Variant.TheVariants.Normal, declared.man.Variant.TheVariants.Fischerandom, declared.man.Rights.Rights, declared.setup.Setup.Setup, declared.fen_fault.FenFault.FenFault, Men.Men, Castling.are_placed_for_castling, Castling.right_is_sound, Castling.rights_by, Sound.IsSound}
use Rattle.chess_base.specs.declared.fen_fault.FenFault.TheVariants as faults
use Rattle.chess_base.specs.Faults.{conditions, rights_are_sound, first_failing, setup_fault}
use Rattle.chess_base.proofs.shared.Sound.{first_failing-conditions_if, no_fault_from_IsSound}
use Rattle.text_lines.specs.Words.{short_number}
use Rattle.chess_fen.specs.Texts.{placement_of, is_castling_field, target_of, fields_of}
use Rattle.chess_fen.specs.RightNames.{names_right, rook_by, names_rights_well, rights_in}
use Rattle.chess_fen.proofs.RooksNamed.{option_by, option_in, options_are_well, rights_by_options, in_chess960, rights_as_options, wells_as_options}
use Rattle.chess_fen.specs.Reading.{◌>>=◌, side_of, fen_reading_as}
use Rattle.chess_fen.specs.ties.Reader.{nowhere, outer_rook, named_square, one_or_nowhere, right_by_letters, setup_by, setup_in}
use Rattle.chess_fen.proofs.Steps.{steps_to, steps, denoted_by, unless_fault, if_fit, denoted_in, third, reading-steps}

-- the reader's right, from a right as an option of an option (RooksNamed): where it is named wrongly (`None`), one with
-- its rook on `nowhere`
abbrev sentinel : Option (Option ℕ) → Option ℕ
sentinel None = Some nowhere
sentinel (Some right) = right

-- the square in `o`, or `nowhere` if it has none
abbrev or_nowhere : Option ℕ → Option ℕ
or_nowhere o = Some (unwrap_or o nowhere)

module _ (men : Men) (c : Colour) (w : CastlingSide) where
  -- a letter that names this right gives the rook's square or `nowhere`; another letter gives none
  named_is : (letter : ℕ) → named_square men c w letter
      ≡ cond (names_right men c w letter) (or_nowhere (rook_by men c w letter)) None
  unfolding outer_rook
  named_is letter = grind arith

  skip_none : (o : Option ℕ) → one_or_nowhere o None ≡ o
  skip_none None = refl
  skip_none (Some s) = refl

  -- only the letters that name the right count
  only_named : (acc : Option ℕ) (letters : List ℕ)
      → fold one_or_nowhere acc (map (named_square men c w) letters)
      ≡ fold one_or_nowhere acc (map or_nowhere (map (rook_by men c w) (filter (names_right men c w) letters)))
  only_named acc [] = refl
  only_named acc (letter ∷ letters) =
      let first = one_or_nowhere acc (or_nowhere (rook_by men c w letter)) in
      grind (arith, named_is letter, skip_none acc, only_named first letters, only_named acc letters)

-- `nowhere` stays whatever other letters name
stays : (os : List (Option ℕ)) → fold one_or_nowhere (Some nowhere) (map or_nowhere os) ≡ Some nowhere
stays [] = refl
stays (o ∷ os) = stays os

-- the reader's right after these rooks, each named by a letter: the one rook, none, or `nowhere` if it is named wrongly
by_rooks : (os : List (Option ℕ)) → fold one_or_nowhere None (map or_nowhere os) ≡ sentinel (option_by os)
by_rooks [] = refl
by_rooks (Some s ∷ []) = refl
by_rooks (None ∷ []) = refl
by_rooks (Some s ∷ p ∷ os) = stays os
by_rooks (None ∷ p ∷ os) = stays os

-- the reader's right is the right that the definition finds, or has its rook on `nowhere` where this is named wrongly
right_is : (men : Men) (letters : List ℕ) (c : Colour) (w : CastlingSide)
    → right_by_letters Fischerandom men letters c w ≡ sentinel (option_in Fischerandom men letters c w)
right_is men letters c w =
    only_named men c w None letters ∙ by_rooks (map (rook_by men c w) (filter (names_right men c w) letters))
    ∙ ap sentinel (sym (in_chess960 men c w letters))

-- ---- nowhere is no rook's square

-- a right with its rook on `nowhere` isn't sound
no_rook : (men : Men) (c : Colour) (w : CastlingSide) → are_placed_for_castling Fischerandom men c w nowhere ≡ false
no_rook men c w = grind arith

-- ---- the position, or the fault

abbrev rights_of_four : Option ℕ → Option ℕ → Option ℕ → Option ℕ → Rights
rights_of_four a b c d = record {
  white = record { king_side = a; queen_side = b };
  black = record { king_side = c; queen_side = d };
}

-- if a condition fails, those after it don't matter, nor does the position then
blocked : (p q : Setup) (xs : List (FenFault × Bool)) (f : FenFault) (ys zs : List (FenFault × Bool))
    → unless_fault p (first_failing (xs ++ ((f, false) ∷ ys)))
    ≡ unless_fault q (first_failing (xs ++ ((f, false) ∷ zs)))
blocked p q [] f ys zs = refl
blocked p q ((g, true) ∷ xs) f ys zs = blocked p q xs f ys zs
blocked p q ((g, false) ∷ xs) f ys zs = refl

module _ (men : Men) (colour : Colour) (target : Option ℕ) (halfmove fullmove : ℕ) where
  abbrev setup_with : Variant → Rights → Setup
  setup_with v rights = record {
    variant = v;
    men = men;
    side = colour;
    rights = rights;
    target = target;
    halfmove = halfmove;
    fullmove = fullmove;
  }

  -- the right that is named, none if it is named wrongly
  abbrev flat : Option (Option ℕ) → Option ℕ
  flat o = option_flatten o

  -- all four rights are named rightly
  abbrev four_some : Option (Option ℕ) → Option (Option ℕ) → Option (Option ℕ) → Option (Option ℕ) → Bool
  four_some a b c d = is_some a && (is_some b && (is_some c && (is_some d && true)))

  -- what the definition says of these rights: `well` is its condition that they are named rightly
  abbrev said : Variant → Rights → Bool → Result Setup FenFault
  said v rights well = unless_fault (setup_with v rights)
      (first_failing (take 4 (conditions (setup_with v rights))
      ++ ((faults.Castling, well) ∷ drop 4 (conditions (setup_with v rights)))))

  -- what the reader says of these rights: the position if it is sound, otherwise the first fault
  abbrev read : Variant → Rights → Result Setup FenFault
  read v rights = unless_fault (setup_with v rights) (setup_fault (setup_with v rights))

  -- if the reader's rights are not sound, it says what the definition says of rights named wrongly
  blocked_by : (v : Variant) (r t : Rights) → rights_are_sound (setup_with v t) ≡ false
      → said v r false ≡ read v t
  unfolding setup_fault
  blocked_by v r t e =
      blocked (setup_with v r) (setup_with v t) (take 4 (conditions (setup_with v t))) faults.Castling
      (drop 4 (conditions (setup_with v r))) (drop 5 (conditions (setup_with v t)))
      ∙ ap (λ b. unless_fault (setup_with v t) (first_failing (take 4 (conditions (setup_with v t))
      ++ ((faults.Castling, b) ∷ drop 5 (conditions (setup_with v t)))))) (sym e)

  -- a right is absent, or king and rook are where castling by it begins
  abbrev placed : Colour → CastlingSide → Option ℕ → Bool
  placed c w right = option_map_or (are_placed_for_castling Fischerandom men c w) right true

  -- if one of the four rights isn't placed, they aren't sound
  one_nowhere : (a b c d : Option ℕ)
      → (placed White KingSide a ≡ false) ⊎ (placed White QueenSide b ≡ false) ⊎ (placed Black KingSide c ≡ false)
      ⊎ (placed Black QueenSide d ≡ false) → rights_are_sound (setup_with Fischerandom (rights_of_four a b c d)) ≡ false
  unfolding rights_are_sound right_is_sound
  one_nowhere a b c d e = grind (arith, e)

  -- the definition's condition and the reader's rights give the same position or fault, whichever of the four rights is
  -- the first that is named wrongly
  named_alike : (a b c d : Option (Option ℕ))
      → said Fischerandom (rights_of_four (flat a) (flat b) (flat c) (flat d)) (four_some a b c d)
      ≡ read Fischerandom (rights_of_four (sentinel a) (sentinel b) (sentinel c) (sentinel d))
  unfolding setup_fault
  named_alike None b c d =
      blocked_by Fischerandom (rights_of_four None (flat b) (flat c) (flat d))
      (rights_of_four (Some nowhere) (sentinel b) (sentinel c) (sentinel d))
      (one_nowhere (Some nowhere) (sentinel b) (sentinel c) (sentinel d) (inl (no_rook men White KingSide)))
  named_alike (Some a) None c d =
      blocked_by Fischerandom (rights_of_four a None (flat c) (flat d))
      (rights_of_four a (Some nowhere) (sentinel c) (sentinel d))
      (one_nowhere a (Some nowhere) (sentinel c) (sentinel d) (inr (inl (no_rook men White QueenSide))))
  named_alike (Some a) (Some b) None d =
      blocked_by Fischerandom (rights_of_four a b None (flat d)) (rights_of_four a b (Some nowhere) (sentinel d))
      (one_nowhere a b (Some nowhere) (sentinel d) (inr (inr (inl (no_rook men Black KingSide)))))
  named_alike (Some a) (Some b) (Some c) None =
      blocked_by Fischerandom (rights_of_four a b c None) (rights_of_four a b c (Some nowhere))
      (one_nowhere a b c (Some nowhere) (inr (inr (inr (no_rook men Black QueenSide)))))
  named_alike (Some a) (Some b) (Some c) (Some d) = refl

  -- for rights by the letters of a castling field, as options, definition and reader give the same position or fault
  by_options : (v : Variant) (letters : List ℕ)
      → said v (rights_by_options v men letters) (options_are_well v men letters)
      ≡ read v (rights_by (right_by_letters v men letters))
  unfolding setup_fault
  by_options Normal letters = refl
  by_options Fischerandom letters =
      named_alike (option_in Fischerandom men letters White KingSide)
      (option_in Fischerandom men letters White QueenSide) (option_in Fischerandom men letters Black KingSide)
      (option_in Fischerandom men letters Black QueenSide)
      ∙ rw (
        right_is men letters White KingSide,
        right_is men letters White QueenSide,
        right_is men letters Black KingSide,
        right_is men letters Black QueenSide,
      ) refl

  -- for rights by the letters of a castling field, as the definition has them, definition and reader give the same
  alike : (v : Variant) (letters : List ℕ)
      → said v (rights_in v men letters) (names_rights_well v men letters)
      ≡ read v (rights_by (right_by_letters v men letters))
  alike v letters =
      ap (λ (r : Rights). said v r (names_rights_well v men letters)) (rights_as_options v men letters)
      ∙ ap (λ (b : Bool). said v (rights_by_options v men letters) b) (wells_as_options v men letters)
      ∙ by_options v letters

-- ---- the fields

-- the position, if it is sound
abbrev if_sound : Setup → Result Setup FenFault
if_sound p = unless_fault p (setup_fault p)

-- reading six fields by the definition, and by the reader, gives the same
fields_are : (v : Variant) (a b c d h f : List ℕ)
    → (denoted_by v a b c d h f >>= if_fit c) ≡ (setup_by v a b c d h f >>= if_sound)
fields_are v a b c d h f =
    by_steps (placement_of a) (side_of b) (is_castling_field v c) (target_of d) (short_number 6 h) (short_number 6 f)
  where
    read_by : Option Men → Option Colour → Bool → Option (Option ℕ) → Option ℕ → Option ℕ → Result Setup FenFault
    read_by men side fits target halfmove fullmove =
        steps_to Ok v (λ pieces. ok_or (cond fits (Some (rights_by (right_by_letters v pieces c))) None) faults.Castling)
        men side target halfmove fullmove

    by_steps : (men : Option Men) (side : Option Colour) (fits : Bool) (target : Option (Option ℕ))
        (halfmove fullmove : Option ℕ)
        → (steps v c men side fits target halfmove fullmove >>= if_fit c)
        ≡ (read_by men side fits target halfmove fullmove >>= if_sound)
    by_steps None side fits target halfmove fullmove = refl
    by_steps (Some men) None fits target halfmove fullmove = refl
    by_steps (Some men) (Some colour) false target halfmove fullmove = refl
    by_steps (Some men) (Some colour) true None halfmove fullmove = refl
    by_steps (Some men) (Some colour) true (Some target) None fullmove = refl
    by_steps (Some men) (Some colour) true (Some target) (Some halfmove) None = refl
    by_steps (Some men) (Some colour) true (Some target) (Some halfmove) (Some fullmove) =
        let p : Setup = setup_with men colour target halfmove (max fullmove 1) v (rights_in v men c) in
        ap (unless_fault p) (first_failing-conditions_if (names_rights_well v men c) p)
        ∙ alike men colour target halfmove (max fullmove 1) v c

-- reading a text by the definition, and by the reader, gives the same
fens_are : (v : Variant) (text : List ℕ) → fen_reading_as v text ≡ (setup_in v (fields_of text) >>= if_sound)
fens_are v text = reading-steps v (fields_of text) ∙ by_fields (fields_of text)
  where
    by_fields : (fields : List (List ℕ))
        → (denoted_in v fields >>= if_fit (third fields)) ≡ (setup_in v fields >>= if_sound)
    by_fields [] = refl
    by_fields (a ∷ []) = refl
    by_fields (a ∷ b ∷ []) = refl
    by_fields (a ∷ b ∷ c ∷ []) = refl
    by_fields (a ∷ b ∷ c ∷ d ∷ []) =
        fields_are v a b c d (codes "0") (codes "1")
    by_fields (a ∷ b ∷ c ∷ d ∷ e ∷ []) = refl
    by_fields (a ∷ b ∷ c ∷ d ∷ e ∷ f ∷ []) = fields_are v a b c d e f
    by_fields (a ∷ b ∷ c ∷ d ∷ e ∷ f ∷ g ∷ rest) = refl

-- ---- what code reads

-- a result that is an error exactly for unsound positions, with their fault, is that of `if_sound`
judged : (setup : Setup) (r : Result Setup FenFault) → (IsOk r ↔ IsSound setup) → IfOk r (λ p. p ≡ setup)
    → IfErr r (λ f. Some f ≡ setup_fault setup) → r ≡ if_sound setup
judged setup (Ok p) sound value fault = ap Ok value
    ∙ sym (ap (unless_fault setup) (no_fault_from_IsSound setup (sound.0 refl)))
judged setup (Err f) sound value fault = ap (unless_fault setup) fault

-- the judgement of the position that the reader read is the definition's reading of the text
pub judged-read : (v : Variant) (text : List ℕ) (setup : Setup) (r : Result Setup FenFault)
    → Ok setup ≡ setup_in v (fields_of text) → (IsOk r ↔ IsSound setup) → IfOk r (λ p. p ≡ setup)
    → IfErr r (λ f. Some f ≡ setup_fault setup) → r ≡ fen_reading_as v text
judged-read v text setup r is sound value fault =
    judged setup r sound value fault ∙ ap (λ o. o >>= if_sound) is ∙ sym (fens_are v text)

-- a fault that the reader found in the fields is what the definition reads
pub refused-read : (v : Variant) (text : List ℕ) (f : FenFault) → Err f ≡ setup_in v (fields_of text)
    → Err f ≡ fen_reading_as v text
refused-read v text f is = ap (λ o. o >>= if_sound) is ∙ sym (fens_are v text)
