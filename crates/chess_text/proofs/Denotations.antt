-- A text denotes a described move (`denotes_described` looks it up in a list of texts) exactly if it names the move's
-- castling or is the text of parts that fit the move: `is_denoted_so` and `denoted_so`. `denotes_is` says the same of
-- the parts as the reader finds them. By cases of the form in which parts fit, over lists of this file (`texts_of`),
-- equal to those of the definition (`texts_alike`). `facts`: what parts that fit say of squares and promotion.
use Rattle.std.proofs.Common.{◌≡◌, ℕ, ◌<◌, inl, inr, Bool, true, false, not, ◌||◌, ◌==◌, Option, Some, None, List, [], ◌∷◌, ◌++◌, append_assoc, refl, sym, ap, subst, ◌∙◌, arith, if◌then◌else◌, bytes_eq, IfSome, is_some, is_none}
use Rattle.std.specs.{List.AllByRecursion, List.list_any, List.flat_map, Option.option_map_or}
use Rattle.std.proofs.{lemmas.Bool.Decides.nat_tests, lemmas.List.Folds.list_any-append, lemmas.Slice.Eq.bytes_eq-Decides}
use Rattle.std.proofs.lemmas.Bool.{or_cases, or_left, or_right, eq-eqb, eqb-true}
use Rattle.chess_base.specs.{declared.man.CastlingSide.CastlingSide, declared.man.Kind.Kind, shared.Parts.optional, Letters.square_text, Men.same_kind, Squares.file, Squares.rank, Options.list_if}
use Rattle.chess_base.specs.declared.man.Kind.TheVariants.{King, Queen, Rook, Bishop, Knight, Pawn}
use Rattle.chess_text.specs.{declared.described.Described.Described, declared.parts.Parts.Parts, declared.parts.Promotion.Promotion, laws.CastlingTexts.is_castling_text, shared.Reader.parts_at}
use Rattle.chess_text.specs.Parts.{unmarked, kind_text, file_text, rank_text, ◌·◌}
use Rattle.chess_text.specs.Moves.{denotes_described, castling_texts, start_texts, capture_texts, promotion_texts, texts_by_squares, texts_by_letter, texts_of_pawn}
use Rattle.chess_text.specs.shared.Fitting.{passes, promotion_text, parts_text, admits, names, names_kind, promotes_so, has_equals, is_by_squares, is_by_letter, is_straight, is_by_file, parts_fit, has_parts, fits_text}
use Rattle.chess_text.specs.laws.Laws.{HasLetter, CanPromote, AreParts, IsDenoted}
use Rattle.chess_text.proofs.Lists.{IsIn, in-flat_map, in-one, in-append-left, in-append-right, each-append, each-flat_map, each-one, found}
use Rattle.chess_text.proofs.Grammar.{denoted-parts, parts-denoted}
use Rattle.chess_base.proofs.shared.Men.{same_kind-self, same_kind-true}

abbrev Text : Type 0
Text = List ℕ

-- parts with these fields
abbrev pub of : Option Kind → Option ℕ → Option ℕ → Bool → ℕ → Option Promotion → Parts
of letter file rank takes to promotion = record {
  letter = letter;
  file = file;
  rank = rank;
  takes = takes;
  end = record { to = to; promotion = promotion };
}

-- the parts have no letter, or that of a piece other than a pawn
abbrev pub Lettered : Parts → Type 0
Lettered q = IfSome q.letter HasLetter

-- the text is that of some parts that fit the described move
abbrev pub IsText : Described → Text → Type 0
IsText d text = (q : Parts) × Lettered q × (text ≡ parts_text q) × (parts_fit q d ≡ true)

-- ---- parts that fit, form by form

-- the parts of coordinates, as g1f3, fit the move
by_squares_fits : (d : Described) (p : Option Promotion) → promotes_so p d.promotion ≡ true → has_equals p ≡ false
    → parts_fit (of None (Some (file d.from)) (Some (rank d.from)) false d.to p) d ≡ true
unfolding parts_fit is_by_squares
by_squares_fits d p so unsigned =
    rw (eq-eqb (file d.from) (file d.from) refl, eq-eqb (rank d.from) (rank d.from) refl, eq-eqb d.to d.to refl, unsigned, so)
    refl

-- the parts of a text with the piece's letter, as Nf3 or Nbxd2, fit the move if it isn't castling, if the file and rank
-- that they name are the start's, and if `x` is there only for a capture
pub by_letter_fits : (d : Described) (f r : Option ℕ) (takes : Bool) → d.castles ≡ None → admits f (file d.from) ≡ true
    → admits r (rank d.from) ≡ true → (not takes || d.captures) ≡ true
    → parts_fit (of (Some d.man) f r takes d.to None) d ≡ true
unfolding parts_fit is_by_squares is_by_letter
by_letter_fits d f r takes walks file_is rank_is takes_is =
    rw (same_kind-self d.man, walks, file_is, rank_is, takes_is, eq-eqb d.to d.to refl) refl

-- the parts of an end square alone, as e4, fit a pawn's move that stays on its file
pub straight_fits : (d : Described) (p : Option Promotion) → same_kind Pawn d.man ≡ true → (file d.from == file d.to) ≡ true
    → promotes_so p d.promotion ≡ true → parts_fit (of None None None false d.to p) d ≡ true
unfolding parts_fit is_by_squares is_by_letter is_straight
straight_fits d p pawn on so = rw (pawn, on, eq-eqb d.to d.to refl, so) refl

-- the parts of a text that begins with a pawn's start file, as exd5, fit its move
pub file_fits : (d : Described) (f r : Option ℕ) (takes : Bool) (p : Option Promotion) → same_kind Pawn d.man ≡ true
    → names f (file d.from) ≡ true → admits r (rank d.from) ≡ true → (not takes || d.captures) ≡ true
    → promotes_so p d.promotion ≡ true → parts_fit (of None f r takes d.to p) d ≡ true
unfolding parts_fit is_by_file
file_fits d f r takes p pawn file_is rank_is takes_is so =
    let own : is_by_file (of None f r takes d.to p) d ≡ true =
    rw (file_is, rank_is, pawn, takes_is, eq-eqb d.to d.to refl, so) refl in
    grind (arith, own)

-- by which of the four forms the parts q fit the move d
pub data FitsBy (q : Parts) (d : Described) : Type 0 where
  FitSquares : is_by_squares q d ≡ true → FitsBy q d
  FitLetter : is_by_letter q d ≡ true → FitsBy q d
  FitStraight : is_straight q d ≡ true → FitsBy q d
  FitFile : is_by_file q d ≡ true → FitsBy q d

pub form_of_fit : (q : Parts) (d : Described) → parts_fit q d ≡ true → FitsBy q d
unfolding parts_fit
form_of_fit q d e = by_tests (is_by_squares q d) (is_by_letter q d) (is_straight q d) refl refl refl e
  where
    by_tests : (a b c : Bool) → is_by_squares q d ≡ a → is_by_letter q d ≡ b → is_straight q d ≡ c
        → (a || b || c || is_by_file q d) ≡ true → FitsBy q d
    by_tests true b c i j k e = FitSquares i
    by_tests false true c i j k e = FitLetter j
    by_tests false false true i j k e = FitStraight k
    by_tests false false false i j k e = FitFile e

-- ---- each listed text is that of parts that fit

-- t is the text of a promotion that agrees with the move's (o), or empty if there is none
abbrev IsPromotionText : Option Kind → Text → Type 0
IsPromotionText o t = (p : Option Promotion) × (t ≡ optional promotion_text p) × (promotes_so p o ≡ true)

-- t is the text of a promotion without `=` that agrees with the move's (o), or empty if there is none
abbrev IsPlainPromotion : Option Kind → Text → Type 0
IsPlainPromotion o t = (p : Option Promotion) × (t ≡ optional promotion_text p) × (promotes_so p o ≡ true)
    × (has_equals p ≡ false)

abbrev promotion_as : Kind → Bool → Bool → Option Promotion
promotion_as k equals small = Some (record { kind = k; equals = equals; small = small })

-- what coordinates may have before a promotion's letter: nothing
abbrev plain : List Text
plain = [] ∷ []

-- what a pawn's text may have before it: nothing, or `=` (61)
abbrev signed : List Text
signed = [] ∷ (61 ∷ []) ∷ []

-- each promotion text that the definition lists for coordinates is that of a promotion without `=` that agrees with the
-- move's
each_plain : (o : Option Kind) → AllByRecursion (IsPlainPromotion o) (promotion_texts plain o)
each_plain None = ((None, refl, refl, refl), tt)
each_plain (Some k) =
    let same = same_kind-self k in
    ((promotion_as k false false, refl, same, refl), ((promotion_as k false true, refl, same, refl), tt))

-- each promotion text that the definition lists for a pawn's text is that of a promotion that agrees with the move's
each_signed : (o : Option Kind) → AllByRecursion (IsPromotionText o) (promotion_texts signed o)
each_signed None = ((None, refl, refl), tt)
each_signed (Some k) =
    let same = same_kind-self k in (
      (promotion_as k false false, refl, same),
      ((promotion_as k false true, refl, same), ((promotion_as k true false, refl, same), ((promotion_as k true true, refl, same), tt))),
    )

-- the coordinate text of d with this promotion text
abbrev square_text_to : Described → Text → Text
square_text_to d promotion = square_text d.from ++ (square_text d.to ++ promotion)

-- all texts of d by its two squares
abbrev squares_texts : Described → List Text
squares_texts d = flat_map (λ promotion. square_text_to d promotion ∷ []) (promotion_texts plain d.promotion)

each_squares : (d : Described) → AllByRecursion (IsText d) (squares_texts d)
each_squares d =
    each-one (IsPlainPromotion d.promotion) (IsText d) (square_text_to d) (promotion_texts plain d.promotion)
    (each_plain d.promotion) (λ t h. (
      of None (Some (file d.from)) (Some (rank d.from)) false d.to h.0,
      tt,
      ap (square_text_to d) h.1,
      by_squares_fits d h.0 h.2 h.3,
    ))

-- t is what may be written of the square `from` after a piece's letter: its file, its rank, both or nothing (the parts
-- f and r)
abbrev IsStartText : ℕ → Text → Type 0
IsStartText from t = (f : Option ℕ) × (r : Option ℕ) × (t ≡ optional file_text f ++ optional rank_text r)
    × (admits f (file from) ≡ true) × (admits r (rank from) ≡ true)

each_start : (from : ℕ) → AllByRecursion (IsStartText from) (start_texts from)
each_start from =
    let a = eq-eqb (file from) (file from) refl in
    let b = eq-eqb (rank from) (rank from) refl in (
      (None, None, refl, refl, refl),
      (
        (Some (file from), None, refl, a, refl),
        ((None, Some (rank from), refl, refl, b), ((Some (file from), Some (rank from), refl, a, b), tt)),
      ),
    )

-- t is `x` (120) or empty, and is `x` only if the move captures (c)
abbrev IsCaptureText : Bool → Text → Type 0
IsCaptureText c t = (takes : Bool) × (t ≡ list_if takes (120 ∷ [])) × ((not takes || c) ≡ true)

each_capture : (c : Bool) → AllByRecursion (IsCaptureText c) (capture_texts c)
each_capture true = ((false, refl, refl), ((true, refl, refl), tt))
each_capture false = ((false, refl, refl), tt)

-- a kind other than a pawn has a letter
pub has_letter : (k : Kind) → same_kind k Pawn ≡ false → HasLetter k
has_letter King h = tt
has_letter Queen h = tt
has_letter Rook h = tt
has_letter Bishop h = tt
has_letter Knight h = tt
has_letter Pawn h = absurd cc

none_is : {A : Type 0} (o : Option A) → is_some o ≡ false → o ≡ None
none_is None e = refl
none_is (Some x) e = absurd cc

-- the text of d by its piece's letter, with this text for the start square and for `x`
abbrev letter_text : Described → Text → Text → Text
letter_text d start takes = kind_text d.man ++ (start ++ (takes ++ square_text d.to))

-- the texts of d by its piece's letter with this text for the start square: without `x`, and for a capture also with it
abbrev letter_texts : Described → Text → List Text
letter_texts d start = flat_map (λ takes. letter_text d start takes ∷ []) (capture_texts d.captures)

-- the text of d by its piece's letter is that of parts that fit d
is_letter_text : (d : Described) (start takes : Text) → same_kind d.man Pawn ≡ false → d.castles ≡ None
    → IsStartText d.from start → IsCaptureText d.captures takes → IsText d (letter_text d start takes)
is_letter_text d start takes other walks (f, r, is, file_is, rank_is) (t, written, takes_is) = (
  of (Some d.man) f r t d.to None,
  has_letter d.man other,
  rw (is, written, append_assoc) refl,
  by_letter_fits d f r t walks file_is rank_is takes_is,
)

-- all texts of d by its piece's letter: none for a pawn's move or castling
abbrev lettered_texts : Described → List Text
lettered_texts d = if same_kind d.man Pawn || is_some d.castles then [] else flat_map (letter_texts d) (start_texts d.from)

each_letter : (d : Described) → AllByRecursion (IsText d) (lettered_texts d)
each_letter d = by_tests (same_kind d.man Pawn) (is_some d.castles) refl refl
  where
    by_tests : (a b : Bool) → same_kind d.man Pawn ≡ a → is_some d.castles ≡ b
        → AllByRecursion (IsText d) (if a || b then [] else flat_map (letter_texts d) (start_texts d.from))
    by_tests true b other walks = tt
    by_tests false true other walks = tt
    by_tests false false other walks =
        each-flat_map (IsStartText d.from) (IsText d) (letter_texts d) (start_texts d.from) (each_start d.from)
        (λ start h. each-one (IsCaptureText d.captures) (IsText d) (letter_text d start) (capture_texts d.captures)
        (each_capture d.captures) (λ takes g. is_letter_text d start takes other (none_is d.castles walks) h g))

-- ---- a pawn's

-- t is what a pawn's text has before its end square (start file, rank, `x`), and parts that name just this fit d with
-- each promotion that agrees with d's
abbrev IsPawnStart : Described → Text → Type 0
IsPawnStart d t = (f : Option ℕ) × (r : Option ℕ) × (takes : Bool)
    × (t ≡ optional file_text f ++ (optional rank_text r ++ list_if takes (120 ∷ [])))
    × ((p : Option Promotion) → promotes_so p d.promotion ≡ true → parts_fit (of None f r takes d.to p) d ≡ true)

-- before the end square of a pawn's move that stays on its file nothing need be written
straight_start : (d : Described) → same_kind Pawn d.man ≡ true → (b : Bool) → (file d.from == file d.to) ≡ b
    → AllByRecursion (IsPawnStart d) (if b then [] ∷ [] else [])
straight_start d pawn true on = ((None, None, false, refl, λ p so. straight_fits d p pawn on so), tt)
straight_start d pawn false on = tt

-- t names the file of the square `from`, perhaps with its rank
abbrev IsFileText : ℕ → Text → Type 0
IsFileText from t = (r : Option ℕ) × (t ≡ file_text (file from) ++ optional rank_text r)
    × (admits r (rank from) ≡ true)

abbrev file_texts : ℕ → List Text
file_texts from = file_text (file from) ∷ square_text from ∷ []

-- `start` alone, and for a capture also with `x` after it
abbrev capturing : Described → Text → List Text
capturing d start = flat_map (λ takes. (start ++ takes) ∷ []) (capture_texts d.captures)

-- the start's file or square, and for a capture perhaps `x`, is what may be before the end square of a pawn's move
file_start : (d : Described) → same_kind Pawn d.man ≡ true → (start takes : Text) → IsFileText d.from start
    → IsCaptureText d.captures takes → IsPawnStart d (start ++ takes)
file_start d pawn start takes (r, is, rank_is) (t, written, takes_is) = (
  Some (file d.from),
  r,
  t,
  rw (is, written) refl,
  λ p so. file_fits d (Some (file d.from)) r t p pawn (eq-eqb (file d.from) (file d.from) refl) rank_is takes_is so,
)

-- all that may be written before the end square of a pawn's move d
abbrev starts_of : Described → List Text
starts_of d = (if file d.from == file d.to then [] ∷ [] else []) ++ flat_map (capturing d) (file_texts d.from)

each_pawn_start : (d : Described) → same_kind Pawn d.man ≡ true → AllByRecursion (IsPawnStart d) (starts_of d)
each_pawn_start d pawn =
    each-append (IsPawnStart d) (if file d.from == file d.to then [] ∷ [] else [])
    (flat_map (capturing d) (file_texts d.from)) (straight_start d pawn (file d.from == file d.to) refl)
    (each-flat_map (IsFileText d.from) (IsPawnStart d) (capturing d) (file_texts d.from)
    ((None, refl, refl), ((Some (rank d.from), refl, eq-eqb (rank d.from) (rank d.from) refl), tt))
    (λ start h. each-one (IsCaptureText d.captures) (IsPawnStart d) (λ takes. start ++ takes) (capture_texts d.captures)
    (each_capture d.captures) (λ takes g. file_start d pawn start takes h g)))

-- the text of a pawn's move d: what is before its end square, the square, the promotion
abbrev pawn_text : Described → Text → Text → Text
pawn_text d start promotion = start ++ (square_text d.to ++ promotion)

-- the texts of a pawn's move d with this text before its end square, with each promotion text
abbrev pawn_texts : Described → Text → List Text
pawn_texts d start = flat_map (λ promotion. pawn_text d start promotion ∷ []) (promotion_texts signed d.promotion)

-- the text of a pawn's move d is that of parts that fit d
is_pawn_text : (d : Described) (start promotion : Text) → IsPawnStart d start → IsPromotionText d.promotion promotion
    → IsText d (pawn_text d start promotion)
is_pawn_text d start promotion (f, r, t, is, fit) (p, written, so) =
    (of None f r t d.to p, tt, rw (is, written, append_assoc, append_assoc) refl, fit p so)

-- all texts of d as a pawn's move: none for another piece
abbrev pawns_texts : Described → List Text
pawns_texts d = if same_kind Pawn d.man then flat_map (pawn_texts d) (starts_of d) else []

each_pawn : (d : Described) → AllByRecursion (IsText d) (pawns_texts d)
each_pawn d = by_test (same_kind Pawn d.man) refl
  where
    by_test : (b : Bool) → same_kind Pawn d.man ≡ b
        → AllByRecursion (IsText d) (if b then flat_map (pawn_texts d) (starts_of d) else [])
    by_test true pawn =
        each-flat_map (IsPawnStart d) (IsText d) (pawn_texts d) (starts_of d) (each_pawn_start d pawn)
        (λ start h. each-one (IsPromotionText d.promotion) (IsText d) (pawn_text d start)
        (promotion_texts signed d.promotion) (each_signed d.promotion) (λ promotion g. is_pawn_text d start promotion h g))
    by_test false other = tt

-- all texts of d but castling's: by its squares, by its piece's letter, as a pawn's move
abbrev pub texts_of : Described → List Text
texts_of d = squares_texts d ++ (lettered_texts d ++ pawns_texts d)

each_text : (d : Described) → AllByRecursion (IsText d) (texts_of d)
each_text d =
    each-append (IsText d) (squares_texts d) (lettered_texts d ++ pawns_texts d) (each_squares d)
    (each-append (IsText d) (lettered_texts d) (pawns_texts d) (each_letter d) (each_pawn d))

-- ---- each text of parts that fit is listed

-- the text of a promotion without `=` that agrees with the move's is listed for coordinates
in_plain : (o : Option Kind) (p : Option Promotion) → promotes_so p o ≡ true → has_equals p ≡ false
    → IsIn Text (promotion_texts plain o) (optional promotion_text p)
in_plain None None so unsigned t e = grind (arith, e)
in_plain (Some k) None so unsigned t e = absurd cc
in_plain None (Some x) so unsigned t e = absurd cc
in_plain (Some k) (Some x) so unsigned t e = grind (arith, e, unsigned, same_kind-true x.kind k so)

-- the text of a promotion that agrees with the move's is listed for a pawn's text
in_signed : (o : Option Kind) (p : Option Promotion) → promotes_so p o ≡ true
    → IsIn Text (promotion_texts signed o) (optional promotion_text p)
in_signed None None so t e = grind (arith, e)
in_signed (Some k) None so t e = absurd cc
in_signed None (Some x) so t e = absurd cc
in_signed (Some k) (Some x) so t e = grind (arith, e, same_kind-true x.kind k so)

in_start : (from : ℕ) (f r : Option ℕ) → admits f (file from) ≡ true → admits r (rank from) ≡ true
    → IsIn Text (start_texts from) (optional file_text f ++ optional rank_text r)
in_start from f r a b t e = grind (arith, nat_tests, a, b, e)

in_capture : (c takes : Bool) → (not takes || c) ≡ true → IsIn Text (capture_texts c) (list_if takes (120 ∷ []))
in_capture c takes e t h = grind (arith, e, h)

-- ---- by each form

named : (o : Option ℕ) (n : ℕ) → names o n ≡ true → o ≡ Some n
named None n e = absurd cc
named (Some x) n e = ap (λ (y : ℕ). Some y) (eqb-true x n e)

kind_named : (o : Option Kind) (k : Kind) → names_kind o k ≡ true → o ≡ Some k
kind_named None k e = absurd cc
kind_named (Some j) k e = ap (λ (y : Kind). Some y) (same_kind-true j k e)

-- the text of parts that fit d by its two squares is one of `squares_texts`
squares_in : (d : Described) (letter : Option Kind) (f r : Option ℕ) (takes : Bool) (to : ℕ) (p : Option Promotion)
    → is_by_squares (of letter f r takes to p) d ≡ true
    → IsIn Text (squares_texts d) (parts_text (of letter f r takes to p))
unfolding is_by_squares
squares_in d letter f r takes to p e =
    let a : letter ≡ None = grind (arith, nat_tests, e) in
    let b : names f (file d.from) ≡ true = grind (arith, nat_tests, e) in
    let c : names r (rank d.from) ≡ true = grind (arith, nat_tests, e) in
    let g : takes ≡ false = grind (arith, nat_tests, e) in
    let h : to ≡ d.to = grind (arith, nat_tests, e) in
    let u : has_equals p ≡ false = grind (arith, nat_tests, e) in
    let so : promotes_so p d.promotion ≡ true = grind (arith, nat_tests, e) in
    rw (a, named f (file d.from) b, named r (rank d.from) c, g, h)
    (in-one (square_text_to d) (promotion_texts plain d.promotion) (optional promotion_text p) (in_plain d.promotion p so u))

no_pawn : (k : Kind) → HasLetter k → same_kind k Pawn ≡ false
no_pawn King h = refl
no_pawn Queen h = refl
no_pawn Rook h = refl
no_pawn Bishop h = refl
no_pawn Knight h = refl
no_pawn Pawn h = absurd h

-- the text of parts that fit d by its piece's letter is one of `lettered_texts`
letter_in : (d : Described) (letter : Option Kind) (f r : Option ℕ) (takes : Bool) (to : ℕ) (p : Option Promotion)
    → IfSome letter HasLetter → is_by_letter (of letter f r takes to p) d ≡ true
    → IsIn Text (lettered_texts d) (parts_text (of letter f r takes to p))
unfolding is_by_letter
letter_in d letter f r takes to p has e =
    let a : names_kind letter d.man ≡ true = grind (arith, nat_tests, e) in
    let walks : d.castles ≡ None = grind (arith, nat_tests, e) in
    let b : admits f (file d.from) ≡ true = grind (arith, nat_tests, e) in
    let c : admits r (rank d.from) ≡ true = grind (arith, nat_tests, e) in
    let g : (not takes || d.captures) ≡ true = grind (arith, nat_tests, e) in
    let h : to ≡ d.to = grind (arith, nat_tests, e) in
    let none : p ≡ None = grind (arith, nat_tests, e) in
    let is = kind_named letter d.man a in
    let other = no_pawn d.man (subst (λ (o : Option Kind). IfSome o HasLetter) is has) in
    let start : Text = optional file_text f ++ optional rank_text r in
    let x : Text = list_if takes (120 ∷ []) in
    let there : IsIn Text (flat_map (letter_texts d) (start_texts d.from)) (letter_text d start x) =
    in-flat_map (letter_texts d) (start_texts d.from) start (letter_text d start x) (in_start d.from f r b c)
    (in-one (letter_text d start) (capture_texts d.captures) x (in_capture d.captures takes g)) in
    rw (is, none, h, other, walks)
    (rw (append_assoc (optional file_text f) (optional rank_text r) (x ++ square_text d.to)) at there)

-- a pawn's text is one of `pawns_texts` if what is before its end square is in `starts_of`
in_pawn : (d : Described) (start : Text) (p : Option Promotion) → same_kind Pawn d.man ≡ true
    → promotes_so p d.promotion ≡ true → IsIn Text (starts_of d) start
    → IsIn Text (pawns_texts d) (pawn_text d start (optional promotion_text p))
in_pawn d start p pawn so there =
    let end : Text = optional promotion_text p in
    rw pawn (in-flat_map (pawn_texts d) (starts_of d) start (pawn_text d start end) there
    (in-one (pawn_text d start) (promotion_texts signed d.promotion) end (in_signed d.promotion p so)))

-- the text of parts that fit d, a pawn's move, by its end square alone is one of `pawns_texts`
straight_in : (d : Described) (letter : Option Kind) (f r : Option ℕ) (takes : Bool) (to : ℕ) (p : Option Promotion)
    → is_straight (of letter f r takes to p) d ≡ true
    → IsIn Text (pawns_texts d) (parts_text (of letter f r takes to p))
unfolding is_straight
straight_in d letter f r takes to p e =
    let a : letter ≡ None = grind (arith, nat_tests, e) in
    let b : f ≡ None = grind (arith, nat_tests, e) in
    let c : r ≡ None = grind (arith, nat_tests, e) in
    let g : takes ≡ false = grind (arith, nat_tests, e) in
    let pawn : same_kind Pawn d.man ≡ true = grind (arith, nat_tests, e) in
    let on : (file d.from == file d.to) ≡ true = grind (arith, nat_tests, e) in
    let h : to ≡ d.to = grind (arith, nat_tests, e) in
    let so : promotes_so p d.promotion ≡ true = grind (arith, nat_tests, e) in
    rw (a, b, c, g, h) (in_pawn d [] p pawn so
    (in-append-left (if file d.from == file d.to then [] ∷ [] else []) (flat_map (capturing d) (file_texts d.from)) []
    (rw on (λ t first. or_left (t []) false first))))

in_file : (from : ℕ) (r : Option ℕ) → admits r (rank from) ≡ true
    → IsIn Text (file_texts from) (file_text (file from) ++ optional rank_text r)
in_file from r a t e = grind (arith, nat_tests, a, e)

-- the text of parts that fit d, a pawn's move, by its start file is one of `pawns_texts`
file_in : (d : Described) (letter : Option Kind) (f r : Option ℕ) (takes : Bool) (to : ℕ) (p : Option Promotion)
    → is_by_file (of letter f r takes to p) d ≡ true
    → IsIn Text (pawns_texts d) (parts_text (of letter f r takes to p))
unfolding is_by_file
file_in d letter f r takes to p e =
    let a : letter ≡ None = grind (arith, nat_tests, e) in
    let b : names f (file d.from) ≡ true = grind (arith, nat_tests, e) in
    let c : admits r (rank d.from) ≡ true = grind (arith, nat_tests, e) in
    let pawn : same_kind Pawn d.man ≡ true = grind (arith, nat_tests, e) in
    let g : (not takes || d.captures) ≡ true = grind (arith, nat_tests, e) in
    let h : to ≡ d.to = grind (arith, nat_tests, e) in
    let so : promotes_so p d.promotion ≡ true = grind (arith, nat_tests, e) in
    let start : Text = file_text (file d.from) ++ optional rank_text r in
    let x : Text = list_if takes (120 ∷ []) in
    let there : IsIn Text (pawns_texts d) (pawn_text d (start ++ x) (optional promotion_text p)) =
    in_pawn d (start ++ x) p pawn so
    (in-append-right (if file d.from == file d.to then [] ∷ [] else []) (flat_map (capturing d) (file_texts d.from)) (start ++ x)
    (in-flat_map (capturing d) (file_texts d.from) start (start ++ x) (in_file d.from r c)
    (in-one (λ takes. start ++ takes) (capture_texts d.captures) x (in_capture d.captures takes g)))) in
    rw (a, named f (file d.from) b, h) (rw (append_assoc start x (square_text d.to ++ optional promotion_text p)) at there)

-- the text of parts that fit d, by whichever form, is in `texts_of`
text_in : (q : Parts) (d : Described) → Lettered q → parts_fit q d ≡ true → IsIn Text (texts_of d) (parts_text q)
text_in q d has e = by_form (form_of_fit q d e)
  where
    last : IsIn Text (pawns_texts d) (parts_text q) → IsIn Text (texts_of d) (parts_text q)
    last h = in-append-right (squares_texts d) (lettered_texts d ++ pawns_texts d) (parts_text q)
        (in-append-right (lettered_texts d) (pawns_texts d) (parts_text q) h)

    by_form : FitsBy q d → IsIn Text (texts_of d) (parts_text q)
    by_form (FitSquares h) = in-append-left (squares_texts d) (lettered_texts d ++ pawns_texts d) (parts_text q)
        (squares_in d q.letter q.file q.rank q.takes q.end.to q.end.promotion h)
    by_form (FitLetter h) = in-append-right (squares_texts d) (lettered_texts d ++ pawns_texts d) (parts_text q)
        (in-append-left (lettered_texts d) (pawns_texts d) (parts_text q)
        (letter_in d q.letter q.file q.rank q.takes q.end.to q.end.promotion has h))
    by_form (FitStraight h) = last (straight_in d q.letter q.file q.rank q.takes q.end.to q.end.promotion h)
    by_form (FitFile h) = last (file_in d q.letter q.file q.rank q.takes q.end.to q.end.promotion h)

-- ---- what a text denotes, with no list of texts

-- an optional value that passes a test is there
pub passing : {A : Type 0} (test : A → Bool) (o : Option A) → passes test o ≡ true
    → (x : A) × (o ≡ Some x) × (test x ≡ true)
passing test None e = absurd cc
passing test (Some x) e = (x, refl, e)

-- ---- the lists of the definition

squares_alike : (d : Described) (o : Option Kind)
    → (square_text d.from ∷ []) · (square_text d.to ∷ []) · promotion_texts plain o
    ≡ flat_map (λ promotion. square_text_to d promotion ∷ []) (promotion_texts plain o)
squares_alike d None = refl
squares_alike d (Some k) = refl

letters_alike : (d : Described) (c : Bool)
    → (kind_text d.man ∷ []) · start_texts d.from · capture_texts c · (square_text d.to ∷ [])
    ≡ flat_map (λ start. flat_map (λ takes. letter_text d start takes ∷ []) (capture_texts c)) (start_texts d.from)
letters_alike d true = refl
letters_alike d false = refl

starts_alike : (d : Described) (c : Bool)
    → list_if (file d.from == file d.to) ([] ∷ []) ++ file_texts d.from · capture_texts c
    ≡ (if file d.from == file d.to then [] ∷ [] else [])
    ++ flat_map (λ start. flat_map (λ takes. (start ++ takes) ∷ []) (capture_texts c)) (file_texts d.from)
starts_alike d true = refl
starts_alike d false = refl

ends_alike : (d : Described) (starts : List Text) (o : Option Kind)
    → starts · (square_text d.to ∷ []) · promotion_texts signed o
    ≡ flat_map (λ start. flat_map (λ promotion. pawn_text d start promotion ∷ []) (promotion_texts signed o)) starts
ends_alike d starts None = refl
ends_alike d starts (Some k) = refl

pawns_alike : (d : Described) → texts_of_pawn d ≡ pawns_texts d
pawns_alike d =
    ap (λ starts. list_if (same_kind Pawn d.man)
    (starts · (square_text d.to ∷ []) · promotion_texts signed d.promotion)) (starts_alike d d.captures)
    ∙ ap (λ texts. list_if (same_kind Pawn d.man) texts) (ends_alike d (starts_of d) d.promotion)

texts_alike : (d : Described) → texts_by_squares d ++ (texts_by_letter d ++ texts_of_pawn d) ≡ texts_of d
texts_alike d =
    ap (λ xs. xs ++ (texts_by_letter d ++ texts_of_pawn d)) (squares_alike d d.promotion)
    ∙ ap (λ xs. squares_texts d
    ++ ((if same_kind d.man Pawn || is_some d.castles then [] else xs) ++ texts_of_pawn d)) (letters_alike d d.captures)
    ∙ ap (λ xs. squares_texts d ++ (lettered_texts d ++ xs)) (pawns_alike d)

-- a text denotes d if it names d's castling, or if without marks it is one of `texts_of`
listed : (text : Text) (d : Described)
    → denotes_described text d
    ≡ (passes (is_castling_text text) d.castles || list_any (bytes_eq (unmarked text)) (texts_of d))
unfolding denotes_described is_castling_text
listed text d =
    list_any-append t (option_map_or castling_texts d.castles [])
    (texts_by_squares d ++ (texts_by_letter d ++ texts_of_pawn d))
    ∙ ap (λ b. b || list_any t (texts_by_squares d ++ (texts_by_letter d ++ texts_of_pawn d))) (by_side d.castles)
    ∙ ap (λ xs. passes (is_castling_text text) d.castles || list_any t xs) (texts_alike d)
  where
    t : Text → Bool
    t = bytes_eq (unmarked text)

    by_side : (o : Option CastlingSide)
        → list_any t (option_map_or castling_texts o []) ≡ passes (is_castling_text text) o
    by_side None = refl
    by_side (Some w) = refl

pub is_denoted_so : (text : Text) (d : Described) → denotes_described text d ≡ true → IsDenoted text d
is_denoted_so text d e =
    elim (or_cases (passes (is_castling_text text) d.castles) (list_any (bytes_eq (unmarked text)) (texts_of d))
    (sym (listed text d) ∙ e)) [
      | inl h ↦ inl (passing (is_castling_text text) d.castles h)
      | inr h ↦
          let f = found (IsText d) (texts_of d) (each_text d) (bytes_eq (unmarked text)) h in
          inr (f.1.0, f.1.1, (bytes_eq-Decides (unmarked text) f.0).0 f.2 ∙ f.1.2, f.1.3)
    ]

castling_denotes : (text : Text) (d : Described) (w : CastlingSide) → d.castles ≡ Some w
    → is_castling_text text w ≡ true → denotes_described text d ≡ true
castling_denotes text d w e h =
    let there : (passes (is_castling_text text) d.castles || list_any (bytes_eq (unmarked text)) (texts_of d)) ≡ true =
    rw (e, h) refl in
    listed text d ∙ there

parts_denote : (text : Text) (d : Described) (q : Parts) → Lettered q → unmarked text ≡ parts_text q
    → parts_fit q d ≡ true → denotes_described text d ≡ true
parts_denote text d q has is fit =
    listed text d
    ∙ or_right (passes (is_castling_text text) d.castles) (list_any (bytes_eq (unmarked text)) (texts_of d))
    (text_in q d has fit (bytes_eq (unmarked text)) ((bytes_eq-Decides (unmarked text) (parts_text q)).1 is))

pub denoted_so : (text : Text) (d : Described) → IsDenoted text d → denotes_described text d ≡ true
denoted_so text d (inl h) = castling_denotes text d h.0 h.1 h.2
denoted_so text d (inr h) = parts_denote text d h.0 h.1 h.2 h.3

-- ---- by the parts that are read

-- what parts have that fit a move
pub record Facts (q : Parts) (d : Described) : Type 0 where
  pub file_is : admits q.file (file d.from) ≡ true
  pub rank_is : admits q.rank (rank d.from) ≡ true
  pub to_is : q.end.to ≡ d.to
  pub promotion_is : (is_none q.end.promotion || promotes_so q.end.promotion d.promotion) ≡ true

pub facts : (q : Parts) (d : Described) → parts_fit q d ≡ true → Facts q d
unfolding is_by_squares is_by_letter is_straight is_by_file
facts q d e = by_form (form_of_fit q d e)
  where
    by_form : FitsBy q d → Facts q d
    by_form (FitSquares h) = record {
      file_is = grind (arith, nat_tests, h);
      rank_is = grind (arith, nat_tests, h);
      to_is = grind (arith, nat_tests, h);
      promotion_is = grind (arith, nat_tests, h);
    }
    by_form (FitLetter h) = record {
      file_is = grind (arith, nat_tests, h);
      rank_is = grind (arith, nat_tests, h);
      to_is = grind (arith, nat_tests, h);
      promotion_is = grind (arith, nat_tests, h);
    }
    by_form (FitStraight h) = record {
      file_is = grind (arith, nat_tests, h);
      rank_is = grind (arith, nat_tests, h);
      to_is = grind (arith, nat_tests, h);
      promotion_is = grind (arith, nat_tests, h);
    }
    by_form (FitFile h) = record {
      file_is = grind (arith, nat_tests, h);
      rank_is = grind (arith, nat_tests, h);
      to_is = grind (arith, nat_tests, h);
      promotion_is = grind (arith, nat_tests, h);
    }

-- a file or rank that admits n is below 8, as n is
below : (o : Option ℕ) (n : ℕ) → n < 8 → admits o n ≡ true → IfSome o (λ x. x < 8)
below None n h e = tt
below (Some x) n h e = subst (λ y. y < 8) (sym (eqb-true x n e)) h

-- a promotion that agrees with the move's is to a piece that a pawn may become
promoting : (p : Option Promotion) (o : Option Kind) → IfSome o CanPromote → (is_none p || promotes_so p o) ≡ true
    → IfSome p (λ x. CanPromote x.kind)
promoting None o h e = tt
promoting (Some x) None h e = absurd cc
promoting (Some x) (Some k) h e = subst CanPromote (sym (same_kind-true x.kind k e)) h

-- parts that fit a move on the board are possible: squares on the board, a possible promotion
are_parts : (q : Parts) (d : Described) → Lettered q → d.from < 64 → d.to < 64 → IfSome d.promotion CanPromote
    → parts_fit q d ≡ true → AreParts q
are_parts q d has from to promotion e =
    let f = facts q d e in
    record {
      letter_is = has;
      file_is = below q.file (file d.from) (omega arith) f.file_is;
      rank_is = below q.rank (rank d.from) (omega (arith, from)) f.rank_is;
      to_is = subst (λ n. n < 64) (sym f.to_is) to;
      promotion_is = promoting q.end.promotion d.promotion promotion f.promotion_is;
    }

pub bool_same : (a b : Bool) → (a ≡ true → b ≡ true) → (b ≡ true → a ≡ true) → a ≡ b
bool_same true true h k = refl
bool_same true false h k = sym (h refl)
bool_same false true h k = k refl
bool_same false false h k = refl

castling_fits : (text : Text) (d : Described) (w : CastlingSide) → d.castles ≡ Some w → is_castling_text text w ≡ true
    → fits_text text d ≡ true
unfolding fits_text
castling_fits text d w e h = rw (e, h) refl

parts_fit_text : (text : Text) (d : Described) (q : Parts) → AreParts q → unmarked text ≡ parts_text q
    → parts_fit q d ≡ true → fits_text text d ≡ true
unfolding fits_text has_parts
parts_fit_text text d q are is fit =
    or_right (passes (is_castling_text text) d.castles) (passes (λ r. parts_fit r d) (parts_at (unmarked text)))
    (ap (passes (λ r. parts_fit r d)) (ap parts_at is ∙ parts-denoted q are) ∙ fit)

-- a text that denotes d passes the reader's test `fits_text`; fits_cases is the converse
fits_so : (text : Text) (d : Described) → d.from < 64 → d.to < 64 → IfSome d.promotion CanPromote → IsDenoted text d
    → fits_text text d ≡ true
fits_so text d from to promotion (inl h) = castling_fits text d h.0 h.1 h.2
fits_so text d from to promotion (inr h) =
    parts_fit_text text d h.0 (are_parts h.0 d h.1 from to promotion h.3) h.2 h.3

pub fits_cases : (text : Text) (d : Described) → fits_text text d ≡ true → IsDenoted text d
unfolding fits_text has_parts
fits_cases text d e =
    elim (or_cases (passes (is_castling_text text) d.castles) (passes (λ r. parts_fit r d) (parts_at (unmarked text))) e) [
      | inl h ↦ inl (passing (is_castling_text text) d.castles h)
      | inr h ↦
          let of = passing (λ r. parts_fit r d) (parts_at (unmarked text)) h in
          let is = denoted-parts (unmarked text) of.0 of.1 in
          inr (of.0, is.0.letter_is, is.1, of.2)
    ]

-- of a move on the board a text denotes it just where its parts fit
pub denotes_is : (text : Text) (d : Described) → d.from < 64 → d.to < 64 → IfSome d.promotion CanPromote
    → denotes_described text d ≡ fits_text text d
denotes_is text d from to promotion =
    bool_same (denotes_described text d) (fits_text text d)
    (λ e. fits_so text d from to promotion (is_denoted_so text d e))
    (λ e. denoted_so text d (fits_cases text d e))
