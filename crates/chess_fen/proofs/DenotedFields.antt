-- A FEN's field is read as a value exactly where it denotes this value, by the pairs of lemmas denoted-X and X-denoted:
-- for the pieces (by their ranks, DenotedRanks), the side and the en passant target (by their bytes).
use Rattle.std.proofs.Common.{◌≡◌, ℕ, ◌+◌, ◌-◌, ◌*◌, ◌/◌, ◌%◌, ◌≤◌, ◌⊎◌, true, eqb, leb, ◌&&◌, ◌||◌, List, [], ◌∷◌, length, map, Option, Some, None, refl, sym, ap, subst, ◌∙◌, arith, IfSome, option_map}
use Rattle.std.specs.List.{slice_split}
use Rattle.std.proofs.lemmas.Bool.Decides.{nat_tests}
use Rattle.chess_base.proofs.shared.Choices.{chosen}
use Rattle.chess_base.specs.{declared.man.Man.Man, declared.man.Colour.Colour, declared.man.Colour.TheVariants.White, declared.man.Colour.TheVariants.Black}
use Rattle.chess_fen.specs.Texts.{all_there, rank_of, from_top, placement_of, target_of}
use Rattle.chess_fen.specs.{Writing.side_text, Writing.target_text, Reading.side_of, Denotation.DenotesRank, Denotation.DenotesPlacement, Denotation.DenotesTarget}
use Rattle.chess_fen.proofs.DenotedRanks.{there-zip, zip-there, zip-length, denoted-rank, rank-of_denoted}

-- ---- placement

-- eight ranks with a slash between them, each of which is read, denote the board that is made of them
pub denoted-placement : (text : List ℕ) (men : List (Option Man)) → placement_of text ≡ Some men
    → DenotesPlacement text men
denoted-placement text men e =
    let h = chosen (eqb (length ranks) 8) (option_map from_top (all_there (map rank_of ranks))) men e in
    let eight : length ranks ≡ 8 = grind (arith, nat_tests, h.0) in
    by_rows (all_there (map rank_of ranks)) refl h.1 eight
  where
    ranks : List (List ℕ)
    ranks = slice_split (λ c. eqb c 47) text

    by_rows : (o : Option (List (List (Option Man)))) → all_there (map rank_of ranks) ≡ o
        → option_map from_top o ≡ Some men → length ranks ≡ 8 → DenotesPlacement text men
    by_rows None is e eight = absurd cc
    by_rows (Some rows) is e eight =
        let whole : from_top rows ≡ men = cc in
        let zip = there-zip rank_of DenotesRank denoted-rank ranks rows is in
        (rows, sym (zip-length DenotesRank ranks rows zip) ∙ eight, zip, sym whole)

-- a board that a text denotes is read of it
pub placement-denoted : (text : List ℕ) (men : List (Option Man)) → DenotesPlacement text men
    → placement_of text ≡ Some men
placement-denoted text men s =
    let ranks : List (List ℕ) = slice_split (λ c. eqb c 47) text in
    let t : eqb (length ranks) 8 ≡ true = grind (arith, nat_tests, zip-length DenotesRank ranks s.0 s.2, s.1) in
    rw t (ap (option_map from_top) (zip-there rank_of DenotesRank rank-of_denoted ranks s.0 s.2) ∙ ap Some (sym s.3))

-- ---- side

-- the letter of a side is read as that side
pub side-text : (colour : Colour) → side_of (side_text colour) ≡ Some colour
side-text White = refl
side-text Black = refl

-- a text that is read as a side is its letter
pub denoted-side : (text : List ℕ) (colour : Colour) → side_of text ≡ Some colour → text ≡ side_text colour
denoted-side [] colour e = absurd cc
denoted-side (c ∷ []) colour e = grind (arith, nat_tests, e)
denoted-side (c ∷ d ∷ cs) colour e = absurd cc

-- and back
pub side-denoted : (text : List ℕ) (colour : Colour) → text ≡ side_text colour → side_of text ≡ Some colour
side-denoted text colour e = ap side_of e ∙ side-text colour

-- ---- target

-- a text that is read as a target, or as none, denotes it
pub denoted-target : (text : List ℕ) (target : Option ℕ) → target_of text ≡ Some target → DenotesTarget text target
denoted-target [] target e = absurd cc
denoted-target (c ∷ []) target e =
    let h = chosen (eqb c 45) (Some None) target e in
    let at : c ≡ 45 = grind (arith, nat_tests, h.0) in
    let none : None ≡ target = cc in
    subst (DenotesTarget (c ∷ [])) none (ap (λ x. x ∷ []) at, tt)
denoted-target (f ∷ r ∷ []) target e =
    let h = chosen (leb 97 f && leb f 104 && (eqb r 51 || eqb r 54)) (Some (Some (8 * (r - 49) + (f - 97)))) target e in
    let low : 97 ≤ f = grind (arith, nat_tests, h.0) in
    let high : f ≤ 104 = grind (arith, nat_tests, h.0) in
    let rank : (r ≡ 51) ⊎ (r ≡ 54) = grind (arith, nat_tests, h.0) in
    let is : Some (8 * (r - 49) + (f - 97)) ≡ target = cc in
    let t : ℕ = 8 * (r - 49) + (f - 97) in
    let file_is : f ≡ 97 + t % 8 = omega arith in
    let rank_is : r ≡ 49 + t / 8 = grind (arith, low, rank) in
    let on : (t / 8 ≡ 2) ⊎ (t / 8 ≡ 5) = grind (arith, low, high, rank) in
    subst (DenotesTarget (f ∷ r ∷ [])) is
    (ap (λ x. x ∷ r ∷ []) file_is ∙ ap (λ x. (97 + t % 8) ∷ x ∷ []) rank_is, on)
denoted-target (f ∷ r ∷ c ∷ cs) target e = absurd cc

-- a file's letter and 3 or 6 are read as the square that they name
target_read : (f r t : ℕ) → 97 ≤ f → f ≤ 104 → (r ≡ 51) ⊎ (r ≡ 54) → t ≡ 8 * (r - 49) + (f - 97)
    → target_of (f ∷ r ∷ []) ≡ Some (Some t)
target_read f r t low high rank is = grind (arith, nat_tests, low, high, rank, is)

target-text : (target : Option ℕ) → IfSome target (λ square. (square / 8 ≡ 2) ⊎ (square / 8 ≡ 5))
    → target_of (target_text target) ≡ Some target
target-text None h = refl
target-text (Some t) h = target_read (97 + t % 8) (49 + t / 8) t (omega arith) (omega arith) (grind (arith, h))
    (omega arith)

-- a target that a text denotes, or none, is read of it
pub target-denoted : (text : List ℕ) (target : Option ℕ) → DenotesTarget text target → target_of text ≡ Some target
target-denoted text target s = ap target_of s.0 ∙ target-text target s.1
