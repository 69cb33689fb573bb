-- A rank's text is read as eight squares exactly where it denotes them (denoted-rank, rank-of_denoted). So it is for
-- each byte (denoted_squares, squares-denoted), and for a list of bytes by induction (there-zip, zip-there).
use Rattle.std.proofs.Common.{◌≡◌, ℕ, suc, ◌-◌, ◌≤◌, inl, inr, Bool, true, false, cond, eqb, leb, ◌&&◌, List, [], ◌∷◌, length, map, Option, Some, None, refl, sym, ap, subst, ◌∙◌, arith, option_map, replicate, option_and_then, find}
use Rattle.std.specs.List.{AllZip, flat_map}
use Rattle.std.proofs.lemmas.Bool.Decides.{nat_tests}
use Rattle.chess_base.proofs.shared.Choices.{chosen}
use Rattle.chess_base.specs.{declared.man.Man.Man, declared.man.Kind.Kind, declared.man.Colour.Colour, declared.man.Colour.TheVariants.White, declared.man.Colour.TheVariants.Black}
use Rattle.chess_base.specs.declared.man.Kind.TheVariants.{Pawn, Knight, Bishop, Rook, Queen, King}
use Rattle.chess_base.specs.Letters.{letter, letter_by, man_with_letter, all_men}
use Rattle.chess_fen.specs.{Texts.squares_of, Texts.all_there, Texts.rank_of, Denotation.StandsFor, Denotation.DenotesRank}
use Rattle.chess_fen.proofs.RankBytes.{squares-digit}

-- a piece's letter is read as the piece
squares-letter_by : (colour : Colour) (kind : Kind)
    → squares_of (letter_by colour kind) ≡ Some (Some (record { colour = colour; kind = kind }) ∷ [])
squares-letter_by White Pawn = refl
squares-letter_by White Knight = refl
squares-letter_by White Bishop = refl
squares-letter_by White Rook = refl
squares-letter_by White Queen = refl
squares-letter_by White King = refl
squares-letter_by Black Pawn = refl
squares-letter_by Black Knight = refl
squares-letter_by Black Bishop = refl
squares-letter_by Black Rook = refl
squares-letter_by Black Queen = refl
squares-letter_by Black King = refl

-- a piece's letter is read as one square with that piece
pub squares-letter : (man : Man) → squares_of (letter man) ≡ Some (Some man ∷ [])
squares-letter man = squares-letter_by man.colour man.kind

-- what a search finds passes its test
found : (men : List Man) (c : ℕ) (man : Man) → find (λ m. eqb (letter m) c) men ≡ Some man → c ≡ letter man
found [] c man e = absurd cc
found (m ∷ men) c man e = grind (arith, nat_tests, e, found men c man)

-- ---- a byte

-- a byte that is read as squares denotes them: a piece's letter, or a digit from 1 to 8 (49 to 56)
pub denoted_squares : (c : ℕ) (squares : List (Option Man)) → squares_of c ≡ Some squares → StandsFor c squares
denoted_squares c squares e = by_test (leb 49 c && leb c 56) refl e
  where
    by_man : (o : Option Man) → man_with_letter c ≡ o → option_map (λ m. Some m ∷ []) o ≡ Some squares
        → StandsFor c squares
    by_man None is e = absurd cc
    by_man (Some man) is e = inl (man, found all_men c man is, cc)

    by_test : (b : Bool) → (leb 49 c && leb c 56) ≡ b
        → cond b (Some (replicate (c - 48) None)) (option_map (λ m. Some m ∷ []) (man_with_letter c)) ≡ Some squares
        → StandsFor c squares
    by_test true t e =
        let low : 49 ≤ c = grind (arith, nat_tests) in
        let high : c ≤ 56 = grind (arith, nat_tests) in
        inr (c - 48, omega arith, omega arith, omega arith, cc)
    by_test false t e = by_man (man_with_letter c) refl e

-- a byte that denotes squares is read as these
pub squares-denoted : (c : ℕ) (squares : List (Option Man)) → StandsFor c squares → squares_of c ≡ Some squares
squares-denoted c squares (inl m) = ap squares_of m.1 ∙ squares-letter m.0 ∙ ap Some (sym m.2)
squares-denoted c squares (inr d) = squares-digit c (omega (arith, d.1, d.3)) (omega (arith, d.2, d.3))
    ∙ digits (omega (arith, d.3))
  where
    digits : c - 48 ≡ d.0 → Some (replicate (c - 48) None) ≡ Some squares
    digits e = ap (λ k. Some (replicate k None)) e ∙ ap Some (sym d.4)

-- ---- values that are all there

-- if all elements of xs give a value (ys), each value has P with its element, as f gives only such values
pub there-zip : {A B : Type 0} (f : A → Option B) (P : A → B → Type 0) → ((x : A) (y : B) → f x ≡ Some y → P x y)
    → (xs : List A) (ys : List B) → all_there (map f xs) ≡ Some ys → AllZip P xs ys
there-zip f P each [] [] e = tt
there-zip f P each [] (y ∷ ys) e = absurd cc
there-zip {A} {B} f P each (x ∷ xs) ys e =
    by_first (f x) refl (all_there (map f xs)) (λ zs is. there-zip f P each xs zs is) e
  where
    by_first : (o : Option B) → f x ≡ o → (p : Option (List B)) → ((zs : List B) → p ≡ Some zs → AllZip P xs zs)
        → option_and_then (λ z. option_map (λ zs. z ∷ zs) p) o ≡ Some ys → AllZip P (x ∷ xs) ys
    by_first None is p later e = absurd cc
    by_first (Some y) is None later e = absurd cc
    by_first (Some y) is (Some zs) later e =
        let whole : y ∷ zs ≡ ys = cc in subst (AllZip P (x ∷ xs)) whole (each x y is, later zs refl)

-- if each element of xs has P with that of ys, and f then gives that, all elements give a value
pub zip-there : {A B : Type 0} (f : A → Option B) (P : A → B → Type 0) → ((x : A) (y : B) → P x y → f x ≡ Some y)
    → (xs : List A) (ys : List B) → AllZip P xs ys → all_there (map f xs) ≡ Some ys
zip-there f P each [] [] h = refl
zip-there f P each [] (y ∷ ys) h = absurd h
zip-there f P each (x ∷ xs) [] h = absurd h
zip-there f P each (x ∷ xs) (y ∷ ys) h =
    ap (option_and_then (λ z. option_map (λ zs. z ∷ zs) (all_there (map f xs)))) (each x y h.0)
    ∙ ap (option_map (λ zs. y ∷ zs)) (zip-there f P each xs ys h.1)

-- lists that are related element by element are of one length
pub zip-length : {A B : Type 0} (P : A → B → Type 0) (xs : List A) (ys : List B) → AllZip P xs ys
    → length xs ≡ length ys
zip-length P [] [] h = refl
zip-length P [] (y ∷ ys) h = absurd h
zip-length P (x ∷ xs) [] h = absurd h
zip-length P (x ∷ xs) (y ∷ ys) h = ap suc (zip-length P xs ys h.1)

-- ---- a rank

-- the squares of all bytes, one after another
abbrev pub joined : List (List (Option Man)) → List (Option Man)
joined parts = flat_map (λ part. part) parts

-- the squares, if there are eight
abbrev pub eight : Option (List (Option Man)) → Option (List (Option Man))
eight o = option_and_then (λ (row : List (Option Man)). cond (eqb (length row) 8) (Some row) None) o

-- a rank's text that is read as a row denotes it
pub denoted-rank : (text : List ℕ) (row : List (Option Man)) → rank_of text ≡ Some row → DenotesRank text row
denoted-rank text row e = by_parts (all_there (map squares_of text)) refl e
  where
    by_parts : (o : Option (List (List (Option Man)))) → all_there (map squares_of text) ≡ o
        → eight (option_map joined o) ≡ Some row → DenotesRank text row
    by_parts None is e = absurd cc
    by_parts (Some parts) is e =
        let h = chosen (eqb (length (joined parts)) 8) (Some (joined parts)) row e in
        let whole : joined parts ≡ row = cc in
        let count : length (joined parts) ≡ 8 = grind (arith, nat_tests, h.0) in (
          (parts, there-zip squares_of StandsFor denoted_squares text parts is, sym whole),
          ap length (sym whole) ∙ count,
        )

-- a row that a rank's text denotes is read of it
pub rank-of_denoted : (text : List ℕ) (row : List (Option Man)) → DenotesRank text row → rank_of text ≡ Some row
rank-of_denoted text row s =
    ap (λ o. eight (option_map joined o)) (zip-there squares_of StandsFor squares-denoted text s.0.0 s.0.1)
    ∙ ap (λ r. eight (Some r)) (sym s.0.2) ∙ ap (λ n. cond (eqb n 8) (Some row) None) s.1
