-- A text is parsed as the square or the move that is written so, and as no other (parses_square, parses_move). Each is
-- made of two lemmas: what is read from a text is written so (square_named, move_named), and what is written so is read
-- (square_read, move_read). By cases of the text's bytes.
use Rattle.std.proofs.Common.{◌≡◌, ◌≢◌, ℕ, zero, suc, ◌+◌, ◌-◌, ◌*◌, ◌/◌, ◌%◌, ◌<◌, ◌≤◌, Bool, true, false, cond, eqb, leb, ◌&&◌, List, [], ◌∷◌, ◌++◌, Option, Some, None, refl, sym, ap, subst, ◌∙◌, arith, Contains, option_map, ok_or, find, IfSome, option_and_then, slice_index_or, ◌==◌}
use Rattle.std.proofs.lemmas.Bool.Decides.{nat_tests}
use Rattle.chess_base.specs.{declared.man.Colour.TheVariants.Black, declared.man.Kind.Kind, declared.man.Move.Move, shared.Parts.optional, MoveList.promotions, MoveList.move_of, ties.MoveTexts.promotion_with_letter, ties.MoveTexts.promotion_of_text, ties.MoveTexts.move_of_text}
use Rattle.chess_base.specs.declared.man.Kind.TheVariants.{Pawn, Knight, Bishop, Rook, Queen, King}
use Rattle.chess_base.specs.Coordinates.{small_letter_text, coordinate, ParsesSquare, ParsesMove}
use Rattle.chess_base.specs.Letters.{letter_by, is_file_letter, is_rank_digit, square_text, square_with_letters}
use Rattle.chess_base.proofs.shared.Choices.{chosen, mapped}

-- ---- squares

-- two bytes that are read as a square are its name
pub square_named : (f r s : ℕ) → square_with_letters f r ≡ Some s → (f ∷ r ∷ [] ≡ square_text s) × (s < 64)
square_named f r s e =
    let h = chosen (is_file_letter f && is_rank_digit r) (Some (8 * (r - 49) + (f - 97))) s e in
    let f0 : 97 ≤ f = grind (arith, nat_tests, h.0) in
    let f1 : f ≤ 104 = grind (arith, nat_tests, h.0) in
    let r0 : 49 ≤ r = grind (arith, nat_tests, h.0) in
    let r1 : r ≤ 56 = grind (arith, nat_tests, h.0) in
    let is : 8 * (r - 49) + (f - 97) ≡ s = cc (h.1) in
    subst (λ t. (f ∷ r ∷ [] ≡ square_text t) × (t < 64)) is (named f0 f1 r0 r1, omega arith)
  where
    named : 97 ≤ f → f ≤ 104 → 49 ≤ r → r ≤ 56 → f ∷ r ∷ [] ≡ square_text (8 * (r - 49) + (f - 97))
    named f0 f1 r0 r1 =
        let file : f ≡ 97 + (8 * (r - 49) + (f - 97)) % 8 = omega arith in
        let rank : r ≡ 49 + (8 * (r - 49) + (f - 97)) / 8 = omega arith in
        ap (λ x. x ∷ r ∷ []) file ∙ ap (λ x. (97 + (8 * (r - 49) + (f - 97)) % 8) ∷ x ∷ []) rank

-- a square's name is read as the square
pub square_read : (s : ℕ) → s < 64 → square_with_letters (97 + s % 8) (49 + s / 8) ≡ Some s
square_read s h =
    let t0 : leb 97 (97 + s % 8) ≡ true = grind (arith, nat_tests) in
    let t1 : leb (97 + s % 8) 104 ≡ true = grind (arith, nat_tests) in
    let t2 : leb 49 (49 + s / 8) ≡ true = grind (arith, nat_tests) in
    let t3 : leb (49 + s / 8) 56 ≡ true = grind (arith, nat_tests) in
    let at : 8 * ((49 + s / 8) - 49) + ((97 + s % 8) - 97) ≡ s = omega arith in
    rw (t0, t1, t2, t3, at) refl

-- both together: what `ParsesSquare` says
pub parses_square : {E : Type 0} (text : List ℕ) (o : Option ℕ) (error : E) → IfSome o (λ s. text ≡ square_text s)
    → ((s : ℕ) → s < 64 → text ≡ square_text s → o ≡ Some s) → ParsesSquare text (ok_or o error)
parses_square text None error found only = λ s below is. let impossible = only s below is in cc
parses_square text (Some s) error found only = found

-- ---- promotions

-- the first kind in a list whose small letter is the byte c
abbrev small_from : List Kind → ℕ → Option Kind
small_from ks c = find (λ k. letter_by Black k == c) ks

-- a kind that is found so has that letter
small_found : (ks : List Kind) (c : ℕ) (k : Kind) → small_from ks c ≡ Some k → letter_by Black k ≡ c
small_found [] c k e = absurd cc
small_found (j ∷ ks) c k e = by_test (λ h. small_found ks c k h) (eqb (letter_by Black j) c) refl e
  where
    by_test : (small_from ks c ≡ Some k → letter_by Black k ≡ c) → (b : Bool) → eqb (letter_by Black j) c ≡ b
        → cond b (Some j) (small_from ks c) ≡ Some k → letter_by Black k ≡ c
    by_test later true t e = let same : j ≡ k = cc in let at : letter_by Black j ≡ c =
        grind (arith, nat_tests) in ap (letter_by Black) (sym same) ∙ at
    by_test later false t e = later e

-- no move's text names a king or a pawn
king_not_listed : (i : ℕ) → i < 5 → slice_index_or promotions i (Some King) ≢ Some King
king_not_listed zero h e = cc
king_not_listed (suc zero) h e = cc
king_not_listed (suc (suc zero)) h e = cc
king_not_listed (suc (suc (suc zero))) h e = cc
king_not_listed (suc (suc (suc (suc zero)))) h e = cc
king_not_listed (suc (suc (suc (suc (suc i))))) h e = omega arith

pawn_not_listed : (i : ℕ) → i < 5 → slice_index_or promotions i (Some Pawn) ≢ Some Pawn
pawn_not_listed zero h e = cc
pawn_not_listed (suc zero) h e = cc
pawn_not_listed (suc (suc zero)) h e = cc
pawn_not_listed (suc (suc (suc zero))) h e = cc
pawn_not_listed (suc (suc (suc (suc zero)))) h e = cc
pawn_not_listed (suc (suc (suc (suc (suc i))))) h e = omega arith

-- a promotion is read from its letter, none from the empty text
promotion_read : (o : Option Kind) → Contains promotions o → promotion_of_text (optional small_letter_text o) ≡ Some o
promotion_read None h = refl
promotion_read (Some Queen) h = refl
promotion_read (Some Rook) h = refl
promotion_read (Some Bishop) h = refl
promotion_read (Some Knight) h = refl
promotion_read (Some King) h = absurd (king_not_listed h.0 h.1 h.2)
promotion_read (Some Pawn) h = absurd (pawn_not_listed h.0 h.1 h.2)

-- a kind that is read from its letter is among the promotions
listed : (k : Kind) (c : ℕ) → letter_by Black k ≡ c → promotion_with_letter c ≡ Some k → Contains promotions (Some k)
listed Queen c at e = (1, omega arith, refl)
listed Rook c at e = (2, omega arith, refl)
listed Bishop c at e = (3, omega arith, refl)
listed Knight c at e = (4, omega arith, refl)
listed King c at e =
    let impossible : None ≡ Some King = subst (λ b. promotion_with_letter b ≡ Some King) (sym at) e in absurd cc
listed Pawn c at e =
    let impossible : None ≡ Some Pawn = subst (λ b. promotion_with_letter b ≡ Some Pawn) (sym at) e in absurd cc

-- a text that is read as a promotion is its letter, or empty if it is none
promotion_named : (text : List ℕ) (o : Option Kind) → promotion_of_text text ≡ Some o
    → (text ≡ optional small_letter_text o) × Contains promotions o
promotion_named [] o e =
    let none : None ≡ o = cc in
    subst (λ (p : Option Kind). ([] ≡ optional small_letter_text p) × Contains promotions p) none
    (refl, (0, omega arith, refl))
promotion_named (c ∷ []) o e =
    let m = mapped Some (promotion_with_letter c) o e in
    let at = small_found (Queen ∷ Rook ∷ Bishop ∷ Knight ∷ []) c m.0 m.1 in
    subst (λ (p : Option Kind). (c ∷ [] ≡ optional small_letter_text p) × Contains promotions p) m.2
    (ap (λ b. b ∷ []) (sym at), listed m.0 c at m.1)
promotion_named (c ∷ d ∷ cs) o e = absurd cc

-- ---- moves

-- a move's coordinate text is read as the move
move_read : (m : Move) → m.from < 64 → m.to < 64 → Contains promotions m.promotion
    → move_of_text (coordinate m) ≡ Some m
move_read m f t k = rw (square_read m.from f, square_read m.to t, promotion_read m.promotion k) refl

-- a text that is read as a move is its coordinate text, and names a promotion as moves do
move_named : (text : List ℕ) (m : Move) → move_of_text text ≡ Some m
    → (text ≡ coordinate m) × Contains promotions m.promotion
move_named [] m e = absurd cc
move_named (a ∷ []) m e = absurd cc
move_named (a ∷ b ∷ []) m e = absurd cc
move_named (a ∷ b ∷ c ∷ []) m e = absurd cc
move_named (a ∷ b ∷ c ∷ d ∷ rest) m e = by_from (square_with_letters a b) refl e
  where
    by_parts : (from to : ℕ) → square_with_letters a b ≡ Some from → square_with_letters c d ≡ Some to
        → option_map (move_of from to) (promotion_of_text rest) ≡ Some m
        → (a ∷ b ∷ c ∷ d ∷ rest ≡ coordinate m) × Contains promotions m.promotion
    by_parts from to at_from at_to e =
        let p = mapped (move_of from to) (promotion_of_text rest) m e in
        let x = (square_named a b from at_from).0 in
        let y = (square_named c d to at_to).0 in
        let z = promotion_named rest p.0 p.1 in
        subst (λ (n : Move). (a ∷ b ∷ c ∷ d ∷ rest ≡ coordinate n) × Contains promotions n.promotion) p.2 (
          ap (λ xs. xs ++ (c ∷ d ∷ rest)) x ∙ ap (λ xs. square_text from ++ (xs ++ rest)) y
              ∙ ap (λ xs. square_text from ++ (square_text to ++ xs)) z.0,
          z.1,
        )

    by_to : (from : ℕ) → square_with_letters a b ≡ Some from → (o : Option ℕ) → square_with_letters c d ≡ o
        → option_and_then (λ to. option_map (move_of from to) (promotion_of_text rest)) o ≡ Some m
        → (a ∷ b ∷ c ∷ d ∷ rest ≡ coordinate m) × Contains promotions m.promotion
    by_to from at_from None at_to e = absurd cc
    by_to from at_from (Some to) at_to e = by_parts from to at_from at_to e

    by_from : (o : Option ℕ) → square_with_letters a b ≡ o
        → option_and_then (λ from. option_and_then (λ to. option_map (move_of from to) (promotion_of_text rest))
        (square_with_letters c d)) o ≡ Some m
        → (a ∷ b ∷ c ∷ d ∷ rest ≡ coordinate m) × Contains promotions m.promotion
    by_from None at_from e = absurd cc
    by_from (Some from) at_from e = by_to from at_from (square_with_letters c d) refl e

-- both together: what `ParsesMove` says
pub parses_move : {E : Type 0} (text : List ℕ) (error : E) → ParsesMove text (ok_or (move_of_text text) error)
parses_move text error = by_result (move_of_text text) refl
  where
    by_result : (o : Option Move) → move_of_text text ≡ o → ParsesMove text (ok_or o error)
    by_result None is = λ m f t k same. let impossible = sym is ∙ ap move_of_text same ∙ move_read m f t k in cc
    by_result (Some m) is = move_named text m is
