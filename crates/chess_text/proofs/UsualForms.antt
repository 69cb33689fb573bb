-- A text of a usual shape (`e4`, `Nf3`, `exd5`, `Nxd5`, `Nbd2`, perhaps with one mark: one_mark) is the text of the
-- parts that `usual_at` reads from it in one step; so `parts_at`, which goes part by part, reads the same, and the form
-- is these parts (usual_form), which say the kind of piece (usual_one_kind). By cases of the text's length and bytes.
use Rattle.std.proofs.Common.{◌≡◌, ℕ, suc, ◌+◌, ◌-◌, ◌*◌, ◌<◌, ◌≤◌, Bool, true, false, cond, eqb, List, [], ◌∷◌, ◌++◌, length, take, get_or, Option, Some, None, refl, sym, ap, subst, ◌∙◌, arith, IfSome, option_map}
use Rattle.std.proofs.{Math.Seq.take-suc, Math.Seq.take-length, lemmas.Bool.Decides.nat_tests}
use Rattle.chess_base.specs.{shared.Parts.optional, declared.man.CastlingSide.TheVariants.KingSide, declared.man.CastlingSide.TheVariants.QueenSide, declared.man.Kind.Kind, Options.list_if, Letters.is_file_letter}
use Rattle.chess_base.proofs.shared.Choices.{chosen}
use Rattle.chess_text.specs.{declared.form.Form.TheVariants.Piece, declared.parts.Parts.Parts, laws.Laws.HasLetter, laws.Laws.AreParts, shared.Fitting.parts_text, shared.Fitting.is_form, shared.Reader.kind_from, shared.Reader.lettered_kinds, shared.Reader.parts_at}
use Rattle.chess_text.specs.Parts.{is_mark, unmarked, kind_text, file_text}
use Rattle.chess_text.specs.ties.Forms.{castling_named, form_of_parts, form_at, form_of, one_kind}
use Rattle.chess_text.specs.ties.Usual.{names_square, parts_to, lettered_to, four_at, usual_at, usual_kind}
use Rattle.chess_text.proofs.{OneMoveFits.no_name, Marks.unmarked-marked, Solid.bare_parts}
use Rattle.chess_text.proofs.Grammar.{found, lettered_is, denoted-end, parts-denoted}

-- ---- one mark

-- a text without its last byte, which is a mark, has the same text without marks
pub one_mark : (text : List ℕ) → 1 ≤ length text → is_mark (get_or text (length text - 1) 0) ≡ true
    → unmarked (take (length text - 1) text) ≡ unmarked text
one_mark text some mark =
    let all : length text ≡ suc (length text - 1) = omega (arith, some) in
    let whole : text ≡ take (length text - 1) text ++ get_or text (length text - 1) 0 ∷ [] =
    sym (take-length text) ∙ ap (λ m. take m text) all ∙ take-suc text (length text - 1) 0 (omega (arith, some)) in
    sym (ap unmarked whole ∙ unmarked-marked (take (length text - 1) text) (get_or text (length text - 1) 0) mark)

-- ---- the text of the parts

-- the text is that of these parts, which can be those of a move's text and say which kind of piece is meant
record IsUsual (text : List ℕ) (q : Parts) : Type 0 where
  text_is : text ≡ parts_text q
  are_parts : AreParts q
  form_is : is_form q ≡ true
  kind_is : one_kind q ≡ Some (usual_kind q.letter)

-- without a start rank the letter alone says which kind of piece is meant
kind_told : (letter : Option Kind) (file : Option ℕ) (takes : Bool) (f r : ℕ) → IfSome letter HasLetter
    → one_kind (parts_to letter file takes f r) ≡ Some (usual_kind letter)
kind_told letter file takes f r h = grind (arith, h)

-- a square is named, after these parts
to_square : (letter : Option Kind) (file : Option ℕ) (takes : Bool) (f r : ℕ) → names_square f r ≡ true
    → IfSome letter HasLetter → IfSome file (λ n. n < 8) → is_form (parts_to letter file takes f r) ≡ true
    → IsUsual (optional kind_text letter ++ (optional file_text file ++ (list_if takes (120 ∷ []) ++ (f ∷ r ∷ []))))
    (parts_to letter file takes f r)
to_square letter file takes f r square lettered named form =
    let end = denoted-end (f ∷ r ∷ []) (record { to = 8 * (r - 49) + (f - 97); promotion = None }) (rw square refl) in
    record {
      text_is = ap
          (λ xs. optional kind_text letter ++ (optional file_text file ++ (list_if takes (120 ∷ []) ++ xs))) end.0;
      are_parts = record { letter_is = lettered; file_is = named; rank_is = tt; to_is = end.1; promotion_is = tt };
      form_is = form;
      kind_is = kind_told letter file takes f r lettered;
    }

-- the same, after a piece's letter
lettered_square : (c : ℕ) (file : Option ℕ) (takes : Bool) (f r : ℕ) (q : Parts) → names_square f r ≡ true
    → lettered_to c file takes f r ≡ Some q → IfSome file (λ n. n < 8)
    → IsUsual (c ∷ (optional file_text file ++ (list_if takes (120 ∷ []) ++ (f ∷ r ∷ [])))) q
unfolding is_form
lettered_square c file takes f r q square e named = by_kind (kind_from lettered_kinds c) refl e
  where
    by_kind : (o : Option Kind) → kind_from lettered_kinds c ≡ o
        → option_map (λ k. parts_to (Some k) file takes f r) o ≡ Some q
        → IsUsual (c ∷ (optional file_text file ++ (list_if takes (120 ∷ []) ++ (f ∷ r ∷ [])))) q
    by_kind None is h = absurd cc
    by_kind (Some k) is h =
        let letter = found lettered_kinds c k is in
        let same : parts_to (Some k) file takes f r ≡ q = cc in
        subst (IsUsual (c ∷ (optional file_text file ++ (list_if takes (120 ∷ []) ++ (f ∷ r ∷ []))))) same
        (subst (λ d. IsUsual (d ∷ (optional file_text file ++ (list_if takes (120 ∷ []) ++ (f ∷ r ∷ []))))
        (parts_to (Some k) file takes f r)) letter (to_square (Some k) file takes f r square
        (lettered_is k (ap (kind_from lettered_kinds) letter ∙ is)) named refl))

-- c is a file's letter, a to h
record IsFile (c : ℕ) : Type 0 where
  named : c - 97 < 8
  letter : 97 + (c - 97) ≡ c

file_from : (c : ℕ) → is_file_letter c ≡ true → IsFile c
file_from c h =
    let low : 97 ≤ c = grind (arith, nat_tests, h) in
    let high : c ≤ 104 = grind (arith, nat_tests, h) in
    record { named = omega arith; letter = omega arith }

-- the parts that are read at once from four bytes, the last two of them a square, are those of the text
four : (c d f r : ℕ) (q : Parts) → names_square f r ≡ true → four_at c d f r ≡ Some q → IsUsual (c ∷ d ∷ f ∷ r ∷ []) q
unfolding is_form
four c d f r q square = by_x (eqb d 120) refl
  where
    by_pawn : (t : Bool) → is_file_letter c ≡ t
        → cond t (Some (parts_to None (Some (c - 97)) true f r)) (lettered_to c None true f r) ≡ Some q
        → IsUsual (c ∷ 120 ∷ f ∷ r ∷ []) q
    by_pawn true is e =
        let file = file_from c is in
        let same : parts_to None (Some (c - 97)) true f r ≡ q = cc in
        subst (IsUsual (c ∷ 120 ∷ f ∷ r ∷ [])) same
        (subst (λ b. IsUsual (b ∷ 120 ∷ f ∷ r ∷ []) (parts_to None (Some (c - 97)) true f r)) file.letter
        (to_square None (Some (c - 97)) true f r square tt file.named refl))
    by_pawn false is e = lettered_square c None true f r q square e tt

    by_file : (t : Bool) → is_file_letter d ≡ t
        → cond t (lettered_to c (Some (d - 97)) false f r) None ≡ Some q → IsUsual (c ∷ d ∷ f ∷ r ∷ []) q
    by_file true is e =
        let file = file_from d is in
        subst (λ x. IsUsual (c ∷ x ∷ f ∷ r ∷ []) q) file.letter
        (lettered_square c (Some (d - 97)) false f r q square e file.named)
    by_file false is e = absurd cc

    by_x : (t : Bool) → eqb d 120 ≡ t
        → cond t (cond (is_file_letter c) (Some (parts_to None (Some (c - 97)) true f r)) (lettered_to c None true f r))
        (cond (is_file_letter d) (lettered_to c (Some (d - 97)) false f r) None) ≡ Some q
        → IsUsual (c ∷ d ∷ f ∷ r ∷ []) q
    by_x true is e =
        let x : 120 ≡ d = grind (arith, nat_tests, is) in
        subst (λ b. IsUsual (c ∷ b ∷ f ∷ r ∷ []) q) x (by_pawn (is_file_letter c) refl e)
    by_x false is e = by_file (is_file_letter d) refl e

-- the parts that are read at once from a text of a usual shape are those of the text
usual : (text : List ℕ) (q : Parts) → usual_at text ≡ Some q → IsUsual text q
unfolding is_form
usual [] q e = absurd cc
usual (f ∷ []) q e = absurd cc
usual (f ∷ r ∷ []) q e =
    let h = chosen (names_square f r) (Some (parts_to None None false f r)) q e in
    let same : parts_to None None false f r ≡ q = cc (h.1) in
    subst (IsUsual (f ∷ r ∷ [])) same (to_square None None false f r h.0 tt tt refl)
usual (c ∷ f ∷ r ∷ []) q e =
    let h = chosen (names_square f r) (lettered_to c None false f r) q e in
    lettered_square c None false f r q h.0 h.1 tt
usual (c ∷ d ∷ f ∷ r ∷ []) q e =
    let h = chosen (names_square f r) (four_at c d f r) q e in
    four c d f r q h.0 h.1
usual (c ∷ d ∷ x ∷ f ∷ r ∷ rest) q e = absurd cc

-- ---- what the text is read as

-- a text with these parts when one mark is dropped, if there is one, is read as the form of these parts
pub usual_form : (text bare : List ℕ) (q : Parts) → unmarked bare ≡ unmarked text → Some q ≡ usual_at bare
    → Some (Piece q) ≡ form_of text
unfolding form_of
usual_form text bare q same e =
    let u = usual bare q (sym e) in
    let is : unmarked text ≡ bare = sym same ∙ ap unmarked u.text_is ∙ bare_parts q u.are_parts.to_is ∙ sym u.text_is in
    let at : parts_at bare ≡ Some q = ap parts_at u.text_is ∙ parts-denoted q u.are_parts in
    let king = no_name bare q at KingSide in
    let queen = no_name bare q at QueenSide in
    let none : castling_named bare ≡ None = rw (king, queen) refl in
    sym (ap (λ xs. form_at (castling_named xs) xs) is ∙ ap (λ o. form_at o bare) none ∙ ap form_of_parts at
    ∙ ap (λ b. cond b (Some (Piece q)) None) u.form_is)

-- the parts of a text of a usual shape say which kind of piece is meant
pub usual_one_kind : (text : List ℕ) (q : Parts) → Some q ≡ usual_at text → one_kind q ≡ Some (usual_kind q.letter)
usual_one_kind text q e = (usual text q (sym e)).kind_is
