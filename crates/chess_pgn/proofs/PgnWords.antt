-- The kind of a word (an outcome, number, marks or move) is decided by its text; tests that the code makes first give
-- the same kind: all digits are a number (number_kind), marks are marks (marks_by_kind), and a word that begins with
-- `A` or a greater byte may be a move (begins_as_move_kind).
use Rattle.std.proofs.Common.{◌≡◌, ℕ, ◌≤◌, Bool, true, false, cond, ◌&&◌, ◌||◌, eqb, List, [], ◌∷◌, length, Option, None, refl, sym, ap, ◌-◌, ◌∙◌, inl, inr, arith, bytes_eq, nat_le, not, if◌then◌else◌, Some}
use Rattle.std.proofs.{lemmas.Bool.and_parts, lemmas.Bool.or_cases, lemmas.Bool.Decides.nat_tests, lemmas.Slice.Eq.bytes_eq-Decides}
use Rattle.std.specs.{List.list_all, Option.option_map_or}
use Rattle.chess_game.specs.{Results.outcome_text, declared.results.Outcome.Outcome}
use Rattle.chess_game.specs.declared.results.Outcome.TheVariants.{WhiteWins, BlackWins, Draw, Unfinished}
use Rattle.chess_pgn.specs.{declared.word_kind.WordKind.WordKind, shared.Begins.begins_as_move, laws.WordKinds.word_kind}
use Rattle.pgn_tokens.specs.Marks.{is_marks}
use Rattle.chess_pgn.specs.declared.word_kind.WordKind.TheVariants.{End, Number, Marks, Move}
use Rattle.byte_devices.specs.Bytes.{is_digit}
use Rattle.pgn_writer.specs.Outcomes.{outcome_of}

-- a word's kind, if this is the outcome that it names
abbrev kind_by : List ℕ → Option Outcome → WordKind
kind_by word o = option_map_or End o
    (if list_all is_digit word then Number
    else (if is_marks word then Marks else Move))

-- an outcome's text that fails a test is not a text that passes it
other_text : (p : List ℕ → Bool) (text word : List ℕ) → p text ≡ false → p word ≡ true → bytes_eq text word ≡ false
other_text p text word fails passes = by_test (bytes_eq text word) refl
  where
    by_test : (t : Bool) → bytes_eq text word ≡ t → t ≡ false
    by_test true e = let same : p text ≡ p word = ap p ((bytes_eq-Decides text word).0 e) in absurd (cc)
    by_test false e = refl

-- if no outcome's text passes a test and the word does, it names no outcome
no_outcome : (p : List ℕ → Bool) (word : List ℕ) → ((o : Outcome) → p (outcome_text o) ≡ false) → p word ≡ true
    → outcome_of word ≡ None
no_outcome p word none h =
    let a = other_text p (outcome_text WhiteWins) word (none WhiteWins) h in
    let b = other_text p (outcome_text BlackWins) word (none BlackWins) h in
    let c = other_text p (outcome_text Draw) word (none Draw) h in
    let d = other_text p (outcome_text Unfinished) word (none Unfinished) h in
    rw (a, b, c, d) refl

-- no outcome's text is all digits, or marks (no_marks)
no_digits : (o : Outcome) → list_all is_digit (outcome_text o) ≡ false
no_digits WhiteWins = refl
no_digits BlackWins = refl
no_digits Draw = refl
no_digits Unfinished = refl

pub number_kind : (word : List ℕ) → list_all is_digit word ≡ true → word_kind word ≡ Number
number_kind word h = ap (kind_by word) (no_outcome (list_all is_digit) word no_digits h) ∙ rw h refl

-- ---- marks

-- whether a word of this kind is marks
abbrev pub are_marks : WordKind → Bool
are_marks Marks = true
are_marks _ = false

no_marks : (o : Outcome) → is_marks (outcome_text o) ≡ false
no_marks WhiteWins = refl
no_marks BlackWins = refl
no_marks Draw = refl
no_marks Unfinished = refl

marks_kind : (word : List ℕ) → is_marks word ≡ true → word_kind word ≡ Marks
marks_kind [] h = absurd (cc)
marks_kind (c ∷ cs) h =
    let all : list_all (λ d. eqb d 33 || eqb d 63) (c ∷ cs) ≡ true =
    (and_parts (not (eqb (length (c ∷ cs)) 0)) (list_all (λ d. eqb d 33 || eqb d 63) (c ∷ cs)) h).1 in
    let first : (eqb c 33 || eqb c 63) ≡ true =
    (and_parts (eqb c 33 || eqb c 63) (list_all (λ d. eqb d 33 || eqb d 63) cs) all).0 in
    let digit : is_digit c ≡ false = elim (or_cases (eqb c 33) (eqb c 63) first) [
      | inl e ↦ (let is : c ≡ 33 = grind (arith, nat_tests) in ap is_digit is)
      | inr e ↦ (let is : c ≡ 63 = grind (arith, nat_tests) in ap is_digit is)
    ] in
    ap (kind_by (c ∷ cs)) (no_outcome is_marks (c ∷ cs) no_marks h)
    ∙ ap (λ n. cond (n && list_all is_digit cs) Number (cond (is_marks (c ∷ cs)) Marks Move)) digit
    ∙ ap (λ m. cond m Marks Move) h

pub marks_by_kind : (word : List ℕ) → is_marks word ≡ are_marks (word_kind word)
marks_by_kind word = by_test (is_marks word) refl
  where
    none : (o : Option Outcome) (number : Bool) → are_marks (option_map_or End o (cond number Number Move)) ≡ false
    none (Some o) number = refl
    none None true = refl
    none None false = refl

    by_test : (b : Bool) → is_marks word ≡ b → is_marks word ≡ are_marks (word_kind word)
    by_test true e = e ∙ sym (ap are_marks (marks_kind word e))
    by_test false e = e ∙ sym (ap (λ m. are_marks (option_map_or End (outcome_of word)
        (cond (list_all is_digit word) Number (cond m Marks Move)))) e
        ∙ none (outcome_of word) (list_all is_digit word))

-- ---- words that begin with `A` or a byte after it

from_a_no_outcome : (o : Outcome) → begins_as_move (outcome_text o) ≡ false
from_a_no_outcome WhiteWins = refl
from_a_no_outcome BlackWins = refl
from_a_no_outcome Draw = refl
from_a_no_outcome Unfinished = refl

and_false : (b : Bool) → (b && false) ≡ false
and_false true = refl
and_false false = refl

pub begins_as_move_kind : (word : List ℕ) → begins_as_move word ≡ true → word_kind word ≡ Move
begins_as_move_kind [] h = absurd (cc)
begins_as_move_kind (c ∷ cs) h =
    let first : 65 ≤ c = grind (arith, nat_tests) in
    let digit : nat_le c 57 ≡ false = grind (arith, nat_tests) in
    let stroke : eqb c 33 ≡ false = grind (arith, nat_tests) in
    let query : eqb c 63 ≡ false = grind (arith, nat_tests) in
    let low : nat_le 48 c ≡ true = grind (arith, nat_tests) in
    let number : list_all is_digit (c ∷ cs) ≡ false = rw (low, digit) refl in
    let mark : list_all (λ d. eqb d 33 || eqb d 63) (c ∷ cs) ≡ false = rw (stroke, query) refl in
    let marks : is_marks (c ∷ cs) ≡ false =
    ap (λ b. not (eqb (length (c ∷ cs)) 0) && b) mark ∙ and_false (not (eqb (length (c ∷ cs)) 0)) in
    ap (kind_by (c ∷ cs)) (no_outcome begins_as_move (c ∷ cs) from_a_no_outcome h)
    ∙ ap (λ n. cond n Number (cond (is_marks (c ∷ cs)) Marks Move)) number ∙ ap (λ m. cond m Marks Move) marks
