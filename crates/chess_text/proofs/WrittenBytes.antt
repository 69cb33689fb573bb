-- The bytes of SAN: the text of possible parts and that of castling have only bytes that SAN may have (parts_bytes,
-- castling_bytes); and a text of two to six such bytes, the first a letter (IsWord, as that of castling is:
-- castling_word), has two to seven with the mark for check or mate (marked_word). Byte by byte, and by cases of the
-- mark.
use Rattle.std.proofs.Common.{◌≡◌, ℕ, ◌+◌, ◌<◌, ◌≤◌, Bool, true, false, List, [], ◌∷◌, ◌++◌, length, Option, Some, None, refl, arith, length-append, ◌==◌, IfSome, if◌then◌else◌}
use Rattle.std.proofs.{lemmas.List.Folds.list_all-append, lemmas.Bool.Decides.nat_tests}
use Rattle.std.specs.List.{list_all}
use Rattle.chess_base.specs.{declared.man.CastlingSide.CastlingSide, declared.man.CastlingSide.TheVariants.KingSide, declared.man.CastlingSide.TheVariants.QueenSide, declared.man.Kind.Kind, declared.setup.Setup.Setup, Attacks.is_in_check, shared.Parts.optional, Letters.white_letter, Letters.square_text, MoveList.moves, Squares.file, Squares.rank, Options.list_if}
use Rattle.byte_devices.specs.Bytes.{is_letter}
use Rattle.chess_text.specs.{declared.parts.Parts.Parts, declared.parts.Promotion.Promotion, laws.Laws.is_san_byte, laws.Laws.begins_with_letter, laws.Laws.AreParts, Parts.kind_text, Parts.file_text, Parts.rank_text, shared.Fitting.promotion_letter, shared.Fitting.promotion_text, shared.Fitting.parts_text, San.castling_text, San.check_mark}

-- a text before its mark (+ or #): two to six bytes, the first a letter
pub record IsWord (text : List ℕ) : Type 0 where
  pub short : 2 ≤ length text
  pub long : length text ≤ 6
  pub letter : begins_with_letter text ≡ true

-- with its mark, if it has one: two to seven bytes of SAN, the first a letter
pub record Word (text : List ℕ) : Type 0 where
  pub short : 2 ≤ length text
  pub long : length text ≤ 7
  pub bytes : list_all (λ c. is_san_byte c) text ≡ true
  pub letter : begins_with_letter text ≡ true

pub file_letter : (s : ℕ) → is_letter (97 + file s) ≡ true
file_letter s = grind (arith, nat_tests)

pub man_letter : (k : Kind) → is_letter (white_letter k) ≡ true
man_letter k = grind arith

digit_byte : (n : ℕ) → n < 8 → is_san_byte (49 + n) ≡ true
digit_byte n h = grind (arith, nat_tests)

-- ---- the bytes of parts

-- each byte is one that SAN may have: a letter, a digit, or one of + # = -
abbrev AreBytes : List ℕ → Type 0
AreBytes text = list_all (λ c. is_san_byte c) text ≡ true

bytes-append : (xs ys : List ℕ) → AreBytes xs → AreBytes ys → AreBytes (xs ++ ys)
bytes-append xs ys h k = rw (list_all-append, h) k

kind_bytes : (o : Option Kind) → AreBytes (optional kind_text o)
kind_bytes None = refl
kind_bytes (Some k) = rw (man_letter k) refl

file_bytes : (o : Option ℕ) → IfSome o (λ f. f < 8) → AreBytes (optional file_text o)
file_bytes None h = refl
file_bytes (Some f) h = grind (arith, nat_tests)

rank_bytes : (o : Option ℕ) → IfSome o (λ r. r < 8) → AreBytes (optional rank_text o)
rank_bytes None h = refl
rank_bytes (Some r) h = rw (digit_byte r h) refl

takes_bytes : (b : Bool) → AreBytes (list_if b (120 ∷ []))
takes_bytes true = refl
takes_bytes false = refl

equals_bytes : (b : Bool) → AreBytes (list_if b (61 ∷ []))
equals_bytes true = refl
equals_bytes false = refl

letter_bytes : (small : Bool) (k : Kind) → AreBytes ((if small then white_letter k + 32 else white_letter k) ∷ [])
letter_bytes small k = grind arith

promotion_bytes : (o : Option Promotion) → AreBytes (optional promotion_text o)
promotion_bytes None = refl
promotion_bytes (Some p) = bytes-append (list_if p.equals (61 ∷ [])) (promotion_letter p ∷ []) (equals_bytes p.equals)
    (letter_bytes p.small p.kind)

square_bytes : (s : ℕ) → s < 64 → AreBytes (square_text s)
square_bytes s h = rw (file_letter s, digit_byte (rank s) (omega arith)) refl

pub parts_bytes : (q : Parts) → AreParts q → AreBytes (parts_text q)
parts_bytes q h =
    bytes-append (optional kind_text q.letter) _ (kind_bytes q.letter)
    (bytes-append (optional file_text q.file) _ (file_bytes q.file h.file_is)
    (bytes-append (optional rank_text q.rank) _ (rank_bytes q.rank h.rank_is)
    (bytes-append (list_if q.takes (120 ∷ [])) _ (takes_bytes q.takes)
    (bytes-append (square_text q.end.to) (optional promotion_text q.end.promotion) (square_bytes q.end.to h.to_is)
    (promotion_bytes q.end.promotion)))))

-- ---- castling, and the mark

pub castling_word : (w : CastlingSide) → IsWord (castling_text w)
castling_word KingSide = record { short = omega arith; long = omega arith; letter = refl }
castling_word QueenSide = record { short = omega arith; long = omega arith; letter = refl }

pub castling_bytes : (w : CastlingSide) → AreBytes (castling_text w)
castling_bytes KingSide = refl
castling_bytes QueenSide = refl

begins-append : (xs ys : List ℕ) → begins_with_letter xs ≡ true → begins_with_letter (xs ++ ys) ≡ true
begins-append [] ys e = absurd cc
begins-append (x ∷ xs) ys e = e

-- a word with at most one byte of SAN after it is a word with its mark
with_mark : (text mark : List ℕ) → length mark ≤ 1 → AreBytes mark → IsWord text → AreBytes text → Word (text ++ mark)
with_mark text mark few all h k =
    let len = length-append text mark in
    let a = h.short in
    let b = h.long in
    record {
      short = omega arith;
      long = omega arith;
      bytes = bytes-append text mark k all;
      letter = begins-append text mark h.letter;
    }

-- with the mark of `check_mark`: none, or # (35) for mate, or + (43) for check
marked_by : (text : List ℕ) (a b : Bool) → IsWord text → AreBytes text
    → Word (text ++ list_if a (if b then 35 ∷ [] else 43 ∷ []))
marked_by text false b h k = with_mark text [] (omega arith) refl h k
marked_by text true true h k = with_mark text (35 ∷ []) (omega arith) refl h k
marked_by text true false h k = with_mark text (43 ∷ []) (omega arith) refl h k

pub marked_word : (p : Setup) (bare text : List ℕ) → IsWord bare → AreBytes bare → text ≡ bare ++ check_mark p
    → Word text
unfolding check_mark
marked_word p bare text h k e = rw e (marked_by bare (is_in_check p.men p.side) (length (moves p) == 0) h k)
