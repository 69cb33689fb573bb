-- Neither the text of parts nor a text of castling has marks to drop (bare_parts, bare_castling), since its last byte
-- is a digit or a letter. And of any text without marks, followed by the mark for check or mate if it is due, dropping
-- marks leaves the text (bare_marked): by cases of the mark.
use Rattle.std.proofs.Common.{◌≡◌, ℕ, ◌+◌, ◌<◌, Bool, true, false, List, [], ◌∷◌, ◌++◌, length, Option, Some, None, refl, sym, ap, ◌∙◌, arith, append_assoc, append-nil, ◌==◌, if◌then◌else◌}
use Rattle.std.proofs.lemmas.Bool.Decides.{nat_tests}
use Rattle.chess_base.specs.{declared.man.CastlingSide.CastlingSide, declared.man.CastlingSide.TheVariants.KingSide, declared.man.CastlingSide.TheVariants.QueenSide, declared.man.Kind.Kind, declared.setup.Setup.Setup, Attacks.is_in_check, shared.Parts.optional, Letters.white_letter, Letters.square_text, MoveList.moves, Squares.file, Squares.rank, Options.list_if}
use Rattle.chess_text.specs.{declared.parts.Parts.Parts, declared.parts.Promotion.Promotion, San.castling_text, San.check_mark}
use Rattle.chess_text.specs.Parts.{is_mark, unmarked, kind_text, file_text, rank_text}
use Rattle.chess_text.specs.shared.Fitting.{promotion_letter, promotion_text, end_text, parts_text}
use Rattle.chess_text.proofs.Marks.{unmarked-solid, unmarked-marked}

-- the text ends with a byte that is no mark
record IsSolid (text : List ℕ) : Type 0 where
  front : List ℕ
  last : ℕ
  split : text ≡ front ++ last ∷ []
  plain : is_mark last ≡ false

solid-append : (xs text : List ℕ) → IsSolid text → IsSolid (xs ++ text)
solid-append xs text h = record {
  front = xs ++ h.front;
  last = h.last;
  split = ap (λ v. xs ++ v) h.split ∙ sym (append_assoc xs h.front (h.last ∷ []));
  plain = h.plain;
}

-- a text that ends with a byte that is no mark has no marks to drop
bare : (text : List ℕ) → IsSolid text → unmarked text ≡ text
bare text h = ap unmarked h.split ∙ unmarked-solid h.front h.last h.plain ∙ sym h.split

digit_no_mark : (s : ℕ) → s < 64 → is_mark (49 + rank s) ≡ false
digit_no_mark s h = grind (arith, nat_tests)

letter_no_mark : (small : Bool) (k : Kind) → is_mark (if small then white_letter k + 32 else white_letter k) ≡ false
letter_no_mark small k = grind arith

-- a square with its promotion or none ends with the square's digit or the promotion's letter
solid_end : (s : ℕ) (o : Option Promotion) → s < 64 → IsSolid (square_text s ++ optional promotion_text o)
solid_end s None h = record { front = (97 + file s) ∷ []; last = 49 + rank s; split = refl; plain = digit_no_mark s h }
solid_end s (Some p) h =
    solid-append (square_text s) (promotion_text p)
    (record {
      front = list_if p.equals (61 ∷ []);
      last = promotion_letter p;
      split = refl;
      plain = letter_no_mark p.small p.kind;
    })

-- the text of parts has no marks to drop
pub bare_parts : (q : Parts) → q.end.to < 64 → unmarked (parts_text q) ≡ parts_text q
bare_parts q h =
    bare (parts_text q)
    (solid-append (optional kind_text q.letter) _
    (solid-append (optional file_text q.file) _
    (solid-append (optional rank_text q.rank) _
    (solid-append (list_if q.takes (120 ∷ [])) (end_text q.end) (solid_end q.end.to q.end.promotion h)))))

pub bare_castling : (w : CastlingSide) → unmarked (castling_text w) ≡ castling_text w
bare_castling KingSide = unmarked-solid (79 ∷ 45 ∷ []) 79 refl
bare_castling QueenSide = unmarked-solid (79 ∷ 45 ∷ 79 ∷ 45 ∷ []) 79 refl

-- dropping the marks of a text with one mark after it (# is 35, + is 43), or none, gives the text back if it had none
-- itself
marked_by : (text : List ℕ) (a b : Bool) → unmarked text ≡ text
    → unmarked (text ++ list_if a (if b then 35 ∷ [] else 43 ∷ [])) ≡ text
marked_by text false b e = ap unmarked (append-nil text) ∙ e
marked_by text true true e = unmarked-marked text 35 refl ∙ e
marked_by text true false e = unmarked-marked text 43 refl ∙ e

pub bare_marked : (p : Setup) (text : List ℕ) → unmarked text ≡ text → unmarked (text ++ check_mark p) ≡ text
unfolding check_mark
bare_marked p text e = marked_by text (is_in_check p.men p.side) (length (moves p) == 0) e
