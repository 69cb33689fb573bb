-- A text denotes a described move exactly if it names the castling that the move is, or is the text of parts that fit
-- the move (denoted_by_text); it has a move's shape exactly if it names castling or is the text of parts that can be a
-- move's (shaped_by_text). Both join lemmas of chess_text: of Denotations (`denotes_described`), of ShapeByForm
-- (`has_form`) and of Grammar (the parts of a text).
use Rattle.std.proofs.Common.{◌≡◌, ℕ, inl, inr, IsTrue, ◌↔◌, true, ◌||◌, List, sym, ◌∙◌}
use Rattle.std.proofs.lemmas.Bool.{or_cases}
use Rattle.chess_base.specs.{declared.man.CastlingSide.CastlingSide, declared.man.CastlingSide.TheVariants.KingSide, declared.man.CastlingSide.TheVariants.QueenSide}
use Rattle.chess_text.specs.{declared.described.Described.Described, Parts.unmarked, Moves.denotes_described, Moves.shape, laws.CastlingTexts.is_castling_text, laws.Laws.IsDenoted}
use Rattle.chess_text.specs.shared.{Fitting.has_parts, Fitting.is_form, Fitting.has_form, Reader.parts_at}
use Rattle.chess_text.proofs.shared.Parts.{passing, is_denoted_so, denoted_so, has-read, denoted-parts, shape_parts, castling_has, shape_is}
use Rattle.chess_text_laws.specs.Laws.{IsShaped}

pub denoted_by_text : (text : List ℕ) (d : Described) → IsTrue (denotes_described text d) ↔ IsDenoted text d
denoted_by_text text d = (is_denoted_so text d, denoted_so text d)

-- a text of castling names one of the two sides
either_side : (text : List ℕ) → (is_castling_text text KingSide || is_castling_text text QueenSide) ≡ true
    → (w : CastlingSide) × (is_castling_text text w ≡ true)
either_side text e =
    elim (or_cases (is_castling_text text KingSide) (is_castling_text text QueenSide) e) [
      | inl h ↦ (KingSide, h)
      | inr h ↦ (QueenSide, h)
    ]

-- a text that passes the reader's test `has_form` names castling or is the text of parts that can be a move's
is_formed_so : (text : List ℕ) → has_form text ≡ true → IsShaped text
unfolding has_form
is_formed_so text e =
    elim (or_cases (is_castling_text text KingSide || is_castling_text text QueenSide) (has_parts is_form text) e) [
      | inl h ↦ inl (either_side text h)
      | inr h ↦
          let of = passing is_form (parts_at (unmarked text)) (sym (has-read is_form text) ∙ h) in
          let is = denoted-parts (unmarked text) of.0 of.1 in
          inr (of.0, is.0, is.1, of.2)
    ]

-- a text that names castling or is the text of parts that can be a move's has a move's shape
shaped_so : (text : List ℕ) → IsShaped text → shape text ≡ true
shaped_so text (inl h) = shape_is text ∙ castling_has text h.0 h.1
shaped_so text (inr h) = shape_parts text h.0 h.2 h.1 h.3

pub shaped_by_text : (text : List ℕ) → IsTrue (shape text) ↔ IsShaped text
shaped_by_text text = (λ e. is_formed_so text (sym (shape_is text) ∙ e), shaped_so text)
