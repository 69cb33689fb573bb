-- Each piece of a text but perhaps the last ends with `\n` or `\r` (cut_ends): the lines of the text do (lines_end),
-- and a piece ends with its last line (pieces_end, by induction on the lines).
use Rattle.std.proofs.Common.{◌≡◌, ℕ, Bool, true, false, List, [], ◌∷◌, ◌++◌, refl, sym, ap, subst, ◌∙◌, inl, inr, ◌⊎◌, append_assoc, append-nil, if◌then◌else◌}
use Rattle.std.specs.List.{onto_first, concat}
use Rattle.pgn_pieces.specs.{Pieces.lines_of, Pieces.begins_piece, Pieces.cut, Places.breaks_line, shared.Cutting.cut_lines, shared.Cutting.piece_of}
use Rattle.pgn_pieces.proofs.CutLines.{concat_more, first_begins, cut_is}

-- texts of which each but perhaps the last ends with a byte that ends a line
pub data AreLines : List (List ℕ) → Type 0 where
  no_texts : AreLines []
  last_text : (text : List ℕ) → AreLines (text ∷ [])
  next_text : (front : List ℕ) (end : ℕ) {texts : List (List ℕ)} → breaks_line end ≡ true → AreLines texts
      → AreLines ((front ++ end ∷ []) ∷ texts)

lines_end : (text : List ℕ) → AreLines (lines_of text)
lines_end [] = no_texts
lines_end (c ∷ cs) = by_test (breaks_line c) refl (lines_end cs)
  where
    onto : {lines : List (List ℕ)} → AreLines lines → AreLines (onto_first c lines)
    onto no_texts = last_text (c ∷ [])
    onto (last_text text) = last_text (c ∷ text)
    onto (next_text front end ends rest) = next_text (c ∷ front) end ends rest

    by_test : (b : Bool) → breaks_line c ≡ b → AreLines (lines_of cs)
        → AreLines (if b then (c ∷ []) ∷ lines_of cs else onto_first c (lines_of cs))
    by_test true e rest = next_text [] c e rest
    by_test false e rest = onto rest

-- the lines of a piece so far, if there are any, end with a byte that ends a line
abbrev EndSo : List (List ℕ) → Type 0
EndSo before = (before ≡ [])
    ⊎ ((front : List ℕ) × (end : ℕ) × (concat before ≡ front ++ end ∷ []) × (breaks_line end ≡ true))

one_piece : (text : List ℕ) → AreLines (piece_of text)
one_piece [] = no_texts
one_piece (c ∷ cs) = last_text (c ∷ cs)

-- one line more, which begins a piece or belongs to the piece so far
line_on : (before lines : List (List ℕ)) (line : List ℕ) → EndSo before → AreLines (cut_lines (line ∷ []) lines)
    → AreLines (cut_lines (before ++ line ∷ []) lines) → AreLines (cut_lines before (line ∷ lines))
line_on before lines line so new on = by_test (begins_piece before line) refl so
  where
    by_test : (b : Bool) → begins_piece before line ≡ b → EndSo before
        → AreLines (if b then concat before ∷ cut_lines (line ∷ []) lines else cut_lines (before ++ line ∷ []) lines)
    by_test true e (inl none) =
        let no : true ≡ false = sym e ∙ ap (λ l. begins_piece l line) none ∙ first_begins line in absurd (cc)
    by_test true e (inr (front, end, is, ends)) =
        subst (λ l. AreLines (l ∷ cut_lines (line ∷ []) lines)) (sym is) (next_text front end ends new)
    by_test false e so = on

pieces_end : (before : List (List ℕ)) {lines : List (List ℕ)} → AreLines lines → EndSo before
    → AreLines (cut_lines before lines)
pieces_end before no_texts so = one_piece (concat before)
pieces_end before (last_text line) so =
    line_on before [] line so (one_piece (concat (line ∷ []))) (one_piece (concat (before ++ line ∷ [])))
pieces_end before (next_text front end {texts} ends rest) so =
    line_on before texts (front ++ end ∷ []) so
    (pieces_end ((front ++ end ∷ []) ∷ []) rest (inr (front, end, append-nil (front ++ end ∷ []), ends)))
    (pieces_end (before ++ (front ++ end ∷ []) ∷ []) rest
    (inr (
      concat before ++ front,
      end,
      concat_more before (front ++ end ∷ []) ∙ sym (append_assoc (concat before) front (end ∷ [])),
      ends,
    )))

pub cut_ends : (text : List ℕ) → AreLines (cut text)
cut_ends text = subst AreLines (sym (cut_is text)) (pieces_end [] (lines_end text) (inl refl))
