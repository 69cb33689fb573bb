-- For the law `pieces_are_in_place` (in_place): the pieces of a text, one after another, are the text (cut_is_all), so
-- each is at its offset, and its line's number counts the line ends in the pieces before. Each but the last ends with a
-- line (WholePieces), so the next begins one. By induction on the pieces before it (each_placed).
use Rattle.std.proofs.Common.{◌≡◌, ℕ, ◌+◌, ◌-◌, Bool, true, false, List, [], ◌∷◌, ◌++◌, length, map, reverse, take, drop, Some, None, cond, refl, sym, ap, subst, ◌∙◌, append_assoc, append-nil, length-append, arith, ap₂, if◌then◌else◌, nat_le, not}
use Rattle.std.specs.List.{onto_first, concat, sum_by, prefix_len, suffix_len}
use Rattle.std.proofs.{lemmas.List.take-append-drop, lemmas.List.reverse-append, lemmas.List.Sums.sum_by_push, Math.Seq.take-append_seam, Math.Seq.drop-append_seam, lemmas.List.Folds.concat-append}
use Rattle.pgn_pieces.specs.{declared.pieces.TheConstants.PIECE_LEN, Pieces.lines_of, Pieces.cut, shared.Cutting.cut_lines, shared.Cutting.piece_of, Places.breaks_line, Places.line_ends, laws.Places.IsInPlace, laws.Places.PiecesAreInPlace}
use Rattle.pgn_pieces.specs.Stream.{Piece, with_offsets, pieces, PieceSeen, piece_at}
use Rattle.pgn_pieces.proofs.{LineEnds.count_append, CutLines.concat_more, CutLines.cut_is}
use Rattle.pgn_pieces.proofs.WholePieces.{AreLines, no_texts, last_text, next_text, cut_ends}

-- ---- texts one after another

-- the lines of a text are all of it
lines_are_all : (text : List ℕ) → concat (lines_of text) ≡ text
lines_are_all [] = refl
lines_are_all (c ∷ cs) = by_test (breaks_line c) (lines_of cs) (lines_are_all cs)
  where
    by_test : (b : Bool) (lines : List (List ℕ)) → concat lines ≡ cs
        → concat (if b then (c ∷ []) ∷ lines else onto_first c lines) ≡ c ∷ cs
    by_test true lines on = ap (λ xs. c ∷ xs) on
    by_test false [] on = ap (λ xs. c ∷ xs) on
    by_test false (line ∷ lines) on = ap (λ xs. c ∷ xs) on

piece_is_all : (text : List ℕ) → concat (piece_of text) ≡ text
piece_is_all [] = refl
piece_is_all (c ∷ cs) = append-nil (c ∷ cs)

-- the pieces of lines are all of them
pieces_are_all : (before lines : List (List ℕ)) → concat (cut_lines before lines) ≡ concat before ++ concat lines
pieces_are_all before [] = piece_is_all (concat before) ∙ sym (append-nil (concat before))
pieces_are_all before (line ∷ lines) =
    let next = pieces_are_all (line ∷ []) lines in
    let on = pieces_are_all (before ++ line ∷ []) lines in
    let more = concat_more before line in
    grind (arith, next, on, more, append_assoc (concat before) line (concat lines), append-nil line)

pub cut_is_all : (text : List ℕ) → concat (cut text) ≡ text
cut_is_all text = ap concat (cut_is text) ∙ pieces_are_all [] (lines_of text) ∙ lines_are_all text

-- ---- where lines begin

abbrev last_line_len : List ℕ → ℕ
last_line_len text = suffix_len (λ c. not (breaks_line c)) text

-- each of these texts, which follow one another after `front`, begins where a line begins
abbrev BeginLines : List ℕ → List (List ℕ) → Type 0
BeginLines front [] = Unit {0}
BeginLines front (text ∷ texts) = (last_line_len front ≡ 0) × BeginLines (front ++ text) texts

-- after a line's end a line begins
after_end : (front line : List ℕ) (end : ℕ) → breaks_line end ≡ true
    → last_line_len (front ++ (line ++ end ∷ [])) ≡ 0
after_end front line end ends =
    ap last_line_len (sym (append_assoc front line (end ∷ [])))
    ∙ ap (prefix_len (λ d. not (breaks_line d))) (reverse-append (front ++ line) (end ∷ []))
    ∙ ap (λ b. cond (not b) (1 + prefix_len (λ d. not (breaks_line d)) (reverse (front ++ line))) 0) ends

-- texts of which each but perhaps the last ends with a line begin so
lines_begin : (front : List ℕ) {texts : List (List ℕ)} → last_line_len front ≡ 0 → AreLines texts
    → BeginLines front texts
lines_begin front h no_texts = tt
lines_begin front h (last_text text) = (h, tt)
lines_begin front h (next_text line end ends rest) =
    (h, lines_begin (front ++ (line ++ end ∷ [])) (after_end front line end ends) rest)

begin_front : (front : List ℕ) (xs ys : List (List ℕ)) → BeginLines front (xs ++ ys) → BeginLines front xs
begin_front front [] ys h = tt
begin_front front (x ∷ xs) ys (here, later) = (here, begin_front (front ++ x) xs ys later)

-- ---- pieces with their offsets

abbrev seen_at : ℕ → List (List ℕ) → List PieceSeen
seen_at offset texts = map (λ (piece : Piece). piece_at piece.offset piece.bytes) (with_offsets offset texts)

-- the piece with these bytes, after the bytes `front` and the pieces `before`
placed : (front bytes more : List ℕ) (before : List PieceSeen) → last_line_len front ≡ 0
    → line_ends front ≡ sum_by (λ (p : PieceSeen). p.line_ends) before
    → IsInPlace (front ++ (bytes ++ more)) before (piece_at (length front) bytes)
placed front bytes more before begin ends = record {
  bytes = λ found e. by_test found (nat_le (length bytes) PIECE_LEN) e;
  line = ap (λ l. line_ends l + 1) (take-append_seam front (bytes ++ more)) ∙ ap (λ n. n + 1) ends;
  column = ap (λ l. last_line_len l + 1) (take-append_seam front (bytes ++ more)) ∙ ap (λ n. n + 1) begin;
}
  where
    by_test : (found : List ℕ) (b : Bool) → (if b then Some bytes else None) ≡ Some found
        → take (length found) (drop (length front) (front ++ (bytes ++ more))) ≡ found
    by_test found true e =
        let same : bytes ≡ found = cc in
        subst (λ l. take (length l) (drop (length front) (front ++ (bytes ++ more))) ≡ l) same
        (ap (take (length bytes)) (drop-append_seam front (bytes ++ more)) ∙ take-append_seam bytes more)
    by_test found false e = absurd (cc)

-- each of the pieces after the bytes `front`, of which the pieces `early` are made
each_placed : (early : List PieceSeen) (front rest : List ℕ) (texts : List (List ℕ)) (before : List PieceSeen) (piece : PieceSeen)
    (after : List PieceSeen) → line_ends front ≡ sum_by (λ (p : PieceSeen). p.line_ends) early → BeginLines front texts
    → seen_at (length front) texts ≡ before ++ piece ∷ after
    → IsInPlace (front ++ (concat texts ++ rest)) (early ++ before) piece
each_placed early front rest [] [] piece after ends begin e = absurd (cc)
each_placed early front rest [] (p ∷ before) piece after ends begin e = absurd (cc)
each_placed early front rest (bytes ∷ texts) [] piece after ends (begin, later) e =
    let is : piece_at (length front) bytes ≡ piece = cc in
    let text = sym (append_assoc bytes (concat texts) rest) in
    subst (λ q. IsInPlace (front ++ ((bytes ++ concat texts) ++ rest)) (early ++ []) q) is
    (subst (λ ps. IsInPlace (front ++ ((bytes ++ concat texts) ++ rest)) ps (piece_at (length front) bytes))
    (sym (append-nil early))
    (subst (λ l. IsInPlace (front ++ l) early (piece_at (length front) bytes)) text
    (placed front bytes (concat texts ++ rest) early begin ends)))
each_placed early front rest (bytes ∷ texts) (p ∷ before) piece after ends (begin, later) e =
    let is : piece_at (length front) bytes ≡ p = cc in
    let others : seen_at (length front + length bytes) texts ≡ before ++ piece ∷ after = cc in
    let on = each_placed (early ++ p ∷ []) (front ++ bytes) rest texts before piece after
    (count_append front bytes ∙ ap₂ (λ m n. m + n) ends (ap (λ (q : PieceSeen). q.line_ends) is)
    ∙ sym (sum_by_push (λ (q : PieceSeen). q.line_ends) early p)) later
    (ap (λ n. seen_at n texts) (length-append front bytes) ∙ others) in
    subst (λ l. IsInPlace l (early ++ p ∷ before) piece)
    (append_assoc front bytes (concat texts ++ rest)
    ∙ ap (λ l. front ++ l) (sym (append_assoc bytes (concat texts) rest)))
    (subst (λ ps. IsInPlace ((front ++ bytes) ++ (concat texts ++ rest)) ps piece) (append_assoc early (p ∷ []) before) on)

-- each of the first pieces of a text
first_placed : (text : List ℕ) (first others : List (List ℕ)) (before : List PieceSeen) (piece : PieceSeen) (after : List PieceSeen)
    → first ++ others ≡ cut text → seen_at 0 first ≡ before ++ piece ∷ after → IsInPlace text before piece
first_placed text first others before piece after is e =
    subst (λ l. IsInPlace l before piece) (sym (concat-append first others) ∙ ap concat is ∙ cut_is_all text)
    (each_placed [] [] (concat others) first before piece after refl
    (begin_front [] first others (subst (BeginLines []) (sym is) (lines_begin [] refl (cut_ends text)))) e)

pub in_place : PiecesAreInPlace
unfolding pieces
in_place true text before piece after e =
    first_placed text (cut text) [] before piece after (append-nil (cut text)) e
in_place false text before piece after e =
    first_placed text (take (length (cut text) - 1) (cut text)) (drop (length (cut text) - 1) (cut text)) before piece after
    (take-append-drop (length (cut text) - 1) (cut text)) e
