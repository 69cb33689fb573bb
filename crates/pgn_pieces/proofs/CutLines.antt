-- Cutting a text into lines, and lines into pieces, each from the first one on. The first line of a text is split off
-- (whole_line, first_line); then it is added to the piece so far (goes_on) or begins the next one (ends_here). So
-- `cut`, which adds line by line at the end, gives the same pieces as `cut_lines` from the front (cut_is), by induction
-- on the lines (cut_on).
use Rattle.std.proofs.Common.{◌≡◌, ◌<◌, ℕ, Bool, true, false, List, [], ◌∷◌, ◌++◌, length, map, reverse, refl, sym, ap, ◌∙◌, append_assoc, append-nil, length-append, arith, if◌then◌else◌, ◌&&◌, ◌||◌}
use Rattle.std.specs.List.{onto_first, concat, list_any, fold}
use Rattle.std.proofs.{lemmas.Bool.and_parts, lemmas.Bool.or_parts, lemmas.List.reverse-append}
use Rattle.pgn_pieces.specs.Pieces.{lines_of, begins_piece, is_tag_line, is_event_line, is_moves_line, with_line, cut}
use Rattle.pgn_pieces.specs.{Places.breaks_line, shared.Cutting.piece_of, shared.Cutting.cut_lines, ties.Held.has_line_end, ties.Held.IsWhole}

-- ---- lines

pub lines_on : (c : ℕ) (cs : List ℕ) → breaks_line c ≡ false → lines_of (c ∷ cs) ≡ onto_first c (lines_of cs)
lines_on c cs h = ap (λ b. if b then (c ∷ []) ∷ lines_of cs else onto_first c (lines_of cs)) h

parts : (c : ℕ) (cs : List ℕ) → has_line_end (c ∷ cs) ≡ false → (breaks_line c ≡ false) × (has_line_end cs ≡ false)
parts c cs h = or_parts (breaks_line c) (has_line_end cs) h

-- a text that begins with a whole line
ended_line : (body rest : List ℕ) (end : ℕ) → breaks_line end ≡ true → has_line_end body ≡ false
    → lines_of ((body ++ end ∷ []) ++ rest) ≡ (body ++ end ∷ []) ∷ lines_of rest
ended_line [] rest end ends h =
    ap (λ b. if b then (end ∷ []) ∷ lines_of rest else onto_first end (lines_of rest)) ends
ended_line (c ∷ cs) rest end ends h =
    let both = parts c cs h in
    lines_on c ((cs ++ end ∷ []) ++ rest) both.0 ∙ ap (onto_first c) (ended_line cs rest end ends both.1)

pub whole_line : (line rest : List ℕ) → IsWhole line → lines_of (line ++ rest) ≡ line ∷ lines_of rest
whole_line line rest whole =
    ap (λ l. lines_of (l ++ rest)) whole.all ∙ ended_line whole.body rest whole.end whole.ends whole.plain
    ∙ ap (λ l. l ∷ lines_of rest) (sym whole.all)

-- a text without a line's end
one_line : (line : List ℕ) → has_line_end line ≡ false → lines_of line ≡ piece_of line
one_line [] h = refl
one_line (c ∷ cs) h =
    let both = parts c cs h in lines_on c cs both.0 ∙ ap (onto_first c) (one_line cs both.1) ∙ onto_one cs
  where
    onto_one : (xs : List ℕ) → onto_first c (piece_of xs) ≡ (c ∷ xs) ∷ []
    onto_one [] = refl
    onto_one (x ∷ xs) = refl

-- a text with a byte has a line with that byte
pub some_line : (c : ℕ) (cs : List ℕ)
    → (more : List ℕ) × (lines : List (List ℕ)) × (lines_of (c ∷ cs) ≡ (c ∷ more) ∷ lines)
some_line c cs = by_test (breaks_line c) (lines_of cs)
  where
    by_test : (b : Bool) (all : List (List ℕ)) → (more : List ℕ) × (lines : List (List ℕ))
        × ((if b then (c ∷ []) ∷ all else onto_first c all) ≡ (c ∷ more) ∷ lines)
    by_test true all = ([], all, refl)
    by_test false [] = ([], [], refl)
    by_test false (line ∷ lines) = (line, lines, refl)

-- the first line of a text that begins so
pub first_line : (line rest : List ℕ) → 0 < length line → has_line_end line ≡ false
    → (more : List ℕ) × (lines : List (List ℕ)) × (lines_of (line ++ rest) ≡ (line ++ more) ∷ lines)
first_line [] rest some h = absurd (omega (arith, some))
first_line (c ∷ []) rest some h = some_line c rest
first_line (c ∷ d ∷ ds) rest some h =
    let both = parts c (d ∷ ds) h in
    let w = first_line (d ∷ ds) rest (omega arith) both.1 in
    (w.0, w.1, lines_on c ((d ∷ ds) ++ rest) both.0 ∙ ap (onto_first c) w.2)

-- ---- pieces

pub concat_more : (before : List (List ℕ)) (line : List ℕ) → concat (before ++ line ∷ []) ≡ concat before ++ line
concat_more [] line = append-nil line
concat_more (x ∷ xs) line = ap (λ (l : List ℕ). x ++ l) (concat_more xs line) ∙ sym (append_assoc x (concat xs) line)

pub goes_on : (before : List (List ℕ)) (line : List ℕ) (lines : List (List ℕ)) → begins_piece before line ≡ false
    → cut_lines before (line ∷ lines) ≡ cut_lines (before ++ line ∷ []) lines
goes_on before line lines h =
    ap (λ b. if b then concat before ∷ cut_lines (line ∷ []) lines else cut_lines (before ++ line ∷ []) lines) h

pub ends_here : (before : List (List ℕ)) (line : List ℕ) (lines : List (List ℕ)) → begins_piece before line ≡ true
    → cut_lines before (line ∷ lines) ≡ concat before ∷ cut_lines (line ∷ []) lines
ends_here before line lines h =
    ap (λ b. if b then concat before ∷ cut_lines (line ∷ []) lines else cut_lines (before ++ line ∷ []) lines) h

pub first_begins : (line : List ℕ) → begins_piece [] line ≡ false
first_begins line = none (is_tag_line line) (is_event_line line)
  where
    none : (a b : Bool) → (a && (false || (b && false))) ≡ false
    none true true = refl
    none true false = refl
    none false b = refl

-- from a piece's first line on
pub begun : (line : List ℕ) (lines : List (List ℕ)) → cut_lines [] (line ∷ lines) ≡ cut_lines (line ∷ []) lines
begun line lines = goes_on [] line lines (first_begins line)

-- the last line of a text belongs to the piece
pub last_line : (before : List (List ℕ)) (line : List ℕ) → has_line_end line ≡ false → begins_piece before line ≡ false
    → cut_lines before (lines_of line) ≡ piece_of (concat before ++ line)
last_line before [] plain h = ap piece_of (sym (append-nil (concat before)))
last_line before (c ∷ cs) plain h =
    ap (cut_lines before) (one_line (c ∷ cs) plain) ∙ goes_on before (c ∷ cs) [] h
    ∙ ap piece_of (concat_more before (c ∷ cs))

-- what passes a test that no empty list passes has bytes
pub some_bytes : (p : List ℕ → Bool) → p [] ≡ false → (before : List (List ℕ)) → list_any p before ≡ true
    → 0 < length (concat before)
some_bytes p none [] h = absurd (cc)
some_bytes p none ([] ∷ lines) h = some_bytes p none lines (sym (ap (λ b. b || list_any p lines) none) ∙ h)
some_bytes p none ((c ∷ cs) ∷ lines) h = omega arith

pub piece_of_some : (text : List ℕ) → 0 < length text → piece_of text ≡ text ∷ []
piece_of_some [] h = absurd (omega (arith, h))
piece_of_some (c ∷ cs) h = refl

-- the bytes of pieces that are given last first
abbrev texts : List (List (List ℕ)) → List (List ℕ)
texts pieces = reverse (map concat pieces)

tag_some : (line : List ℕ) → is_tag_line line ≡ true → 0 < length (concat (line ∷ []))
tag_some [] h = absurd (cc)
tag_some (c ∷ cs) h = omega arith

-- after the pieces `before`, of which the last comes first, and the lines `last`, these lines are cut from the first
-- one on
cut_on : (lines last : List (List ℕ)) (before : List (List (List ℕ))) → 0 < length (concat last)
    → texts (fold with_line (last ∷ before) lines) ≡ texts before ++ cut_lines last lines
cut_on [] last before some =
    reverse-append (concat last ∷ []) (map concat before)
    ∙ ap (λ ps. texts before ++ ps) (sym (piece_of_some (concat last) some))
cut_on (line ∷ lines) last before some =
    by_test (begins_piece last line) refl (cut_on lines (line ∷ []) (last ∷ before))
    (cut_on lines (last ++ line ∷ []) before)
  where
    by_test : (b : Bool) → begins_piece last line ≡ b
        → (0 < length (concat (line ∷ []))
        → texts (fold with_line ((line ∷ []) ∷ last ∷ before) lines)
        ≡ texts (last ∷ before) ++ cut_lines (line ∷ []) lines)
        → (0 < length (concat (last ++ line ∷ []))
        → texts (fold with_line ((last ++ line ∷ []) ∷ before) lines)
        ≡ texts before ++ cut_lines (last ++ line ∷ []) lines)
        → texts (fold with_line (if b then (line ∷ []) ∷ last ∷ before else (last ++ line ∷ []) ∷ before) lines)
        ≡ texts before
        ++ (if b then concat last ∷ cut_lines (line ∷ []) lines else cut_lines (last ++ line ∷ []) lines)
    by_test true t new on =
        new (tag_some line
        (and_parts (is_tag_line line)
        (list_any is_moves_line last || (is_event_line line && list_any is_event_line last)) t).0)
        ∙ ap (λ ps. ps ++ cut_lines (line ∷ []) lines) (reverse-append (concat last ∷ []) (map concat before))
        ∙ append_assoc (texts before) (concat last ∷ []) (cut_lines (line ∷ []) lines)
    by_test false t new on =
        let bytes = ap length (concat_more last line) in
        let l = length-append (concat last) line in on (omega (arith, bytes, l, some))

-- a text is cut from its first line on
pub cut_is : (text : List ℕ) → cut text ≡ cut_lines [] (lines_of text)
cut_is [] = refl
cut_is (c ∷ cs) =
    let w = some_line c cs in
    let some : 0 < length (concat ((c ∷ w.0) ∷ [])) = omega arith in
    ap (λ ls. texts (fold with_line [] ls)) w.2
    ∙ cut_on w.1 ((c ∷ w.0) ∷ []) [] some
    ∙ sym (ap (cut_lines []) w.2 ∙ begun (c ∷ w.0) w.1)
