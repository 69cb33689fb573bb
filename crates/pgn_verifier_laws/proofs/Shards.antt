-- For the law `shards_are_cut`: a text that is cut in two before a tag line, after a line of moves and any empty lines,
-- has the pieces of the one part and then those of the other. Empty lines begin no piece (stays), so the piece before
-- has the line of moves, and the tag line begins one (joins, by induction on the lines before it). The lines of both
-- parts are the lines of the text (lines_joined).
use Rattle.std.proofs.Common.{◌≡◌, ℕ, eqb, Bool, true, false, List, [], ◌∷◌, ◌++◌, length, take, refl, sym, ap, ap₂, ◌∙◌, arith, bytes_eq, if◌then◌else◌, ◌&&◌, ◌||◌, nat_lt, ◌==◌, codes}
use Rattle.std.specs.List.{onto_first, concat, list_any, list_all}
use Rattle.std.proofs.{lemmas.Bool.and_left, lemmas.Bool.or_left, lemmas.Bool.eqb-true, lemmas.List.Folds.list_any-append}
use Rattle.byte_devices.specs.Bytes.{is_blank}
use Rattle.pgn_pieces.specs.Pieces.{lines_of, front_of, tag_name, after_name, begins_tag, is_tag_line, is_event_line, is_empty_line, is_moves_line, begins_piece}
use Rattle.pgn_pieces.specs.{Places.breaks_line, shared.Cutting.cut_lines, shared.Cutting.piece_of}
use Rattle.pgn_pieces.proofs.shared.Cuts.{some_line, ends_here, begun, some_bytes, piece_of_some, cut_is}
use Rattle.pgn_verifier_laws.specs.Shards.{ends_in_moves, begins_in_tag, ShardsAreCut}

-- ---- no line is of two kinds

-- whether a front is white space, or begins as an empty line may
abbrev is_empty_front : List ℕ → Bool
is_empty_front front = bytes_eq (take 1 front) (codes "%") || bytes_eq (take 1 front) (codes ";")
    || list_all (λ c. is_blank c || (c == 13) || (c == 10)) front

-- a line that begins with `%` or `;` begins no tag
front_kind : (front : List ℕ) → is_empty_front front ≡ true → begins_tag front ≡ false
front_kind [] h = refl
front_kind (c ∷ cs) h = by_test (eqb c 91) refl
  where
    by_test : (b : Bool) → eqb c 91 ≡ b → begins_tag (c ∷ cs) ≡ false
    by_test true e =
        let no : is_empty_front (c ∷ cs) ≡ false = ap (λ d. is_empty_front (d ∷ cs)) (eqb-true c 91 e) in absurd (cc)
    by_test false e =
        ap (λ b. (b && true && nat_lt 0 (length (tag_name (c ∷ cs))))
        && bytes_eq (take 1 (after_name (c ∷ cs))) (codes "\"")) e

-- a line's first byte, if it is `%`, is also that of its front
escape_first : (line : List ℕ) → bytes_eq (take 1 line) (codes "%") ≡ true
    → bytes_eq (take 1 (front_of line)) (codes "%") ≡ true
escape_first [] h = absurd (cc)
escape_first (c ∷ cs) h = by_test (eqb c 37) refl
  where
    by_test : (b : Bool) → eqb c 37 ≡ b → bytes_eq (take 1 (front_of (c ∷ cs))) (codes "%") ≡ true
    by_test true e = ap (λ d. bytes_eq (take 1 (front_of (d ∷ cs))) (codes "%")) (eqb-true c 37 e)
    by_test false e = let no : false ≡ true = sym (ap (λ b. b && true) e) ∙ h in absurd (cc)

-- of three tests one still holds if the first is replaced by one that it implies
weaker : (in_front in_line comment white : Bool) → (in_line ≡ true → in_front ≡ true)
    → (in_line || comment || white) ≡ true → (in_front || comment || white) ≡ true
weaker true in_line comment white implies h = refl
weaker false true comment white implies h = let no : false ≡ true = implies refl in absurd (cc)
weaker false false comment white implies h = h

-- an empty line begins no piece
stays : (before : List (List ℕ)) (line : List ℕ) → is_empty_line line ≡ true → begins_piece before line ≡ false
stays before line h =
    and_left (is_tag_line line) (list_any is_moves_line before || (is_event_line line && list_any is_event_line before))
    (front_kind (front_of line) (weaker (bytes_eq (take 1 (front_of line)) (codes "%"))
    (bytes_eq (take 1 line) (codes "%")) _ _ (escape_first line) h))

-- ---- lines before a tag line

-- whether the last of these lines that isn't empty, or of those of the piece before, is a line of moves
abbrev moves_last : List (List ℕ) → List (List ℕ) → Bool
moves_last before lines = (list_any is_moves_line before && list_all is_empty_line lines) || ends_in_moves lines

-- so it is after one line more (moves m, empty e), if all others are empty (es) or have such a line (en)
last_on : (m e es en k : Bool) → ((k && (e && es)) || (if es then m else en)) ≡ true
    → (((k || (m || false)) && es) || en) ≡ true
last_on m e es en k h = grind (arith, h)

last_new : (m e es en k : Bool) → ((k && (e && es)) || (if es then m else en)) ≡ true → e ≡ false
    → (((m || false) && es) || en) ≡ true
last_new m e es en k h n = grind (arith, h, n)

module _ (tag_line : List ℕ) (others : List (List ℕ)) (tag : is_tag_line tag_line ≡ true) where
  abbrev later : List (List ℕ)
  later = tag_line ∷ others

  -- at the tag line a piece ends
  here : (before : List (List ℕ)) → list_any is_moves_line before ≡ true
      → cut_lines before later ≡ piece_of (concat before) ++ cut_lines [] later
  here before moves =
      ends_here before tag_line others
      (ap (λ b. b && (list_any is_moves_line before || (is_event_line tag_line && list_any is_event_line before))) tag
      ∙ or_left (list_any is_moves_line before) (is_event_line tag_line && list_any is_event_line before) moves)
      ∙ ap (λ ps. concat before ∷ ps) (sym (begun tag_line others))
      ∙ ap (λ ps. ps ++ cut_lines [] later)
      (sym (piece_of_some (concat before) (some_bytes is_moves_line refl before moves)))

  -- by induction over the lines before the tag line
  pub joins : (before lines : List (List ℕ)) → moves_last before lines ≡ true
      → cut_lines before (lines ++ later) ≡ cut_lines before lines ++ cut_lines [] later
  joins before [] h = here before (last_here (list_any is_moves_line before) h)
    where
      last_here : (b : Bool) → ((b && true) || false) ≡ true → b ≡ true
      last_here true e = refl
      last_here false e = e
  joins before (line ∷ lines) h =
      by_test (begins_piece before line) refl (joins (line ∷ []) lines) (joins (before ++ line ∷ []) lines)
    where
      by_test : (b : Bool) → begins_piece before line ≡ b
          → (moves_last (line ∷ []) lines ≡ true
          → cut_lines (line ∷ []) (lines ++ later) ≡ cut_lines (line ∷ []) lines ++ cut_lines [] later)
          → (moves_last (before ++ line ∷ []) lines ≡ true
          → cut_lines (before ++ line ∷ []) (lines ++ later)
          ≡ cut_lines (before ++ line ∷ []) lines ++ cut_lines [] later)
          → (if b then concat before ∷ cut_lines (line ∷ []) (lines ++ later)
          else cut_lines (before ++ line ∷ []) (lines ++ later))
          ≡ (if b then concat before ∷ cut_lines (line ∷ []) lines else cut_lines (before ++ line ∷ []) lines)
          ++ cut_lines [] later
      by_test true e new on =
          ap (λ ps. concat before ∷ ps)
          (new (last_new (is_moves_line line) (is_empty_line line) (list_all is_empty_line lines) (ends_in_moves lines)
          (list_any is_moves_line before) h (no_empty (is_empty_line line) refl)))
        where
          no_empty : (b : Bool) → is_empty_line line ≡ b → b ≡ false
          no_empty true is = let no = stays before line is in absurd (cc)
          no_empty false is = refl
      by_test false e new on =
          on (ap (λ b. (b && list_all is_empty_line lines) || ends_in_moves lines)
          (list_any-append is_moves_line before (line ∷ []))
          ∙ last_on (is_moves_line line) (is_empty_line line) (list_all is_empty_line lines) (ends_in_moves lines)
          (list_any is_moves_line before) h)

-- ---- the lines of a text in two parts

-- the lines of a text in two parts, of which the first ends with a line
pub lines_joined : (front rest : List ℕ)
    → lines_of ((front ++ 10 ∷ []) ++ rest) ≡ lines_of (front ++ 10 ∷ []) ++ lines_of rest
lines_joined [] rest = refl
lines_joined (c ∷ cs) rest = by_test (breaks_line c) (lines_joined cs rest) (has_line cs)
  where
    has_line : (cs : List ℕ) → (line : List ℕ) × (lines : List (List ℕ)) × (lines_of (cs ++ 10 ∷ []) ≡ line ∷ lines)
    has_line [] = (10 ∷ [], [], refl)
    has_line (c ∷ cs) = let w = some_line c (cs ++ 10 ∷ []) in (c ∷ w.0, w.1, w.2)

    by_test : (b : Bool) → lines_of ((cs ++ 10 ∷ []) ++ rest) ≡ lines_of (cs ++ 10 ∷ []) ++ lines_of rest
        → (line : List ℕ) × (lines : List (List ℕ)) × (lines_of (cs ++ 10 ∷ []) ≡ line ∷ lines)
        → (if b then (c ∷ []) ∷ lines_of ((cs ++ 10 ∷ []) ++ rest)
        else onto_first c (lines_of ((cs ++ 10 ∷ []) ++ rest)))
        ≡ (if b then (c ∷ []) ∷ lines_of (cs ++ 10 ∷ []) else onto_first c (lines_of (cs ++ 10 ∷ []))) ++ lines_of rest
    by_test true on some = ap (λ xs. (c ∷ []) ∷ xs) on
    by_test false on (line, lines, is) =
        ap (onto_first c) on ∙ ap (λ xs. onto_first c (xs ++ lines_of rest)) is
        ∙ sym (ap (λ xs. onto_first c xs ++ lines_of rest) is)

-- the law, for the text's bytes
pub shards_are_cut : ShardsAreCut
shards_are_cut front rest moves tag =
    cut_is ((front ++ 10 ∷ []) ++ rest) ∙ ap (cut_lines []) (lines_joined front rest) ∙ by_lines (lines_of rest) tag
    ∙ sym (ap₂ (λ xs ys. xs ++ ys) (cut_is (front ++ 10 ∷ [])) (cut_is rest))
  where
    by_lines : (lines : List (List ℕ)) → begins_in_tag lines ≡ true
        → cut_lines [] (lines_of (front ++ 10 ∷ []) ++ lines)
        ≡ cut_lines [] (lines_of (front ++ 10 ∷ [])) ++ cut_lines [] lines
    by_lines [] h = absurd (cc)
    by_lines (line ∷ lines) h = joins line lines h [] (lines_of (front ++ 10 ∷ [])) moves
