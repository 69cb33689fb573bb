-- What is known of a piece by its lines so far (`HasSeen`) stays right when a line, or a part of one, is added to it
-- (add_whole, add_open), and says where the piece ends (ends_before), since a line begins the next piece by the kinds
-- of the lines before it only. The lemmas whole_.. are for lines with their ends, open_.. for others, and look_.. for
-- the lines of a text.
use Rattle.std.proofs.Common.{◌≡◌, ◌≤◌, ◌<◌, ℕ, ◌+◌, Bool, true, false, List, [], ◌∷◌, ◌++◌, length, take, drop, refl, sym, ap, subst, ◌∙◌, inl, inr, append_assoc, append-nil, length-append, length-drop, arith, ◌&&◌, ◌||◌, take-append-drop, take_all}
use Rattle.std.specs.List.{list_any, concat}
use Rattle.std.proofs.{Math.Seq.take-length, Math.Seq.take-add, lemmas.Bool.and_parts, lemmas.Bool.or_cases, lemmas.List.Folds.list_any-append}
use Rattle.pgn_pieces.specs.{declared.line_kinds.Kind.Kind, declared.piece_end.Seen.Seen, declared.piece_end.Step.TheVariants.Begins, declared.piece_end.Step.TheVariants.Waits, declared.piece_end.Step.TheVariants.Belongs, Places.breaks_line, shared.Cutting.cut_lines, shared.Cutting.piece_of}
use Rattle.pgn_pieces.specs.Pieces.{lines_of, is_tag_line, is_event_line, is_moves_line, begins_piece, cut}
use Rattle.pgn_pieces.specs.ties.Held.{AreSeen, HasSeen, MayGoOn, IsDecided, IsWhole, SameTag, Ends, Steps, Looks, has_line_end}
use Rattle.pgn_pieces.proofs.LineKinds.{decided_on, same_tag, tag_stays}
use Rattle.pgn_pieces.proofs.CutLines.{whole_line, first_line, concat_more, goes_on, ends_here, begun, last_line, some_bytes, cut_is}

or_false : (b : Bool) → (b || false) ≡ b
or_false true = refl
or_false false = refl

-- lines of the same kind begin a piece alike
same_begin : (before : List (List ℕ)) (a b : List ℕ) → SameTag a b → begins_piece before a ≡ begins_piece before b
same_begin before a b h =
    ap (λ t. t && (list_any is_moves_line before || (is_event_line a && list_any is_event_line before))) h.tag
    ∙ ap (λ e. is_tag_line b && (list_any is_moves_line before || (e && list_any is_event_line before))) h.event

-- a piece that ends has bytes
ended_some : (before : List (List ℕ)) (line : List ℕ) → begins_piece before line ≡ true → 0 < length (concat before)
ended_some before line h =
    let so = (and_parts (is_tag_line line)
    (list_any is_moves_line before || (is_event_line line && list_any is_event_line before)) h).1 in
    elim (or_cases (list_any is_moves_line before) (is_event_line line && list_any is_event_line before) so) [
      | inl moves ↦ some_bytes is_moves_line refl before moves
      | inr event ↦
          some_bytes is_event_line refl before (and_parts (is_event_line line) (list_any is_event_line before) event).1
    ]

-- ---- pieces of whole lines

-- `seen` is what is known of a piece that has just the lines `before`
record Closed (seen : Seen) (piece : List ℕ) : Type 0 where
  before : List (List ℕ)
  all : piece ≡ concat before
  cuts : (rest : List ℕ) → cut (piece ++ rest) ≡ cut_lines before (lines_of rest)
  moves : seen.moves ≡ list_any is_moves_line before
  event : seen.event ≡ list_any is_event_line before

closed : (seen : Seen) (piece : List ℕ) → HasSeen seen piece → seen.inside ≡ false → Closed seen piece
closed seen piece h out =
    let none : h.line ≡ [] = subst (λ b. MayGoOn b h.line) out h.inside in record {
      before = h.before;
      all = h.all ∙ ap (λ xs. concat h.before ++ xs) none ∙ append-nil (concat h.before);
      cuts = λ rest. h.cuts rest ∙ ap (λ xs. cut_lines h.before (lines_of (xs ++ rest))) none;
      moves = h.are.moves ∙ ap (λ xs. list_any is_moves_line h.before || is_moves_line xs) none
          ∙ or_false (list_any is_moves_line h.before);
      event = h.are.event ∙ ap (λ xs. list_any is_event_line h.before || is_event_line xs) none
          ∙ or_false (list_any is_event_line h.before);
    }

has_seen : (seen : Seen) (piece : List ℕ) → Closed seen piece → seen.inside ≡ false → HasSeen seen piece
has_seen seen piece k out = record {
  before = k.before;
  line = [];
  all = k.all ∙ sym (append-nil (concat k.before));
  plain = refl;
  cuts = k.cuts;
  are = record {
    belongs = refl;
    moves = k.moves ∙ sym (or_false (list_any is_moves_line k.before));
    event = k.event ∙ sym (or_false (list_any is_event_line k.before));
  };
  inside = subst (λ b. MayGoOn b []) (sym out) refl;
}

-- the piece ends before a text, if one begins with that text's first line, however it goes on
ends_before : (seen : Seen) (piece : List ℕ) (k : Closed seen piece) (text : List ℕ) → 0 < length text
    → ((rest : List ℕ) → (line : List ℕ) × (lines : List (List ℕ)) × (lines_of (text ++ rest) ≡ line ∷ lines)
    × (begins_piece k.before line ≡ true)) → Ends piece text
ends_before seen piece k text some first = record {
  cuts = λ rest. (let f = first rest in
      k.cuts (text ++ rest) ∙ ap (cut_lines k.before) f.2 ∙ ends_here k.before f.0 f.1 f.3
      ∙ ap (λ xs. xs ∷ cut_lines (f.0 ∷ []) f.1) (sym k.all)
      ∙ ap (λ xs. piece ∷ xs) (sym (cut_is (text ++ rest) ∙ ap (cut_lines []) f.2 ∙ begun f.0 f.1)));
  some = subst (λ xs. 0 < length xs) (sym k.all) (ended_some k.before (first []).0 (first []).3);
  more = some;
}

-- ---- lines that come to a piece

no_end : (line text : List ℕ) → has_line_end line ≡ false → has_line_end text ≡ false
    → has_line_end (line ++ text) ≡ false
no_end line text plain plain' =
    list_any-append breaks_line line text ∙ ap (λ b. b || has_line_end text) plain ∙ plain'

-- the beginning of a line, and its rest with its end
whole_with : (front line : List ℕ) → has_line_end front ≡ false → IsWhole line → IsWhole (front ++ line)
whole_with front line plain rest = record {
  body = front ++ rest.body;
  end = rest.end;
  all = ap (λ xs. front ++ xs) rest.all ∙ sym (append_assoc front rest.body (rest.end ∷ []));
  ends = rest.ends;
  plain = no_end front rest.body plain rest.plain;
}

-- a line's rest, with its end
add_whole : (seen seen' : Seen) (piece : List ℕ) (h : HasSeen seen piece) (line : List ℕ) → IsWhole line
    → seen'.inside ≡ false → AreSeen seen' h.before (h.line ++ line) → HasSeen seen' (piece ++ line)
add_whole seen seen' piece h line ended out are =
    let whole = h.line ++ line in
    has_seen seen' (piece ++ line) (record {
      before = h.before ++ whole ∷ [];
      all = ap (λ xs. xs ++ line) h.all ∙ append_assoc (concat h.before) h.line line ∙ sym (concat_more h.before whole);
      cuts = λ rest. ap cut (append_assoc piece line rest) ∙ h.cuts (line ++ rest)
          ∙ ap (λ xs. cut_lines h.before (lines_of xs)) (sym (append_assoc h.line line rest))
          ∙ ap (cut_lines h.before) (whole_line whole rest (whole_with h.line line h.plain ended))
          ∙ goes_on h.before whole (lines_of rest) are.belongs;
      moves = are.moves ∙ one_more is_moves_line whole;
      event = are.event ∙ one_more is_event_line whole;
    }) out
  where
    one_more : (p : List ℕ → Bool) (line : List ℕ)
        → (list_any p h.before || p line) ≡ list_any p (h.before ++ line ∷ [])
    one_more p line =
        ap (λ b. list_any p h.before || b) (sym (or_false (p line))) ∙ sym (list_any-append p h.before (line ∷ []))

-- bytes of a line that may continue, and whose kind is known
add_open : (seen seen' : Seen) (piece : List ℕ) (h : HasSeen seen piece) (text : List ℕ) → has_line_end text ≡ false
    → IsDecided (h.line ++ text) → seen'.inside ≡ true → AreSeen seen' h.before (h.line ++ text)
    → HasSeen seen' (piece ++ take (length text) text)
add_open seen seen' piece h text plain told inside are =
    subst (λ xs. HasSeen seen' (piece ++ xs)) (sym (take-length text)) (record {
      before = h.before;
      line = h.line ++ text;
      all = ap (λ xs. xs ++ text) h.all ∙ append_assoc (concat h.before) h.line text;
      plain = no_end h.line text h.plain plain;
      cuts = λ rest. ap cut (append_assoc piece text rest) ∙ h.cuts (text ++ rest)
          ∙ ap (λ xs. cut_lines h.before (lines_of xs)) (sym (append_assoc h.line text rest));
      are = are;
      inside = subst (λ b. MayGoOn b (h.line ++ text)) (sym inside) told;
    })

-- the text so far is one piece
one_piece : (seen : Seen) (piece : List ℕ) (h : HasSeen seen piece) (text : List ℕ) → has_line_end text ≡ false
    → begins_piece h.before (h.line ++ text) ≡ false → cut (piece ++ text) ≡ piece_of (piece ++ text)
one_piece seen piece h text plain belongs =
    h.cuts text ∙ last_line h.before (h.line ++ text) (no_end h.line text h.plain plain) belongs
    ∙ ap piece_of (sym (append_assoc (concat h.before) h.line text) ∙ ap (λ xs. xs ++ text) (sym h.all))

-- all that came so far is one piece
pub so_far : (seen : Seen) (piece : List ℕ) → HasSeen seen piece → cut piece ≡ piece_of piece
so_far seen piece h =
    ap cut (sym (append-nil piece))
    ∙ one_piece seen piece h [] refl (ap (begins_piece h.before) (append-nil h.line) ∙ h.are.belongs)
    ∙ ap piece_of (append-nil piece)

-- ---- the rest of a line whose kind is known

module _ (seen : Seen) (inside : seen.inside ≡ true) (piece : List ℕ) (h : HasSeen seen piece) where
  told : IsDecided h.line
  told = subst (λ b. MayGoOn b h.line) inside h.inside

  still : (seen' : Seen) → seen'.moves ≡ seen.moves → seen'.event ≡ seen.event → (line : List ℕ)
      → AreSeen seen' h.before (h.line ++ line)
  still seen' moves event line = let same = told line in record {
    belongs = same_begin h.before (h.line ++ line) h.line (same_tag (h.line ++ line) h.line same) ∙ h.are.belongs;
    moves = moves ∙ h.are.moves ∙ ap (λ b. list_any is_moves_line h.before || b) (sym same.moves);
    event = event ∙ h.are.event ∙ ap (λ b. list_any is_event_line h.before || b) (sym same.event);
  }

  pub whole_inside : (seen' : Seen) (line : List ℕ) → IsWhole line → seen'.inside ≡ false
      → seen'.moves ≡ seen.moves → seen'.event ≡ seen.event → HasSeen seen' (piece ++ line)
  whole_inside seen' line ended out moves event =
      add_whole seen seen' piece h line ended out (still seen' moves event line)

  pub open_inside : (line : List ℕ) → has_line_end line ≡ false → HasSeen seen (piece ++ take (length line) line)
  open_inside line plain =
      add_open seen seen piece h line plain (decided_on h.line line told) inside (still seen refl refl line)

-- ---- a line that comes after whole lines

module _ (seen : Seen) (out : seen.inside ≡ false) (kind : Kind) (line : List ℕ) (tag : kind.is_tag ≡ is_tag_line line)
    (event : kind.is_event ≡ is_event_line line) (piece : List ℕ) (h : HasSeen seen piece) where
  so : Closed seen piece
  so = closed seen piece h out

  -- what is known of the lines decides whether a piece begins
  test_is : (kind.is_tag && (seen.moves || (kind.is_event && seen.event))) ≡ begins_piece so.before line
  test_is =
      ap (λ b. b && (seen.moves || (kind.is_event && seen.event))) tag
      ∙ ap (λ b. is_tag_line line && (b || (kind.is_event && seen.event))) so.moves
      ∙ ap (λ b. is_tag_line line && (list_any is_moves_line so.before || (b && seen.event))) event
      ∙ ap (λ b. is_tag_line line && (list_any is_moves_line so.before || (is_event_line line && b))) so.event

  pub whole_ends : IsWhole line → (kind.is_tag && (seen.moves || (kind.is_event && seen.event))) ≡ true
      → (more : List ℕ) → Ends piece (line ++ more)
  whole_ends ended begins more =
      let l = length-append line more in
      let n = length-append ended.body (ended.end ∷ []) in
      let m = ap length ended.all in
      ends_before seen piece so (line ++ more) (omega (arith, l, n, m))
      (λ rest. (
        line,
        lines_of (more ++ rest),
        ap lines_of (append_assoc line more rest) ∙ whole_line line (more ++ rest) ended,
        sym test_is ∙ begins,
      ))

  pub open_ends : 0 < length line → has_line_end line ≡ false
      → (kind.is_tag && (seen.moves || (kind.is_event && seen.event))) ≡ true → Ends piece line
  open_ends some plain begins =
      ends_before seen piece so line some
      (λ rest. (let f = first_line line rest some plain in (
        line ++ f.0,
        f.1,
        f.2,
        same_begin so.before (line ++ f.0) line (tag_stays line
            (sym tag ∙ (and_parts kind.is_tag (seen.moves || (kind.is_event && seen.event)) begins).0) f.0)
            ∙ sym test_is ∙ begins,
      )))

  pub open_waits : has_line_end line ≡ false → (kind.is_tag && (seen.moves || (kind.is_event && seen.event))) ≡ false
      → cut (piece ++ line) ≡ piece_of (piece ++ line)
  unfolding has_seen so
  open_waits plain belongs =
      one_piece seen piece (has_seen seen piece so out) line plain (sym test_is ∙ belongs)

  module _ (seen' : Seen) (moves : kind.moves ≡ (seen.moves || is_moves_line line))
      (belongs : (kind.is_tag && (seen.moves || (kind.is_event && seen.event))) ≡ false)
      (new_moves : seen'.moves ≡ kind.moves)
      (new_event : seen'.event ≡ (seen.event || kind.is_event)) where
    came : AreSeen seen' so.before line
    came = record {
      belongs = sym test_is ∙ belongs;
      moves = new_moves ∙ moves ∙ ap (λ b. b || is_moves_line line) so.moves;
      event = new_event ∙ ap (λ b. b || kind.is_event) so.event ∙ ap (λ b. list_any is_event_line so.before || b) event;
    }

    pub whole_comes : IsWhole line → seen'.inside ≡ false → HasSeen seen' (piece ++ line)
    unfolding has_seen so
    whole_comes ended out' = add_whole seen seen' piece (has_seen seen piece so out) line ended out' came

    pub open_comes : has_line_end line ≡ false → IsDecided line → seen'.inside ≡ true
        → HasSeen seen' (piece ++ take (length line) line)
    unfolding has_seen so
    open_comes plain decided inside =
        add_open seen seen' piece (has_seen seen piece so out) line plain decided inside came

-- ---- lines in a text

-- what was looked through so far belongs to the piece
abbrev pub Through : Seen → Seen → List ℕ → ℕ → Type 0
Through old now text k = (piece : List ℕ) → HasSeen old piece → HasSeen now (piece ++ take k text)

module _ (old now : Seen) (text : List ℕ) (k : ℕ) (within : k ≤ length text) (seen : Through old now text k) where
  pub look_on : (new : Seen) (n : ℕ) → Steps now new (drop k text) (Belongs n)
      → (k + n ≤ length text) × Through old new text (k + n)
  look_on new n step =
      let l = length-drop k text in
      let few = step.1 in (
        omega (arith, l, few, within),
        λ piece h.
            subst (λ xs. HasSeen new xs)
            (append_assoc piece (take k text) (take n (drop k text)) ∙ ap (λ xs. piece ++ xs) (sym (take-add k n text)))
            (step.2 (piece ++ take k text) (seen piece h)),
      )

  pub look_ends : (new : Seen) → Steps now new (drop k text) Begins → Looks old new text true k
  look_ends new step = (within, λ piece h. step (piece ++ take k text) (seen piece h))

  pub look_waits : (new : Seen) → Steps now new (drop k text) Waits → Looks old new text false k
  look_waits new step = (
    within,
    λ piece h. (
      subst (λ s. HasSeen s (piece ++ take k text)) (sym step.0) (seen piece h),
      subst (λ xs. cut xs ≡ piece_of xs)
          (append_assoc piece (take k text) (drop k text) ∙ ap (λ xs. piece ++ xs) (take-append-drop k text))
          (step.1 (piece ++ take k text) (seen piece h)),
    ),
  )

  pub look_all : length text ≤ k → Looks old now text false k
  look_all all = (
    within,
    λ piece h. (
      seen piece h,
      subst (λ xs. cut (piece ++ xs) ≡ piece_of (piece ++ xs)) (take_all k text all)
          (so_far now (piece ++ take k text) (seen piece h)),
    ),
  )
