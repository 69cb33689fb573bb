-- The kind of a line that may go on. After 256 bytes no more bytes change it (decided_long), nor of a line whose kind
-- is known already (decided_on), since the front is the same. A shorter tag line stays one (tag_stays), of the tag
-- Event or of another, since bytes are added only after its name and quote.
use Rattle.std.proofs.Common.{◌≡◌, ◌≤◌, ◌<◌, ℕ, zero, suc, ◌+◌, eqb, leb, Bool, true, false, List, [], ◌∷◌, ◌++◌, length, take, drop, cond, refl, sym, ap, ◌∙◌, length-drop, append_assoc, arith, bytes_eq, if◌then◌else◌, ◌&&◌, not, nat_lt, codes}
use Rattle.std.specs.List.{list_any, prefix_len, take_while}
use Rattle.std.proofs.{lemmas.Bool.and_parts, lemmas.Bool.leb-true, lemmas.Bool.Decides.nat_tests, lemmas.List.take-append-le, lemmas.List.drop-append-le, lemmas.List.take_all, lemmas.List.Folds.prefix_len-append, lemmas.List.Folds.length-prefix_len, lemmas.List.Sums.prefix_len-le-length}
use Rattle.pgn_pieces.specs.{Places.breaks_line, Pieces.front_of, Pieces.tag_name, Pieces.after_name, Pieces.begins_tag, Pieces.after_parts, Pieces.has_more, Pieces.is_tag_line, Pieces.is_event_line, Pieces.is_moves_line}
use Rattle.byte_devices.specs.Bytes.{after_byte_order_mark, is_blank, is_name_byte}
use Rattle.pgn_pieces.specs.{ties.Fronts.is_empty_with, ties.Fronts.without_blanks, ties.Held.SameKind, ties.Held.SameTag, ties.Held.IsDecided}

abbrev without_mark : List ℕ → List ℕ
without_mark text = drop (after_byte_order_mark text 0) text

-- ---- a line of 256 bytes or more

same_front : (a b : List ℕ) → take 1 a ≡ take 1 b → front_of a ≡ front_of b → SameKind a b
same_front a b first h = record {
  tag = ap begins_tag h;
  event = ap (λ f. begins_tag f && bytes_eq (tag_name f) (codes "Event")) h;
  moves = ap (λ f. if begins_tag f then has_more (list_any breaks_line f) (after_parts 256 f)
      else not (is_empty_with (take 1 a) f)) h
      ∙ ap (λ t. if is_tag_line b then has_more (list_any breaks_line (front_of b)) (after_parts 256 (front_of b))
      else not (is_empty_with t (front_of b))) first;
}

pub same_tag : (a b : List ℕ) → SameKind a b → SameTag a b
same_tag a b h = record { tag = h.tag; event = h.event }

pub decided_long : (line : List ℕ) → 256 ≤ length line → IsDecided line
decided_long line h more =
    same_front (line ++ more) line (take-append-le 1 line more (omega (arith, h)))
    (ap (λ t. without_blanks (without_mark t)) (take-append-le 256 line more h))

-- ---- a shorter tag line

-- bytes that stop a run go on to stop it
run_kept : (p : ℕ → Bool) (xs ys : List ℕ) → prefix_len p xs < length xs → prefix_len p (xs ++ ys) ≡ prefix_len p xs
run_kept p xs ys h =
    let no : eqb (prefix_len p xs) (length xs) ≡ false = grind (arith, nat_tests, h) in
    prefix_len-append p xs ys ∙ ap (λ b. cond b (length xs + prefix_len p ys) (prefix_len p xs)) no

-- where a byte other than spaces and tabs ends those at a text's beginning, more bytes change nothing there
blanks_kept : (text more : List ℕ) → 0 < length (without_blanks text)
    → without_blanks (text ++ more) ≡ without_blanks text ++ more
blanks_kept text more some =
    let l = length-drop (prefix_len is_blank text) text in
    let end : prefix_len is_blank text < length text = omega (arith, l, some) in
    ap (λ n. drop n (text ++ more)) (run_kept is_blank text more end)
    ∙ drop-append-le (prefix_len is_blank text) text more (prefix_len-le-length is_blank text)

some_first : (xs : List ℕ) (c : ℕ) → bytes_eq (take 1 xs) (c ∷ []) ≡ true → 0 < length xs
some_first [] c h = absurd (cc)
some_first (x ∷ xs) c h = omega arith

same_test : (a a' n n' q q' : List ℕ) → a ≡ a' → n ≡ n' → q ≡ q'
    → (bytes_eq a (codes "[") && nat_lt 0 (length n) && bytes_eq q (codes "\""))
    ≡ (bytes_eq a' (codes "[") && nat_lt 0 (length n') && bytes_eq q' (codes "\""))
same_test a a' n n' q q' a_is n_is q_is = cc

module _ (front : List ℕ) (tag : begins_tag front ≡ true) where
  abbrev rest : List ℕ
  rest = drop 1 front

  abbrev after : List ℕ
  after = drop (length (tag_name front)) rest

  parts : ((bytes_eq (take 1 front) (codes "[") && nat_lt 0 (length (tag_name front))) ≡ true)
      × (bytes_eq (take 1 (after_name front)) (codes "\"") ≡ true)
  parts = and_parts (bytes_eq (take 1 front) (codes "[") && nat_lt 0 (length (tag_name front)))
      (bytes_eq (take 1 (after_name front)) (codes "\"")) tag

  quoted : 0 < length (after_name front)
  quoted = some_first (after_name front) 34 parts.1

  named : 0 < length (tag_name front)
  named =
      let h = (and_parts (bytes_eq (take 1 front) (codes "[")) (nat_lt 0 (length (tag_name front))) parts.0).1 in
      grind (arith, nat_tests, h)

  -- three bytes or more
  pub tag_len : 3 ≤ length front
  tag_len =
      let a = length-drop 1 front in
      let b = length-drop (length (tag_name front)) rest in
      let c = length-drop (prefix_len is_blank after) after in
      omega (arith, a, b, c, quoted, named)

  name_ends : prefix_len is_name_byte rest < length rest
  name_ends =
      let n = length-prefix_len is_name_byte rest in
      let b = length-drop (length (tag_name front)) rest in
      let c = length-drop (prefix_len is_blank after) after in
      omega (arith, n, b, c, quoted)

  module _ (more : List ℕ) where
    rest_more : drop 1 (front ++ more) ≡ rest ++ more
    rest_more = let three = tag_len in drop-append-le 1 front more (omega (arith, three))

    pub name_kept : tag_name (front ++ more) ≡ tag_name front
    name_kept =
        ap (take_while is_name_byte) rest_more
        ∙ ap (λ n. take n (rest ++ more)) (run_kept is_name_byte rest more name_ends)
        ∙ take-append-le (prefix_len is_name_byte rest) rest more (prefix_len-le-length is_name_byte rest)

    after_more : drop (length (tag_name (front ++ more))) (drop 1 (front ++ more)) ≡ after ++ more
    after_more =
        let n = length-prefix_len is_name_byte rest in
        let l = name_ends in
        ap (λ xs. drop (length xs) (drop 1 (front ++ more))) name_kept ∙ ap (drop (length (tag_name front))) rest_more
        ∙ drop-append-le (length (tag_name front)) rest more (omega (arith, n, l))

    after_kept : after_name (front ++ more) ≡ after_name front ++ more
    after_kept = ap without_blanks after_more ∙ blanks_kept after more quoted

    pub tag_kept : begins_tag (front ++ more) ≡ true
    tag_kept =
        let q = quoted in
        let three = tag_len in
        let first : take 1 (front ++ more) ≡ take 1 front = take-append-le 1 front more (omega (arith, three)) in
        let quote : take 1 (after_name (front ++ more)) ≡ take 1 (after_name front) =
        ap (take 1) after_kept ∙ take-append-le 1 (after_name front) more (omega (arith, q)) in
        same_test (take 1 (front ++ more)) (take 1 front) (tag_name (front ++ more)) (tag_name front)
        (take 1 (after_name (front ++ more))) (take 1 (after_name front)) first name_kept quote ∙ tag

mark_kept : (text more : List ℕ) → 3 ≤ length text → without_mark (text ++ more) ≡ without_mark text ++ more
mark_kept text more h =
    ap (λ xs. drop (if bytes_eq xs (239 ∷ 187 ∷ 191 ∷ []) then 3 else 0) (text ++ more)) (take-append-le 3 text more h)
    ∙ by_test (bytes_eq (take 3 text) (239 ∷ 187 ∷ 191 ∷ []))
  where
    by_test : (b : Bool) → drop (if b then 3 else 0) (text ++ more) ≡ drop (if b then 3 else 0) text ++ more
    by_test true = drop-append-le 3 text more h
    by_test false = refl

unmarked_le : (text : List ℕ) → length (without_mark text) ≤ length text
unmarked_le text = let l = length-drop (after_byte_order_mark text 0) text in omega (arith, l)

-- a text taken whole, with what follows it as far as that is taken
taken : (n : ℕ) (xs ys : List ℕ) → length xs ≤ n → (zs : List ℕ) × (take n (xs ++ ys) ≡ xs ++ zs)
taken n [] ys h = (take n ys, refl)
taken zero (x ∷ xs) ys h = absurd (omega (arith, h))
taken (suc n) (x ∷ xs) ys h = let w = taken n xs ys (omega (arith, h)) in (w.0, ap (λ zs. x ∷ zs) w.1)

decided_short : (line : List ℕ) → length line ≤ 256 → is_tag_line line ≡ true → (more : List ℕ)
    → SameTag (line ++ more) line
decided_short line h tag more =
    let unmarked = without_mark line in
    let f = without_blanks unmarked in
    let front : front_of line ≡ f = ap (λ t. without_blanks (without_mark t)) (take_all 256 line h) in
    let tag' : begins_tag f ≡ true = ap begins_tag (sym front) ∙ tag in
    let few = unmarked_le line in
    let fewer = length-drop (prefix_len is_blank unmarked) unmarked in
    let three = tag_len f tag' in
    let long = taken 256 line more h in
    let front' : front_of (line ++ more) ≡ f ++ long.0 =
    ap (λ t. without_blanks (without_mark t)) long.1
    ∙ ap without_blanks (mark_kept line long.0 (omega (arith, few, fewer, three)))
    ∙ blanks_kept unmarked long.0 (omega (arith, three)) in
    let tags : is_tag_line (line ++ more) ≡ is_tag_line line =
    ap begins_tag front' ∙ tag_kept f tag' long.0 ∙ sym tag in
    let names : tag_name (front_of (line ++ more)) ≡ tag_name (front_of line) =
    ap tag_name front' ∙ name_kept f tag' long.0 ∙ ap tag_name (sym front) in record {
      tag = tags;
      event = ap (λ b. b && bytes_eq (tag_name (front_of (line ++ more))) (codes "Event")) tags
          ∙ ap (λ xs. is_tag_line line && bytes_eq xs (codes "Event")) names;
    }

-- a tag line remains one
pub tag_stays : (line : List ℕ) → is_tag_line line ≡ true → (more : List ℕ) → SameTag (line ++ more) line
tag_stays line tag more = by_test (leb 256 (length line)) refl
  where
    by_test : (b : Bool) → leb 256 (length line) ≡ b → SameTag (line ++ more) line
    by_test true e = same_tag (line ++ more) line (decided_long line (leb-true 256 (length line) e) more)
    by_test false e = decided_short line (grind (arith, nat_tests, e)) tag more

-- how a line of a known kind continues does not matter
pub decided_on : (line more : List ℕ) → IsDecided line → IsDecided (line ++ more)
decided_on line more told rest =
    let far = told (more ++ rest) in
    let near = told more in record {
      tag = ap is_tag_line (append_assoc line more rest) ∙ far.tag ∙ sym near.tag;
      event = ap is_event_line (append_assoc line more rest) ∙ far.event ∙ sym near.event;
      moves = ap is_moves_line (append_assoc line more rest) ∙ far.moves ∙ sym near.moves;
    }
