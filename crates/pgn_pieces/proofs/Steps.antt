-- A call for the next piece: all that was looked through belongs to it (Looked), which one read more keeps (looked_on).
-- It ends with the first of the pieces still to come (next_found, by first_known), with the last one or none
-- (next_last), or with a fault, before another piece has ended (next_stopped). If the piece is too long, other bytes
-- with the same counts are held: a caller sees the same (told_right).
use Rattle.std.proofs.Common.{◌≡◌, ◌≤◌, ◌<◌, ℕ, suc, ◌+◌, ◌-◌, ◌^◌, ◌==◌, nat_lt, Bool, true, false, List, [], ◌∷◌, ◌++◌, length, map, take, drop, Some, None, Ok, Err, refl, sym, ap, subst, ◌∙◌, append_assoc, append-nil, length-append, arith, ap₂, if◌then◌else◌, nat_le}
use Rattle.std.specs.List.{concat}
use Rattle.std.proofs.{lemmas.Bool.Decides.nat_tests, Math.Seq.take-length, Math.Seq.drop-length, lemmas.List.take-append-drop, lemmas.List.nil_from_length}
use Rattle.pgn_pieces.proofs.{LineEnds.count_append, LineEnds.take_append, CutLines.piece_of_some, InPlace.cut_is_all, shared.Inputs.read_on, shared.Inputs.broke_off}
use Rattle.byte_devices.specs.Devices.{InputState, GavePiece}
use Rattle.pgn_pieces.specs.{declared.piece_end.Seen.Seen, declared.pieces.PieceFault.PieceFault, declared.pieces.PieceFault.TheVariants.ReadFailed, declared.pieces.PieceFault.TheVariants.NoMemory, declared.pieces.PieceFault.TheVariants.InputTooLong, Pieces.cut, Pieces.HasRead, Pieces.IsCause, Places.line_ends, shared.Cutting.piece_of}
use Rattle.pgn_pieces.specs.Stream.{Piece, with_offsets, pieces, State, IsStateOf, Next, MayFollow, PieceSeen, piece_at, pieces_seen, past_piece, current, pieces_held}
use Rattle.pgn_pieces.specs.ties.Held.{HasSeen, Ends, FindsEnd, SameCounts, IsLike, LetGo, Adds, passed, with_more}

-- ---- what is held of a piece

counts_more : (p q more : List ℕ) → SameCounts p q → SameCounts (p ++ more) (q ++ more)
counts_more p q more h =
    let a = length-append p more in
    let b = length-append q more in
    let len = h.len in record {
      len = omega (arith, a, b, len);
      beginning = take_append 40 q more ∙ ap₂ (λ xs n. xs ++ take (40 - n) more) h.beginning len
          ∙ sym (take_append 40 p more);
      line_ends = count_append q more ∙ ap (λ n. n + line_ends more) h.line_ends ∙ sym (count_append p more);
    }

like_more : (p q more : List ℕ) → IsLike p q → IsLike (p ++ more) (q ++ more)
like_more p q more (counts, is) = let a = length-append p more in (
  counts_more p q more counts,
  λ few. ap (λ xs. xs ++ more) (is (omega (arith, a, few))),
)

like_on : (p q r : List ℕ) → IsLike p q → IsLike q r → IsLike p r
like_on p q r (counts, is) (counts', is') =
    let len = counts.len in (
      record {
        len = counts'.len ∙ counts.len;
        beginning = counts'.beginning ∙ counts.beginning;
        line_ends = counts'.line_ends ∙ counts.line_ends;
      },
      λ few. is' (omega (arith, len, few)) ∙ is few,
    )

-- the piece that is returned is the one with these bytes
told_right : (offset : ℕ) (p q : List ℕ) → IsLike p q → piece_at offset p ≡ piece_at offset q
told_right offset p q (counts, is) = by_test (nat_le (length p) 16777216) refl
  where
    too_long : (xs : List ℕ) → nat_le (length xs) 16777216 ≡ false → piece_at offset xs
        ≡ record {
          offset = offset;
          end = offset + length xs;
          beginning = take 40 xs;
          line_ends = line_ends xs;
          bytes = None;
        }
    too_long xs e = ap (λ b. record {
      offset = offset;
      end = offset + length xs;
      beginning = take 40 xs;
      line_ends = line_ends xs;
      bytes = if b then Some xs else None;
    }) e

    by_test : (b : Bool) → nat_le (length p) 16777216 ≡ b → piece_at offset p ≡ piece_at offset q
    by_test true e = ap (piece_at offset) (sym (is (grind (arith, nat_tests, e))))
    by_test false e =
        too_long p e
        ∙ ap (λ n. record {
          offset = offset;
          end = offset + n;
          beginning = take 40 p;
          line_ends = line_ends p;
          bytes = None;
        }) (sym counts.len)
        ∙ ap₂ (λ xs n. record {
          offset = offset;
          end = offset + length q;
          beginning = xs;
          line_ends = n;
          bytes = None;
        }) (sym counts.beginning) (sym counts.line_ends)
        ∙ sym (too_long q (ap (λ n. nat_le n 16777216) counts.len ∙ e))

-- ---- the pieces of what comes

abbrev seen_at : ℕ → List (List ℕ) → List PieceSeen
seen_at offset texts = map (λ (piece : Piece). piece_at piece.offset piece.bytes) (with_offsets offset texts)

-- a text with a byte has a piece
some_pieces : (all : List (List ℕ)) (text : List ℕ) → concat all ≡ text → 0 < length text → 0 < length all
some_pieces [] text e some = let l = ap length e in omega (arith, l, some)
some_pieces (piece ∷ others) text e some = omega arith

-- all pieces but the last, of a list that goes on after its first
but_last : {A : Type 0} (x : A) (all : List A) → 0 < length all
    → take (length (x ∷ all) - 1) (x ∷ all) ≡ x ∷ take (length all - 1) all
but_last x all some =
    let n : length (x ∷ all) - 1 ≡ suc (length all - 1) = omega (arith, some) in ap (λ k. take k (x ∷ all)) n

-- a text whose first piece is known
first_known : (ended : Bool) (offset : ℕ) (text piece rest : List ℕ) → cut text ≡ piece ∷ cut rest → 0 < length rest
    → pieces_seen ended offset text ≡ piece_at offset piece ∷ pieces_seen ended (offset + length piece) rest
unfolding pieces
first_known true offset text piece rest e some = ap (seen_at offset) e
first_known false offset text piece rest e some =
    ap (λ all. seen_at offset (take (length all - 1) all)) e
    ∙ ap (seen_at offset) (but_last piece (cut rest) (some_pieces (cut rest) rest (cut_is_all rest) some))

-- a text that is one piece, which may go on
none_known : (offset : ℕ) (text : List ℕ) → cut text ≡ piece_of text → pieces_seen false offset text ≡ []
unfolding pieces
none_known offset text e = ap (λ all. seen_at offset (take (length all - 1) all)) e ∙ none text
  where
    none : (xs : List ℕ) → seen_at offset (take (length (piece_of xs) - 1) (piece_of xs)) ≡ []
    none [] = refl
    none (x ∷ xs) = refl

last_known : (offset : ℕ) (text : List ℕ) → cut text ≡ piece_of text → 0 < length text
    → pieces_seen true offset text ≡ piece_at offset text ∷ []
unfolding pieces
last_known offset text e some = ap (seen_at offset) (e ∙ piece_of_some text some)

-- ---- what was looked through

-- from the state `s` on, these bytes of a piece were seen, after `more` was read; they are held in `s'`
pub record Looked (s s' : State) (seen : Seen) (r1 r2 : InputState) : Type 0 where
  pub piece : List ℕ
  pub more : List ℕ
  pub lines : HasSeen seen piece
  pub like : IsLike piece s'.part
  pub same : s.coming ++ more ≡ piece ++ s'.coming
  pub begins : s'.offset ≡ s.offset + length s.part
  pub over : s.ended ≡ true → (s'.ended ≡ true) × (more ≡ [])
  pub stands : (r : InputState) (text : List ℕ) → IsStateOf s r r1 text → IsStateOf s' r r2 (text ++ more)

-- where a piece begins nothing of it was looked through
pub looked_at_nothing : (s s' : State) (seen : Seen) (r : InputState) → s' ≡ past_piece s → HasSeen seen []
    → Looked s s' seen r r
looked_at_nothing s s' seen r is h = subst (λ (t : State). Looked s t seen r r) (sym is) (record {
  piece = [];
  more = [];
  lines = h;
  like = (record { len = refl; beginning = refl; line_ends = refl }, λ _. refl);
  same = append-nil s.coming;
  begins = refl;
  over = λ ended. (ended, refl);
  stands = λ r0 text stands. record {
    read = subst (HasRead s.ended r0 r) (sym (append-nil text)) stands.read;
    all =
        (let a = stands.all in let b = ap length (append-nil text) in omega (arith, a, b));
  };
})

-- a step changed neither the piece's offset nor how many bytes are held
pub record Keeps (s s' : State) : Type 0 where
  pub offset : s'.offset ≡ s.offset
  pub ended : s'.ended ≡ s.ended
  pub all : length s'.part + length s'.coming ≡ length s.part + length s.coming

stands_on : (s s' : State) (r r' : InputState) (text : List ℕ) → IsStateOf s r r' text → Keeps s s'
    → IsStateOf s' r r' text
stands_on s s' r r' text stands kept =
    let all = stands.all in
    let k = kept.all in
    let p = kept.offset in
    record {
      read = subst (λ b. HasRead b r r' text) (sym kept.ended) stands.read;
      all = omega (arith, all, k, p);
    }

keeps_by : (s s' : State) (n : ℕ) → s' ≡ passed n s → Keeps s s'
keeps_by s s' n is =
    let front = length-append s.part (take n s.coming) in
    let all = length-append (take n s.coming) (drop n s.coming) in
    let same = ap length (take-append-drop n s.coming) in
    subst (Keeps s) (sym is) (record { offset = refl; ended = refl; all = omega (arith, front, all, same) })

keeps_let_go : (s s' s'' : State) → Keeps s s' → LetGo s' s'' → Keeps s s''
keeps_let_go s s' s'' kept gone =
    let all = kept.all in
    let part = gone.part.0.len in
    let coming = ap length gone.coming in record {
      offset = gone.offset ∙ kept.offset;
      ended = gone.ended ∙ kept.ended;
      all = omega (arith, all, part, coming);
    }

still_going : (s s1 : State) (more : List ℕ) → (s.ended ≡ true → (s1.ended ≡ true) × (more ≡ []))
    → s1.ended ≡ false → s.ended ≡ false
still_going s s1 more h going = by_test s.ended refl
  where
    by_test : (b : Bool) → s.ended ≡ b → s.ended ≡ false
    by_test true e = let k = (h e).0 in cc
    by_test false e = e

-- what was found in the bytes that are held
module _ (s s1 s2 : State) (seen seen' : Seen) (r1 r2 : InputState) (looked : Looked s s1 seen r1 r2) where
  -- the piece, with `n` bytes more
  abbrev piece_to : ℕ → List ℕ
  piece_to n = looked.piece ++ take n s1.coming

  like_to : (n : ℕ) → s2 ≡ passed n s1 → IsLike (piece_to n) s2.part
  like_to n is =
      subst (λ (t : State). IsLike (piece_to n) t.part) (sym is)
      (like_more looked.piece s1.part (take n s1.coming) looked.like)

  coming_to : (n : ℕ) → s2 ≡ passed n s1 → drop n s1.coming ≡ s2.coming
  coming_to n is = ap (λ (t : State). t.coming) (sym is)

  -- all bytes from the piece's first one on
  split : (n : ℕ) → s2 ≡ passed n s1 → s.coming ++ looked.more ≡ piece_to n ++ s2.coming
  split n is =
      looked.same ∙ ap (λ xs. looked.piece ++ xs) (sym (take-append-drop n s1.coming))
      ∙ sym (append_assoc looked.piece (take n s1.coming) (drop n s1.coming)) ∙ ap (λ xs. piece_to n ++ xs) (coming_to n is)

  -- the end is not in what is held, what is too long was let go, and a read gave more
  pub looked_on : (s3 : State) (r3 : InputState) (gave : List ℕ) → s1.ended ≡ false → FindsEnd s1 s2 seen seen' false
      → LetGo s2 s3 → GavePiece r2 r3 gave → Looked s (with_more gave s3) seen' r1 r3
  looked_on s3 r3 gave going (n, is, (within, found)) gone read =
      let kept = keeps_let_go s1 s2 s3 (keeps_by s1 s2 n is) gone in
      let m = looked.more in record {
        piece = piece_to n;
        more = m ++ gave;
        lines = (found looked.piece looked.lines).0;
        like = like_on (piece_to n) s2.part s3.part (like_to n is) gone.part;
        same = sym (append_assoc s.coming m gave) ∙ ap (λ xs. xs ++ gave) (split n is)
            ∙ append_assoc (piece_to n) s2.coming gave
            ∙ ap (λ xs. piece_to n ++ (xs ++ gave)) (sym gone.coming);
        begins = kept.offset ∙ looked.begins;
        over = λ h. (let k = still_going s s1 m looked.over going in absurd (cc));
        stands = λ r text stands.
            (let so = stands_on s1 s3 r r2 (text ++ m) (looked.stands r text stands) kept in
            let all = so.all in
            let l1 = length-append (text ++ m) gave in
            let l2 = length-append s3.coming gave in
            let front = subst (λ b. HasRead b r r2 (text ++ m)) (kept.ended ∙ going) so.read in
            subst (λ xs. IsStateOf (with_more gave s3) r r3 xs) (append_assoc text m gave) (record {
              read = read_on (length gave == 0) r r2 r3 (text ++ m) gave refl front read;
              all = omega (arith, all, l1, l2);
            }));
      }

  pub next_found : FindsEnd s1 s2 seen seen' true → (r : InputState) (text : List ℕ) → IsStateOf s r r1 text
      → Next s s2 r r2 text (Ok true)
  next_found (n, is, (within, found)) r text stands =
      let kept = keeps_by s1 s2 n is in
      let m = looked.more in
      let ends = subst (Ends (piece_to n)) (coming_to n is) (found looked.piece looked.lines) in
      let begins : s.offset + length s.part ≡ s2.offset = sym (kept.offset ∙ looked.begins) in
      let like = like_to n is in (
        m,
        stands_on s1 s2 r r2 (text ++ m) (looked.stands r text stands) kept,
        λ h. (let k = looked.over h in (kept.ended ∙ k.0, k.1)),
        λ ended rest follows.
            (let l = length-append s2.coming rest in
            let some = ends.more in
            let text_is : s.coming ++ (m ++ rest) ≡ piece_to n ++ (s2.coming ++ rest) =
            sym (append_assoc s.coming m rest) ∙ ap (λ xs. xs ++ rest) (split n is)
            ∙ append_assoc (piece_to n) s2.coming rest in
            ap (pieces_seen ended (s.offset + length s.part)) text_is
            ∙ first_known ended (s.offset + length s.part) (piece_to n ++ (s2.coming ++ rest)) (piece_to n)
            (s2.coming ++ rest) (ends.cuts rest) (omega (arith, l, some))
            ∙ ap (λ o. piece_at o (piece_to n) ∷ pieces_seen ended (o + length (piece_to n)) (s2.coming ++ rest)) begins
            ∙ ap (λ x. x ∷ pieces_seen ended (s2.offset + length (piece_to n)) (s2.coming ++ rest))
            (told_right s2.offset (piece_to n) s2.part like)
            ∙ ap (λ k. current s2 ∷ pieces_seen ended (s2.offset + k) (s2.coming ++ rest)) (sym like.0.len)),
      )

  -- all bytes are one piece
  whole_piece : (n : ℕ) → s2 ≡ passed n s1 → cut (looked.piece ++ s1.coming) ≡ piece_of (looked.piece ++ s1.coming)
      → cut (s.coming ++ looked.more) ≡ piece_of (s.coming ++ looked.more)
  whole_piece n is one = subst (λ xs. cut xs ≡ piece_of xs) (sym looked.same) one

  pub found_some : FindsEnd s1 s2 seen seen' true → 0 < length s2.part
  found_some (n, is, (within, found)) =
      let some = (found looked.piece looked.lines).some in
      let l = (like_to n is).0.len in omega (arith, some, l)

  pub kept_on : (b : Bool) → FindsEnd s1 s2 seen seen' b → (s2.offset ≡ s.offset + length s.part) × (s2.ended ≡ s1.ended)
  kept_on b (n, is, found) = let kept = keeps_by s1 s2 n is in (kept.offset ∙ looked.begins, kept.ended)

  -- at the input's end
  module _ (s3 : State) (n : ℕ) (is : s2 ≡ passed n s1) (is' : s3 ≡ passed (length s2.coming) s2) where
    abbrev all : List ℕ
    all = s.coming ++ looked.more

    like_all : IsLike all s3.part
    like_all =
        subst (λ (t : State). IsLike all t.part) (sym is')
        (subst (λ xs. IsLike xs (s2.part ++ take (length s2.coming) s2.coming))
        (ap (λ xs. piece_to n ++ xs) (take-length s2.coming) ∙ sym (split n is))
        (like_more (piece_to n) s2.part (take (length s2.coming) s2.coming) (like_to n is)))

    none_coming : s3.coming ≡ []
    none_coming = ap (λ (t : State). t.coming) is' ∙ drop-length s2.coming

    kept_all : Keeps s1 s3
    kept_all =
        let k = keeps_by s1 s2 n is in
        let k' = keeps_by s2 s3 (length s2.coming) is' in
        let a = k.all in
        let a' = k'.all in
        record { offset = k'.offset ∙ k.offset; ended = k'.ended ∙ k.ended; all = omega (arith, a, a') }

    last_piece : cut all ≡ piece_of all → 0 < length all
        → pieces_held true (past_piece s) (looked.more ++ []) ≡ current s3 ∷ pieces_held true (past_piece s3) []
    unfolding pieces
    last_piece one some =
        ap (λ xs. pieces_seen true (s.offset + length s.part) (s.coming ++ xs)) (append-nil looked.more)
        ∙ last_known (s.offset + length s.part) all one some
        ∙ ap (λ o. piece_at o all ∷ []) (sym (kept_all.offset ∙ looked.begins))
        ∙ ap (λ x. x ∷ []) (told_right s3.offset all s3.part like_all)
        ∙ ap (λ xs. current s3 ∷ xs)
        (sym (ap (λ xs. pieces_seen true (s3.offset + length s3.part) (xs ++ [])) none_coming))

    pub last : (b : Bool) → cut all ≡ piece_of all → s2.ended ≡ true → b ≡ nat_lt 0 (length s3.part)
        → (r : InputState) (text : List ℕ) → IsStateOf s r r1 text → Next s s3 r r2 text (Ok b)
    unfolding pieces
    last true one over e r text stands =
        let len = like_all.0.len in
        let some : 0 < length all = grind (arith, nat_tests, e, len) in
        let ended' : s3.ended ≡ true = kept_all.ended ∙ sym (keeps_by s1 s2 n is).ended ∙ over in (
          looked.more,
          stands_on s1 s3 r r2 (text ++ looked.more) (looked.stands r text stands) kept_all,
          λ h. (ended', (looked.over h).1),
          λ ended rest follows.
              (let (t, none) = subst (λ b. MayFollow b ended rest) ended' follows in
              subst (λ xs. pieces_held ended (past_piece s) (looked.more ++ xs) ≡ current s3 ∷ pieces_held ended (past_piece s3) xs)
              (sym none)
              (subst (λ b. pieces_held b (past_piece s) (looked.more ++ []) ≡ current s3 ∷ pieces_held b (past_piece s3) [])
              (sym t) (last_piece one some))),
        )
    last false one over e r text stands =
        let len = like_all.0.len in
        let none : length all ≡ 0 = grind (arith, nat_tests, e, len) in (
          looked.more,
          subst (λ b. HasRead b r r2 (text ++ looked.more)) (sym (keeps_by s1 s2 n is).ended ∙ over)
              (looked.stands r text stands).read,
          λ h. (looked.over h).1,
          ap (pieces_seen true (s.offset + length s.part)) (nil_from_length all none),
        )

  pub next_last : (s3 : State) (b : Bool) → FindsEnd s1 s2 seen seen' false → s2.ended ≡ true
      → s3 ≡ passed (length s2.coming) s2 → b ≡ nat_lt 0 (length s3.part)
      → (r : InputState) (text : List ℕ) → IsStateOf s r r1 text → Next s s3 r r2 text (Ok b)
  next_last s3 b (n, is, (within, found)) over is' e r text stands =
      last s3 n is is' b (whole_piece n is (found looked.piece looked.lines).1) over e r text stands

  pub next_stopped : (s3 s4 s5 : State) (r3 : InputState) (fault : PieceFault) → s1.ended ≡ false
      → FindsEnd s1 s2 seen seen' false → LetGo s2 s3 → s4 ≡ s3 → Adds {A = Unit {0}} s4 s5 r2 r3 (Err fault)
      → (r : InputState) (text : List ℕ) → IsStateOf s r r1 text → Next s s5 r r3 text (Err fault)
  next_stopped s3 s4 s5 r3 fault going (n, is, (within, found)) gone slid added r text stands =
      let m = looked.more in
      let so = looked.stands r text stands in
      let kept = keeps_let_go s1 s2 s3 (keeps_by s1 s2 n is) gone in
      let front = subst (λ b. HasRead b r r2 (text ++ m)) going so.read in (
        m,
        cause r text fault so front kept added,
        still_going s s1 m looked.over going,
        none_known (s.offset + length s.part) (s.coming ++ m) (whole_piece n is (found looked.piece looked.lines).1),
      )
    where
      cause : (r : InputState) (text : List ℕ) (e : PieceFault) → IsStateOf s1 r r2 (text ++ looked.more)
          → HasRead false r r2 (text ++ looked.more) → Keeps s1 s3
          → Adds {A = Unit {0}} s4 s5 r2 r3 (Err e) → IsCause r r3 (text ++ looked.more) e
      cause r text ReadFailed so front kept (failed, same) = broke_off r r2 r3 (text ++ looked.more) front failed
      cause r text NoMemory so front kept (same, same') =
          subst (λ x. HasRead false r x (text ++ looked.more)) (sym same) front
      cause r text InputTooLong so front kept (same, same', many) = (
        subst (λ x. HasRead false r x (text ++ looked.more)) (sym same) front,
        (let all = so.all in
            let k = kept.all in
            let p = kept.offset in
            let many' : 2 ^ 63 ≤ s3.offset + (length s3.part + length s3.coming) + 2 ^ 16 =
            subst (λ (t : State). 2 ^ 63 ≤ t.offset + (length t.part + length t.coming) + 2 ^ 16) slid many in
            omega (arith, all, k, p, many')),
      )
