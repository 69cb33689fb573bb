-- The index of a game's positions: a table with the latest position of each bucket (its head), and with each played
-- move a link to the one before in its bucket, and a count. It is right for a new game (begun), and stays so with one
-- move more (pushed_index) or fewer (popped_index) and while the table is emptied from the last position back
-- (heads_back, cleared): only the head of that move's bucket changes. `known_at .. k` is the position with number k.
use Rattle.std.proofs.Common.{◌≡◌, ◌≢◌, ◌∙◌, ℕ, suc, ◌-◌, ◌<◌, ◌≤◌, ◌==◌, Bool, true, false, List, [], ◌∷◌, ◌++◌, length, get_or, set, refl, sym, ap, subst, arith, true≢false, eqb-true, eq-eqb}
use Rattle.std.proofs.Math.Seq.{get_or-append_seam}
use Rattle.std.proofs.lemmas.List.{get_or-set_same, get_or-set_other, length-set, length-append, get_or_append_left}
use Rattle.chess_base.specs.declared.setup.Setup.{Setup}
use Rattle.chess_game.specs.{Same.is_same_position, declared.game.PlayedMove.PlayedMove, declared.index.TheConstants.BUCKETS, declared.repetition.Hashed.Hashed}
use Rattle.chess_game.specs.ties.Buckets.{bucket, known_at, is_in, is_same_at, latest_below, count_below, HaveHeads, IsEmpty, HasEntry, HaveEntries, IsIndexed}
use Rattle.chess_game.proofs.Latest.{latest_alike, latest_fails, latest_here, count_alike}
use Rattle.chess_game.proofs.Numbered.{known_place, known_before, known_last}

-- each position's bucket is in the table
in_table : (table : List ℕ) (k : Hashed) → length table ≡ BUCKETS → bucket k < length table
in_table table k len = omega (arith, len)

differs : (b c : ℕ) → (b == c) ≡ false → c ≢ b
differs b c e = λ q. true≢false (sym (eq-eqb b c (sym q)) ∙ e)

-- ---- the heads

-- the head of the last position's bucket (its number is m) is put back to the position's link e: then the heads are
-- those of the first m positions
pub heads_fewer : (table : List ℕ) (start : Hashed) (xs : List PlayedMove) (m e : ℕ) → length table ≡ BUCKETS
    → HaveHeads table start xs (suc m) → e ≡ latest_below (is_in start xs (bucket (known_at start xs m))) m
    → HaveHeads (set table (bucket (known_at start xs m)) e) start xs m
heads_fewer table start xs m e len heads is b h = by_test (is_in start xs b m) refl
  where
    by_test : (c : Bool) → is_in start xs b m ≡ c
        → get_or (set table (bucket (known_at start xs m)) e) b 0 ≡ latest_below (is_in start xs b) m
    by_test true there =
        subst (λ v. get_or (set table (bucket (known_at start xs m)) e) v 0 ≡ latest_below (is_in start xs v) m)
        (eqb-true (bucket (known_at start xs m)) b there)
        (get_or-set_same table (bucket (known_at start xs m)) e 0 (in_table table (known_at start xs m) len) ∙ is)
    by_test false other =
        get_or-set_other table (bucket (known_at start xs m)) b e 0
        (differs (bucket (known_at start xs m)) b other)
        ∙ heads b h ∙ latest_fails (is_in start xs b) m other

-- position m is made the head of its bucket (as m + 1, since 0 says that a bucket is empty): then the heads are those
-- of the positions up to it
pub heads_more : (table : List ℕ) (start : Hashed) (xs : List PlayedMove) (m : ℕ) → length table ≡ BUCKETS
    → HaveHeads table start xs m
    → HaveHeads (set table (bucket (known_at start xs m)) (suc m)) start xs (suc m)
heads_more table start xs m len heads b h = by_test (is_in start xs b m) refl
  where
    by_test : (c : Bool) → is_in start xs b m ≡ c
        → get_or (set table (bucket (known_at start xs m)) (suc m)) b 0 ≡ latest_below (is_in start xs b) (suc m)
    by_test true there =
        subst (λ v. get_or (set table (bucket (known_at start xs m)) (suc m)) v 0 ≡ suc m)
        (eqb-true (bucket (known_at start xs m)) b there)
        (get_or-set_same table (bucket (known_at start xs m)) (suc m) 0 (in_table table (known_at start xs m) len))
        ∙ sym (latest_here (is_in start xs b) m there)
    by_test false other =
        get_or-set_other table (bucket (known_at start xs m)) b (suc m) 0
        (differs (bucket (known_at start xs m)) b other)
        ∙ heads b h ∙ sym (latest_fails (is_in start xs b) m other)

-- ---- one played move more or fewer

-- one more played move y doesn't change which of the first n positions is the latest in a bucket
latest_before : (start : Hashed) (xs : List PlayedMove) (y : PlayedMove) (b n : ℕ) → n ≤ suc (length xs)
    → latest_below (is_in start (xs ++ y ∷ []) b) n ≡ latest_below (is_in start xs b) n
latest_before start xs y b n h =
    latest_alike (is_in start (xs ++ y ∷ []) b) (is_in start xs b) n
    (λ k l. ap (λ v. bucket v == b) (known_before start xs y k (omega (arith, l, h))))

-- one more played move y doesn't change how many of the first n positions are the same as q
count_before : (start : Hashed) (xs : List PlayedMove) (y : PlayedMove) (q : Setup) (n : ℕ) → n ≤ suc (length xs)
    → count_below (is_same_at start (xs ++ y ∷ []) q) n ≡ count_below (is_same_at start xs q) n
count_before start xs y q n h =
    count_alike (is_same_at start (xs ++ y ∷ []) q) (is_same_at start xs q) n
    (λ k l. ap (λ v. is_same_position v.position q) (known_before start xs y k (omega (arith, l, h))))

-- the entry of played move k, or of the one to come next, stays right when y is added
entry_later : (start : Hashed) (xs : List PlayedMove) (y : PlayedMove) (k : ℕ) (x : PlayedMove) → k ≤ length xs
    → HasEntry start xs k x → HasEntry start (xs ++ y ∷ []) k x
entry_later start xs y k x h entry = record {
  earlier = entry.earlier ∙ sym (latest_before start xs y (bucket x.reached) (suc k) (omega arith));
  count = entry.count ∙ ap suc (sym (count_before start xs y x.reached.position (suc k) (omega arith)));
}

-- the entry of played move k, or of the last one, stays right when y is taken away
entry_before : (start : Hashed) (xs : List PlayedMove) (y : PlayedMove) (k : ℕ) (x : PlayedMove) → k ≤ length xs
    → HasEntry start (xs ++ y ∷ []) k x → HasEntry start xs k x
entry_before start xs y k x h entry = record {
  earlier = entry.earlier ∙ latest_before start xs y (bucket x.reached) (suc k) (omega arith);
  count = entry.count ∙ ap suc (count_before start xs y x.reached.position (suc k) (omega arith));
}

long : (xs : List PlayedMove) (y : PlayedMove) → length (xs ++ y ∷ []) ≡ suc (length xs)
long xs y = let e = length-append xs (y ∷ []) in omega (arith, e)

-- if y has its entry, all moves have theirs with y added
entries_more : (start : Hashed) (xs : List PlayedMove) (y : PlayedMove) → HaveEntries start xs
    → HasEntry start xs (length xs) y → HaveEntries start (xs ++ y ∷ [])
entries_more start xs y entries entry k d h = by_test (k == length xs) refl
  where
    by_test : (c : Bool) → (k == length xs) ≡ c → HasEntry start (xs ++ y ∷ []) k (get_or (xs ++ y ∷ []) k d)
    by_test true e =
        subst (λ n. HasEntry start (xs ++ y ∷ []) n (get_or (xs ++ y ∷ []) n d)) (sym (eqb-true k (length xs) e))
        (subst (HasEntry start (xs ++ y ∷ []) (length xs)) (sym (get_or-append_seam xs y [] d))
        (entry_later start xs y (length xs) y (omega arith) entry))
    by_test false e =
        let other = differs k (length xs) e in
        let low : k < length xs = let l = long xs y in omega (arith, h, l, other) in
        subst (HasEntry start (xs ++ y ∷ []) k) (sym (get_or_append_left xs (y ∷ []) d k low))
        (entry_later start xs y k (get_or xs k d) (omega (arith, low)) (entries k d low))

-- without the last played move the others keep their entries
entries_fewer : (start : Hashed) (xs : List PlayedMove) (y : PlayedMove) → HaveEntries start (xs ++ y ∷ [])
    → HaveEntries start xs
entries_fewer start xs y entries k d h =
    let l = long xs y in
    entry_before start xs y k (get_or xs k d) (omega (arith, h))
    (subst (HasEntry start (xs ++ y ∷ []) k) (get_or_append_left xs (y ∷ []) d k h) (entries k d (omega (arith, h, l))))

-- the last move's entry, by the positions before it
entry_last : (start : Hashed) (xs : List PlayedMove) (y : PlayedMove) → HaveEntries start (xs ++ y ∷ [])
    → HasEntry start xs (length xs) y
entry_last start xs y entries =
    let l = long xs y in
    entry_before start xs y (length xs) y (omega arith)
    (subst (HasEntry start (xs ++ y ∷ []) (length xs)) (get_or-append_seam xs y [] y)
    (entries (length xs) y (omega (arith, l))))

-- ---- the index

-- an empty table with the start as the head of its bucket is the index of a game without moves
pub begun : (table : List ℕ) (start : Hashed) (b : ℕ) → IsEmpty table → b ≡ bucket start
    → IsIndexed (set table b 1) start []
unfolding latest_below known_at
begun table start b clean is = subst (λ v. IsIndexed (set table v 1) start []) (sym is) (record {
  buckets = length-set table (bucket start) 1 ∙ clean.buckets;
  heads = heads_more table start [] 0 clean.buckets clean.none;
  entries = λ k d h. absurd (omega arith);
})

-- after y, with its link and count set, its position as the head of its bucket makes the index that of one move more
pub pushed_index : (table : List ℕ) (start : Hashed) (xs : List PlayedMove) (y : PlayedMove) (b n : ℕ)
    → IsIndexed table start xs
    → b ≡ bucket y.reached → n ≡ suc (suc (length xs)) → y.entry.earlier ≡ get_or table (bucket y.reached) 0
    → y.entry.count ≡ suc (count_below (is_same_at start xs y.reached.position) (suc (length xs)))
    → IsIndexed (set table b n) start (xs ++ y ∷ [])
pushed_index table start xs y b n index is next earlier counted =
    let zs = xs ++ y ∷ [] in
    let len = index.buckets in
    let before : HaveHeads table start zs (suc (length xs)) = λ c h. index.heads c h
    ∙ sym (latest_before start xs y c (suc (length xs)) (omega arith)) in
    let now = heads_more table start zs (suc (length xs)) len before in
    let there : bucket (known_at start zs (suc (length xs))) ≡ b = ap bucket (known_last start xs y) ∙ sym is in
    let here : HaveHeads (set table b (suc (suc (length xs)))) start zs (suc (suc (length xs))) =
    subst (λ v. HaveHeads (set table v (suc (suc (length xs)))) start zs (suc (suc (length xs)))) there now in
    let all : HaveHeads (set table b n) start zs (suc (suc (length xs))) =
    subst (λ v. HaveHeads (set table b v) start zs (suc (suc (length xs)))) (sym next) here in
    let low : bucket y.reached < BUCKETS = omega arith in
    record {
      buckets = length-set table b n ∙ len;
      heads = subst (HaveHeads (set table b n) start zs) (ap suc (sym (long xs y))) all;
      entries = entries_more start xs y index.entries
          (record { earlier = earlier ∙ index.heads (bucket y.reached) low; count = counted });
    }

-- with the last move's link as the head of its bucket, the index is that of one move fewer
pub popped_index : (table : List ℕ) (start : Hashed) (xs : List PlayedMove) (y : PlayedMove) (b : ℕ)
    → IsIndexed table start (xs ++ y ∷ []) → b ≡ bucket y.reached
    → IsIndexed (set table b y.entry.earlier) start xs
popped_index table start xs y b index is =
    let zs = xs ++ y ∷ [] in
    let len = index.buckets in
    let entry = entry_last start xs y index.entries in
    let there : bucket (known_at start zs (suc (length xs))) ≡ bucket y.reached = ap bucket (known_last start xs y) in
    let link : y.entry.earlier ≡ latest_below (is_in start zs (bucket (known_at start zs (suc (length xs)))))
    (suc (length xs))
    = entry.earlier ∙ sym (latest_before start xs y (bucket y.reached) (suc (length xs)) (omega arith))
    ∙ ap (λ v. latest_below (is_in start zs v) (suc (length xs))) (sym there) in
    let whole : HaveHeads table start zs (suc (suc (length xs))) = subst (HaveHeads table start zs)
    (ap suc (long xs y)) index.heads in
    let fewer = heads_fewer table start zs (suc (length xs)) y.entry.earlier len whole link in
    let left : HaveHeads (set table b y.entry.earlier) start zs (suc (length xs)) =
    subst (λ v. HaveHeads (set table v y.entry.earlier) start zs (suc (length xs))) (there ∙ sym is) fewer in
    record {
      buckets = length-set table b y.entry.earlier ∙ len;
      heads = λ c h. left c h ∙ latest_before start xs y c (suc (length xs)) (omega arith);
      entries = entries_fewer start xs y index.entries;
    }

-- ---- emptying the table

-- a step of emptying the table: move x reached the last of the positions that are left; its link becomes the head
pub heads_back : (table : List ℕ) (start : Hashed) (xs : List PlayedMove) (left : ℕ) (x : PlayedMove) (b : ℕ)
    → length table ≡ BUCKETS → HaveEntries start xs → HaveHeads table start xs (suc left) → 0 < left → left ≤ length xs
    → x ≡ get_or xs (left - 1) x → b ≡ bucket x.reached
    → HaveHeads (set table b x.entry.earlier) start xs (suc (left - 1))
heads_back table start xs left x b len entries heads some h played_move is =
    let entry = subst (HasEntry start xs (left - 1)) (sym played_move) (entries (left - 1) x (omega (arith, some, h)))
    in
    let next : left ≡ suc (left - 1) = omega (arith, some) in
    let there : bucket (known_at start xs (suc (left - 1))) ≡ bucket x.reached = ap bucket
    (known_place start xs (left - 1) x (omega (arith, some, h)) ∙ ap (λ v. v.reached) (sym played_move)) in
    let link : x.entry.earlier ≡ latest_below (is_in start xs (bucket (known_at start xs (suc (left - 1)))))
    (suc (left - 1)) =
    entry.earlier ∙ ap (λ v. latest_below (is_in start xs v) (suc (left - 1))) (sym there) in
    let whole : HaveHeads table start xs (suc (suc (left - 1))) =
    subst (HaveHeads table start xs) (ap suc next) heads in
    subst (λ v. HaveHeads (set table v x.entry.earlier) start xs (suc (left - 1))) (there ∙ sym is)
    (heads_fewer table start xs (suc (left - 1)) x.entry.earlier len whole link)

-- at last only the start is left: with 0 as the head of its bucket the table is empty
pub cleared : (table : List ℕ) (start : Hashed) (xs : List PlayedMove) (left b : ℕ) → length table ≡ BUCKETS
    → HaveHeads table start xs (suc left) → left ≤ 0 → b ≡ bucket start → IsEmpty (set table b 0)
unfolding latest_below known_at
cleared table start xs left b len heads none is =
    let at_start : left ≡ 0 = omega (arith, none) in
    let first : HaveHeads table start xs 1 = subst (λ n. HaveHeads table start xs (suc n)) at_start heads in
    subst (λ v. IsEmpty (set table v 0)) (sym is) (record {
      buckets = length-set table (bucket start) 0 ∙ len;
      none = heads_fewer table start xs 0 0 len first refl;
    })
