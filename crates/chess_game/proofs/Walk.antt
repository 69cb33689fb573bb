-- How often the position `now` occurred before is found by a walk along the links of its bucket, from the latest
-- position back. It ends at the first that is the same, which keeps how many there were up to it (walk_found), or at
-- the end of the links (walk_ends), or where all others are too old to be the same (walk_stops): in these two cases
-- `now` is new. In the walk `at` is a position's number plus one; 0 is the end of the links.
-- Last, the repetitions of the current position (rep_alone, rep_kept).
use Rattle.std.proofs.Common.{◌≡◌, ◌∙◌, ℕ, suc, ◌+◌, ◌-◌, ◌%◌, ◌<◌, ◌≤◌, true, false, cond, List, [], ◌∷◌, length, get_or, count_by, refl, sym, ap, subst, arith, eq-eqb, eqb-true}
use Rattle.std.proofs.{lemmas.List.nil_from_length, lemmas.List.Sums.sum_by-cons}
use Rattle.chess_base.specs.{declared.setup.Setup.Setup, Sound.IsSound}
use Rattle.chess_game.specs.{Line.position_after, Same.is_same_position, Same.repetition_count, declared.game.PlayedMove.PlayedMove, declared.index.TheConstants.BUCKETS, declared.repetition.Hashed.Hashed}
use Rattle.chess_game.specs.ties.PlayedMoves.{moves_of, Hashing, HasHash, HaveHashes, Follows}
use Rattle.chess_game.specs.ties.Buckets.{bucket, known_at, is_in, is_same_at, latest_below, count_below, HasEntry, HaveEntries}
use Rattle.chess_game.proofs.{Counting.seen, Counting.counted, Counting.one_if, EqualHashes.equal_hashes, EqualHashes.same_alike, Kept.at_end, Numbered.known_place, Numbered.hash_of_known, Numbered.sound_is, SameSelf.same_self}
use Rattle.chess_game.proofs.Latest.{latest_low, latest_passes, count_low, count_alike, count_here, count_fails, count_first, count_none, skipped}

-- what a walk rests on: the positions of a game, and one that is looked for
pub record IsSought (start : Hashed) (xs : List PlayedMove) (now : Hashed) : Type 0 where
  pub follows : Follows start.position xs
  pub hashes : (f : Hashing) × HaveHashes f start xs × HasHash f now
  pub sound : IsSound (position_after start.position (moves_of xs))
  pub sound_now : IsSound now.position

pub is_sought : (start : Hashed) (xs : List PlayedMove) (now : Hashed) → Follows start.position xs
    → (f : Hashing) × HaveHashes f start xs × HasHash f now → IsSound (position_after start.position (moves_of xs))
    → IsSound now.position → IsSought start xs now
is_sought start xs now f h s n = record { follows = f; hashes = h; sound = s; sound_now = n }

-- a position that is the same as `now` has the same hash, so it is in the same bucket
met_there : (start : Hashed) (xs : List PlayedMove) (now : Hashed) (k : ℕ) → IsSought start xs now → k < suc (length xs)
    → is_same_at start xs now.position k ≡ true → is_in start xs (bucket now) k ≡ true
met_there start xs now k s h met =
    let f = s.hashes.0 in
    let hashes : (known_at start xs k).hash ≡ now.hash =
    hash_of_known f start xs k s.hashes.1
    ∙ equal_hashes f (known_at start xs k).position now.position (sound_is start xs k s.follows s.sound h) s.sound_now
    met
    ∙ sym s.hashes.2 in
    eq-eqb (bucket (known_at start xs k)) (bucket now) (ap (λ w. w % BUCKETS) hashes)

-- the walk's invariant: `at` is at a position of the bucket or 0, and no position after it is the same as `now`
pub record IsAlong (start : Hashed) (xs : List PlayedMove) (now : Hashed) (at : ℕ) : Type 0 where
  pub low : at ≤ suc (length xs)
  pub there : (k : ℕ) → at ≡ suc k → is_in start xs (bucket now) k ≡ true
  pub rest : count_below (is_same_at start xs now.position) (suc (length xs))
      ≡ count_below (is_same_at start xs now.position) at

-- the invariant holds at the latest position of the bucket below n, if none from n on is the same
along : (start : Hashed) (xs : List PlayedMove) (now : Hashed) (at n : ℕ) → IsSought start xs now → n ≤ suc (length xs)
    → at ≡ latest_below (is_in start xs (bucket now)) n
    → count_below (is_same_at start xs now.position) (suc (length xs))
    ≡ count_below (is_same_at start xs now.position) n → IsAlong start xs now at
along start xs now at n s h is rest =
    let t = is_in start xs (bucket now) in
    let low = latest_low t n in
    record {
      low = omega (arith, is, low, h);
      there = λ k e. latest_passes t n k (sym is ∙ e);
      rest = rest
          ∙ skipped (is_same_at start xs now.position) t n (λ k l. met_there start xs now k s (omega (arith, l, h)))
          ∙ ap (count_below (is_same_at start xs now.position)) (sym is);
    }

-- the walk's invariant holds at the head of the bucket
pub walk_begins : (start : Hashed) (xs : List PlayedMove) (now : Hashed) (head : ℕ) → IsSought start xs now
    → head ≡ latest_below (is_in start xs (bucket now)) (suc (length xs)) → IsAlong start xs now head
walk_begins start xs now head s is = along start xs now head (suc (length xs)) s (omega arith) is refl

-- where `at` is 2 or more, the walk is at the position that played move at - 2 reached, which is x
pub record IsPlace (start : Hashed) (xs : List PlayedMove) (at : ℕ) (x : PlayedMove) : Type 0 where
  pub next : at ≡ suc (suc (at - 2))
  pub known : known_at start xs (suc (at - 2)) ≡ x.reached
  pub entry : HasEntry start xs (at - 2) x
  pub low : at - 2 < length xs

is_place : (start : Hashed) (xs : List PlayedMove) (now : Hashed) (at : ℕ) (x : PlayedMove) → HaveEntries start xs
    → IsAlong start xs now at → 1 < at → x ≡ get_or xs (at - 2) x → IsPlace start xs at x
is_place start xs now at x entries a some is =
    let few = a.low in
    record {
      next = omega (arith, some);
      known = known_place start xs (at - 2) x (omega (arith, some, few)) ∙ ap (λ v. v.reached) (sym is);
      entry = subst (HasEntry start xs (at - 2)) (sym is) (entries (at - 2) x (omega (arith, some, few)));
      low = omega (arith, some, few);
    }

-- if the position that the walk is at isn't the same as `now`, the invariant holds at its link
pub walk_goes_on : (start : Hashed) (xs : List PlayedMove) (now : Hashed) (at : ℕ) (x : PlayedMove)
    → IsSought start xs now → HaveEntries start xs → IsAlong start xs now at → 1 < at → x ≡ get_or xs (at - 2) x
    → is_same_position x.reached.position now.position ≡ false
    → IsAlong start xs now x.entry.earlier
walk_goes_on start xs now at x s entries a some is other =
    let p = is_place start xs now at x entries a some is in
    let there : bucket (known_at start xs (suc (at - 2))) ≡ bucket now =
    eqb-true (bucket (known_at start xs (suc (at - 2)))) (bucket now) (a.there (suc (at - 2)) p.next) in
    let link : x.entry.earlier ≡ latest_below (is_in start xs (bucket now)) (suc (at - 2)) = p.entry.earlier
    ∙ ap (λ v. latest_below (is_in start xs v) (suc (at - 2))) (sym (ap bucket p.known) ∙ there) in
    let off : is_same_at start xs now.position (suc (at - 2)) ≡ false =
    ap (λ v. is_same_position v.position now.position) p.known ∙ other in
    let low = p.low in
    along start xs now x.entry.earlier (suc (at - 2)) s (omega (arith, low)) link
    (a.rest ∙ ap (count_below (is_same_at start xs now.position)) p.next
    ∙ count_fails (is_same_at start xs now.position) (suc (at - 2)) off)

-- the link at `at` is smaller than `at`: so `at` is the walk's measure
pub walk_smaller : (start : Hashed) (xs : List PlayedMove) (now : Hashed) (at : ℕ) (x : PlayedMove)
    → HaveEntries start xs → IsAlong start xs now at → 1 < at → x ≡ get_or xs (at - 2) x → x.entry.earlier < at
walk_smaller start xs now at x entries a some is =
    let p = is_place start xs now at x entries a some is in
    let link = p.entry.earlier in
    let low = latest_low (is_in start xs (bucket x.reached)) (suc (at - 2)) in
    omega (arith, link, low, some)

-- if the position that the walk is at is the same as `now`, it keeps the number of those up to it, and there are none
-- after it
pub walk_found : (start : Hashed) (xs : List PlayedMove) (now : Hashed) (at : ℕ) (x : PlayedMove)
    → IsSought start xs now → HaveEntries start xs → IsAlong start xs now at → 1 < at → x ≡ get_or xs (at - 2) x
    → is_same_position x.reached.position now.position ≡ true
    → x.entry.count + 1 ≡ suc (count_below (is_same_at start xs now.position) (suc (length xs)))
walk_found start xs now at x s entries a some is met =
    let p = is_place start xs now at x entries a some is in
    let low = p.low in
    let sound : IsSound x.reached.position = subst (λ v. IsSound v.position) p.known
    (sound_is start xs (suc (at - 2)) s.follows s.sound (omega (arith, low))) in
    let here : is_same_at start xs now.position (suc (at - 2)) ≡ true =
    ap (λ v. is_same_position v.position now.position) p.known ∙ met in
    let all : count_below (is_same_at start xs now.position) (suc (length xs))
    ≡ suc (count_below (is_same_at start xs now.position) (suc (at - 2))) = a.rest
    ∙ ap (count_below (is_same_at start xs now.position)) p.next
    ∙ count_here (is_same_at start xs now.position) (suc (at - 2)) here in
    let alike : count_below (is_same_at start xs x.reached.position) (suc (at - 2))
    ≡ count_below (is_same_at start xs now.position) (suc (at - 2)) =
    count_alike (is_same_at start xs x.reached.position) (is_same_at start xs now.position) (suc (at - 2))
    (λ k l. same_alike (known_at start xs k).position x.reached.position now.position sound s.sound_now met) in
    let kept = p.entry.count in
    omega (arith, kept, alike, all)

-- the number that a move keeps is at most that of the positions, so adding one doesn't overflow
pub walk_few : (start : Hashed) (xs : List PlayedMove) (now : Hashed) (at : ℕ) (x : PlayedMove)
    → HaveEntries start xs → IsAlong start xs now at → 1 < at → x ≡ get_or xs (at - 2) x → x.entry.count ≤ length xs + 1
walk_few start xs now at x entries a some is =
    let p = is_place start xs now at x entries a some is in
    let kept = p.entry.count in
    let few = count_low (is_same_at start xs x.reached.position) (suc (at - 2)) in
    let low = p.low in
    omega (arith, kept, few, low)

-- if the links end, none is the same: `now` is new
pub walk_ends : (start : Hashed) (xs : List PlayedMove) (now : Hashed) (at : ℕ) → IsAlong start xs now at → at ≡ 0
    → 1 ≡ suc (count_below (is_same_at start xs now.position) (suc (length xs)))
unfolding count_below
walk_ends start xs now at a none = ap suc (sym (a.rest ∙ ap (count_below (is_same_at start xs now.position)) none))

-- if the walk comes to the start, that is the only one that may be the same
pub walk_ends_at_start : (start : Hashed) (xs : List PlayedMove) (now : Hashed) (at : ℕ)
    → IsAlong start xs now at → at ≡ 1 → 1 + cond (is_same_position start.position now.position) 1 0
    ≡ suc (count_below (is_same_at start xs now.position) (suc (length xs)))
unfolding count_below known_at
walk_ends_at_start start xs now at a one =
    let all : count_below (is_same_at start xs now.position) (suc (length xs))
    ≡ count_below (is_same_at start xs now.position) 1 = a.rest
    ∙ ap (count_below (is_same_at start xs now.position)) one in
    omega (arith, all)

-- the walk may stop where none of the older positions can be the same (`oldest`, by ForGood): `now` is new
pub walk_stops : (start : Hashed) (xs : List PlayedMove) (now : Hashed) (at oldest : ℕ) → IsAlong start xs now at
    → at ≤ oldest → ((k : ℕ) → k < oldest → is_same_at start xs now.position k ≡ false)
    → 1 ≡ suc (count_below (is_same_at start xs now.position) (suc (length xs)))
walk_stops start xs now at oldest a h none =
    ap suc (sym (a.rest ∙ count_none (is_same_at start xs now.position) at (λ k l. none k (omega (arith, l, h)))))

-- ---- what is kept is the number of repetitions

-- counted by numbers, as many positions are the same as q as counted by played moves
seen-count_below : (start : Hashed) (xs : List PlayedMove) (q : Setup)
    → seen start.position xs q ≡ count_below (is_same_at start xs q) (suc (length xs))
unfolding count_below known_at
seen-count_below start [] q = omega arith
seen-count_below start (x ∷ xs) q =
    let later = seen-count_below x.reached xs q in
    let cons : count_by (λ z. is_same_position z.reached.position q) (x ∷ xs) ≡ seen x.reached.position xs q =
    sum_by-cons (λ z. one_if (is_same_position z.reached.position q)) x xs in
    let first : count_below (is_same_at start (x ∷ xs) q) (suc (suc (length xs)))
    ≡ one_if (is_same_position start.position q) + count_below (is_same_at x.reached xs q) (suc (length xs)) =
    count_first (is_same_at start (x ∷ xs) q) (suc (length xs)) in
    omega (arith, later, cons, first)

-- counted by numbers, the last position occurred as often as the definition says
rep_is : (start : Hashed) (xs : List PlayedMove) → Follows start.position xs
    → count_below (is_same_at start xs (position_after start.position (moves_of xs))) (suc (length xs))
    ≡ repetition_count start.position (moves_of xs)
rep_is start xs f =
    sym (seen-count_below start xs (position_after start.position (moves_of xs)))
    ∙ counted start.position xs (position_after start.position (moves_of xs)) f refl

-- a game without moves: its position occurred once
pub rep_alone : (start : Hashed) (xs : List PlayedMove) → Follows start.position xs → length xs ≡ 0
    → 1 ≡ repetition_count start.position (moves_of xs)
unfolding count_below known_at
rep_alone start xs f none =
    let nil = nil_from_length xs none in
    subst (λ ys. 1 ≡ repetition_count start.position (moves_of ys)) (sym nil)
    (let one : count_below (is_same_at start [] start.position) 1 ≡ 1 =
    count_here (is_same_at start [] start.position) 0 (same_self start.position) in
    sym one ∙ rep_is start [] tt)

-- the last played move keeps how often its position occurred
pub rep_kept : (start : Hashed) (xs : List PlayedMove) (d : PlayedMove) → Follows start.position xs
    → HaveEntries start xs → 0 < length xs
    → (get_or xs (length xs - 1) d).entry.count ≡ repetition_count start.position (moves_of xs)
rep_kept start xs d f entries some =
    let x = get_or xs (length xs - 1) d in
    let end = position_after start.position (moves_of xs) in
    let at : x.reached.position ≡ end = (at_end start.position xs d f some).reached in
    let low : length xs - 1 < length xs = omega (arith, some) in
    let next : suc (length xs - 1) ≡ length xs = omega (arith, some) in
    let kept : x.entry.count ≡ suc (count_below (is_same_at start xs end) (suc (length xs - 1))) =
    (entries (length xs - 1) d low).count
    ∙ ap (λ v. suc (count_below (is_same_at start xs v) (suc (length xs - 1)))) at in
    let here : is_same_at start xs end (suc (length xs - 1)) ≡ true = ap (λ v. is_same_position v.position end)
    (known_place start xs (length xs - 1) d low) ∙ ap (λ v. is_same_position v end) at ∙ same_self end in
    kept ∙ sym (count_here (is_same_at start xs end) (suc (length xs - 1)) here)
    ∙ ap (λ n. count_below (is_same_at start xs end) (suc n)) next ∙ rep_is start xs f
