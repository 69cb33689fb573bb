-- Of bytes that were let go (dropped from memory) the first 40 are kept, and of the others it is counted how many are
-- `\n`. `known` is a list of bytes with these counts: its first 40 are those kept (first_kept), and with more bytes let
-- go it has the counts of all (counts_added), whether or not fewer than 40 were kept before. Also, the first 40 bytes
-- of what is held from an offset on (first_held).
use Rattle.std.proofs.Common.{◌≡◌, ◌≤◌, ◌<◌, ◌⊎◌, ℕ, zero, suc, ◌+◌, ◌-◌, List, [], ◌∷◌, ◌++◌, length, take, drop, refl, sym, ap, ◌∙◌, inl, inr, append-nil, length-append, length-drop, arith, ap₂, replicate, min}
use Rattle.std.proofs.{lemmas.Bool.cases_lt, lemmas.Grind.common_steps}
use Rattle.std.proofs.lemmas.List.{take-append-drop, take-append-le, take_all, length-take-le, length-replicate, nil_from_length}
use Rattle.pgn_pieces.specs.{Places.line_ends, ties.Held.SameCounts}
use Rattle.pgn_pieces.proofs.LineEnds.{count_append, line_ends-le, take_append}

-- the bytes as they are known: the first of them, and then how many are line ends and how many are not
abbrev pub known : List ℕ → ℕ → ℕ → List ℕ
known first ends plain = first ++ (replicate ends 10 ++ replicate plain 0)

none_after : (first : List ℕ) (ends plain : ℕ) → ends + plain ≡ 0 → known first ends plain ≡ first
none_after first ends plain h =
    let e : ends ≡ 0 = omega (arith, h) in
    let p : plain ≡ 0 = omega (arith, h) in ap₂ (known first) e p ∙ append-nil first

pub first_kept : (first : List ℕ) (ends plain : ℕ) → length first ≤ 40 → (length first < 40 → ends + plain ≡ 0)
    → take 40 (known first ends plain) ≡ first
first_kept first ends plain few none = elim (cases_lt (length first) 40) [
  | inl short ↦ ap (take 40) (none_after first ends plain (none short)) ∙ take_all 40 first few
  | inr long ↦ take-append-le 40 first (replicate ends 10 ++ replicate plain 0) long ∙ take_all 40 first few
]

length_known : (first : List ℕ) (ends plain : ℕ) → length (known first ends plain) ≡ length first + (ends + plain)
length_known first ends plain =
    length-append first (replicate ends 10 ++ replicate plain 0)
    ∙ ap (λ n. length first + n) (length-append (replicate ends 10) (replicate plain 0)
    ∙ ap₂ (λ m n. m + n) (length-replicate ends 10) (length-replicate plain 0))

all_line_ends : (n : ℕ) → line_ends (replicate n 10) ≡ n
all_line_ends zero = refl
all_line_ends (suc n) =
    let a = count_append (10 ∷ []) (replicate n 10) in let b = all_line_ends n in omega (arith, a, b)

no_line_ends : (n : ℕ) → line_ends (replicate n 0) ≡ 0
no_line_ends zero = refl
no_line_ends (suc n) = grind (arith, no_line_ends n)

line_ends_known : (first : List ℕ) (ends plain : ℕ) → line_ends (known first ends plain) ≡ line_ends first + ends
line_ends_known first ends plain =
    let a = count_append first (replicate ends 10 ++ replicate plain 0) in
    let b = count_append (replicate ends 10) (replicate plain 0) in
    let c = all_line_ends ends in
    let d = no_line_ends plain in omega (arith, a, b, c, d)

-- a text after what is known, of which the first `k` bytes are kept
module _ (first bytes : List ℕ) (ends plain k : ℕ) (few : length first ≤ 40)
    (none : length first < 40 → ends + plain ≡ 0) (within : k ≤ length bytes) (room : length first + k ≤ 40)
    (all : (k ≡ length bytes) ⊎ (length first + k ≡ 40)) where
  abbrev more : ℕ
  more = line_ends (drop k bytes)

  abbrev others : ℕ
  others = length (drop k bytes) - more

  abbrev kept : List ℕ
  kept = first ++ take k bytes

  length_kept : length kept ≡ length first + k
  length_kept = length-append first (take k bytes) ∙ ap (λ n. length first + n) (length-take-le k bytes within)

  none_more : length kept < 40 → ends + more + (plain + others) ≡ 0
  none_more short = by_cases all
    where
      by_cases : (k ≡ length bytes) ⊎ (length first + k ≡ 40) → ends + more + (plain + others) ≡ 0
      by_cases (inl e) =
          let l = length_kept in
          let n = none (omega (arith, l, short)) in
          let d = length-drop k bytes in
          let rest : drop k bytes ≡ [] = nil_from_length (drop k bytes) (omega (arith, d, e)) in
          let m : more ≡ 0 = ap line_ends rest in
          let o : length (drop k bytes) ≡ 0 = ap length rest in omega (arith, n, m, o)
      by_cases (inr e) = let l = length_kept in absurd (omega (arith, l, short, e))

  front : take 40 (known first ends plain ++ bytes) ≡ kept
  front = by_length (cases_lt (length first) 40)
    where
      to_end : (n : ℕ) → length first + n ≡ 40 → (k ≡ length bytes) ⊎ (length first + k ≡ 40)
          → take n bytes ≡ take k bytes
      to_end n e (inl is) =
          take_all n bytes (omega (arith, e, is, room)) ∙ sym (take_all k bytes (omega (arith, is)))
      to_end n e (inr is) = let same : n ≡ k = omega (arith, e, is) in ap (λ m. take m bytes) same

      by_length : (length first < 40) ⊎ (40 ≤ length first) → take 40 (known first ends plain ++ bytes) ≡ kept
      by_length (inl short) =
          ap (λ xs. take 40 (xs ++ bytes)) (none_after first ends plain (none short))
          ∙ take_append 40 first bytes
          ∙ ap₂ (λ xs ys. xs ++ ys) (take_all 40 first few)
          (to_end (40 - length first) (omega (arith, few)) all)
      by_length (inr long) =
          let l = length_known first ends plain in
          take-append-le 40 (known first ends plain) bytes (omega (arith, l, long))
          ∙ first_kept first ends plain few none
          ∙ sym (ap (λ n. first ++ take n bytes) k_none ∙ append-nil first)
        where
          k_none : k ≡ 0
          k_none = omega (arith, room, long)

  pub counts_added : SameCounts (known first ends plain ++ bytes) (known kept (ends + more) (plain + others))
  counts_added =
      let a = length-append (known first ends plain) bytes in
      let b = length_known first ends plain in
      let c = length_known kept (ends + more) (plain + others) in
      let d = length_kept in
      let e = length-drop k bytes in
      let f = count_append (known first ends plain) bytes in
      let g = line_ends_known first ends plain in
      let h = line_ends_known kept (ends + more) (plain + others) in
      let i = count_append first (take k bytes) in
      let j = count_append (take k bytes) (drop k bytes) in
      let whole = ap line_ends (take-append-drop k bytes) in
      let some = line_ends-le (drop k bytes) in record {
        len = omega (arith, a, b, c, d, e, some, within);
        beginning = first_kept kept (ends + more) (plain + others) (omega (arith, d, room)) none_more ∙ sym front;
        line_ends = omega (arith, f, g, h, i, j, whole);
      }

-- the first bytes of what is held from an offset on
pub first_held : (held text : List ℕ) (at len n : ℕ) → text ≡ held → n ≡ min len 40
    → take (at + n - at) (drop at text) ≡ take 40 (take len (drop at held))
first_held held text at len n same is =
    let e : at + n - at ≡ n = omega arith in
    ap₂ (λ k xs. take k (drop at xs)) e same ∙ shorter 40 len (drop at held) n is
  where
    shorter : (a b : ℕ) (xs : List ℕ) (n : ℕ) → n ≡ min b a → take n xs ≡ take a (take b xs)
    shorter a b xs n is = grind (arith, common_steps, is)
