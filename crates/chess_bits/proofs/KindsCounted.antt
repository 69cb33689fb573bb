-- Sums of moves: the pieces on the squares of a set w have as many moves as those in another set and those outside it
-- have together (split, by induction over the squares). And a free officer has one legal move to each square that it
-- attacks and no own piece holds, so they are as many (officer_counted, by free_listed of Freely).
use Rattle.std.proofs.Common.{◌≡◌, ℕ, zero, suc, ◌+◌, ◌<◌, ◌≤◌, inl, inr, Bool, true, false, not, ◌&&◌, ◌||◌, ◌==◌, List, length, length-append, None, refl, sym, ap, ◌∙◌, arith}
use Rattle.std.specs.List.{filter, flat_map, range_with_len}
use Rattle.std.proofs.{lemmas.Bool.or_parts, lemmas.Bool.cases_Bool, lemmas.List.length-map}
use Rattle.chess_base.specs.{declared.man.Kind.Kind, declared.man.Kind.TheVariants.King, declared.man.Kind.TheVariants.Pawn, declared.setup.Setup.Setup, Attacks.could_capture, MoveList.move_of, Squares.squares, Sound.IsSound}
use Rattle.chess_base.specs.Men.{man_at, is_of, is_man, same_kind}
use Rattle.chess_base.proofs.shared.Men.{is_of-from_is_man, is_man-kind}
use Rattle.chess_moves.specs.{shared.MovesBySquares.moves_from, Sets.contains, Sets.members}
use Rattle.chess_bits.specs.ties.Goes.{man_goes, IsFree}
use Rattle.chess_bits.proofs.Freely.{no_pawn_ordinary, free_listed}
use Rattle.chess_bits.proofs.TargetsOf.{man_told, officer_is, man_set_sound, man_set_complete}

-- ---- a set in two

-- w is split by c into u and v; over the n numbers from a on
split_range : {A : Type 0} (g : ℕ → List A) (w c u v : ℕ → Bool) (n a : ℕ) → a + n ≤ 64
    → ((k : ℕ) → k < 64 → u k ≡ (w k && c k)) → ((k : ℕ) → k < 64 → v k ≡ (w k && not (c k)))
    → length (flat_map g (filter u (range_with_len a n))) + length (flat_map g (filter v (range_with_len a n)))
    ≡ length (flat_map g (filter w (range_with_len a n)))
split_range g w c u v zero a fits hu hv = refl
split_range g w c u v (suc n) a fits hu hv =
    let rest = split_range g w c u v n (a + 1) (omega arith) hu hv in
    let mine = hu a (omega arith) in
    let theirs = hv a (omega arith) in
    let all = length-append (g a) (flat_map g (filter w (range_with_len (a + 1) n))) in
    let one = length-append (g a) (flat_map g (filter u (range_with_len (a + 1) n))) in
    let two = length-append (g a) (flat_map g (filter v (range_with_len (a + 1) n))) in
    elim (cases_Bool (w a)) [
      | inr out ↦
          let gone : u a ≡ false = mine ∙ ap (λ t. t && c a) out in
          let gone' : v a ≡ false = theirs ∙ ap (λ t. t && not (c a)) out in
          rw (out, gone, gone') rest
      | inl here ↦
          elim (cases_Bool (c a)) [
            | inl chosen ↦
                let in_u : u a ≡ true = mine ∙ rw (here, chosen) refl in
                let out_v : v a ≡ false = theirs ∙ rw (here, chosen) refl in
                rw (here, in_u, out_v) (omega (arith, rest, all, one))
            | inr left ↦
                let out_u : u a ≡ false = mine ∙ rw (here, left) refl in
                let in_v : v a ≡ true = theirs ∙ rw (here, left) refl in
                rw (here, out_u, in_v) (omega (arith, rest, all, two))
          ]
    ]

-- where u has the squares of w that are in c, and v the others of w, the lists gathered over u and over v have as many
-- elements together as the one over w
pub split : {A : Type 0} (g : ℕ → List A) (w c u v : ℕ) → ((k : ℕ) → contains u k ≡ (contains w k && contains c k))
    → ((k : ℕ) → k < 64 → contains v k ≡ (contains w k && not (contains c k)))
    → length (flat_map g (members u)) + length (flat_map g (members v)) ≡ length (flat_map g (members w))
unfolding members squares
split g w c u v hu hv = split_range g (λ k. contains w k) (λ k. contains c k) (λ k. contains u k) (λ k. contains v k) 64 0 (omega arith)
    (λ k l. hu k) hv

-- ---- the moves of one

-- w are the squares that the free officer on a attacks and that hold no own piece: it has one legal move to each
pub officer_counted : (p : Setup) (a king w : ℕ) (kind : Kind) → IsSound p → IsFree p a
    → is_man p.side kind (man_at p.men a) ≡ true → (same_kind King kind || same_kind Pawn kind) ≡ false → a < 64
    → king < 64
    → ((k : ℕ) → k < 64 → is_man p.side King (man_at p.men k) ≡ (k == king))
    → ((k : ℕ) → k < 64 → contains w k ≡ (could_capture p.men p.side kind a k && not (is_of p.side (man_at p.men k))))
    → length (members w) ≡ length (moves_from p a)
officer_counted p a king w kind sound free man kinds low there one set =
    let at = man_told p.side kind (man_at p.men a) man in
    let neither = or_parts (same_kind King kind) (same_kind Pawn kind) kinds in
    let own = is_of-from_is_man p.side kind (man_at p.men a) man in
    let no_pawn = is_man-kind p.side p.side kind Pawn (man_at p.men a) neither.1 man in
    let goes_so : (k : ℕ) → k < 64 → contains w k ≡ man_goes p a k = λ k l. set k l ∙ officer_is p a k _ at own neither.0 in
    sym (ap length (free_listed p a king w sound free (no_pawn_ordinary p a no_pawn) low there one
    (man_set_sound p a w own no_pawn low goes_so) (man_set_complete p a w own no_pawn low goes_so))
    ∙ length-map (members w) (λ b. move_of a b None))
