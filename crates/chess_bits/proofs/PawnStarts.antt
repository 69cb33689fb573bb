-- Pawns that go to a square, as sets. Straight ahead from one rank back or, at home, two (advances_are); by a capture
-- from squares that an enemy pawn on it would attack (captures_are). Off the last rank these moves are pseudo-legal,
-- and change only two squares if the square isn't the target (pawn_patterns, pawns_plain); the legal ones begin on all
-- legal starts of pawns (pawn_starts_are). On the last rank there are none without a promotion (none_on_last).
use mathlib.Core.Bool.{and_comm, not-not}
use Rattle.std.proofs.Common.{◌≡◌, ℕ, ◌<◌, ◌≤◌, inl, inr, Bool, true, false, not, ◌&&◌, ◌||◌, ◌==◌, None, is_none, refl, sym, ap, ◌∙◌, arith}
use Rattle.std.proofs.lemmas.Bool.{and_from, and_left, and_parts, and_right, cases_Bool, eqb-true}
use Rattle.chess_base.specs.{declared.man.Colour.Colour, declared.man.Colour.TheVariants.White, declared.man.Colour.TheVariants.Black, declared.man.Kind.TheVariants.Pawn, declared.setup.Setup.Setup, MoveList.move_of, Squares.rank, Squares.is_at}
use Rattle.chess_base.specs.Men.{man_at, is_man, is_of, other, first_rank, forward, pawn_rank}
use Rattle.chess_base.specs.Moves.{is_pseudo_legal, is_legal, pawn_advances, pawn_captures, is_double_advance, promotion_fits}
use Rattle.chess_moves.specs.{Promoting.would_promote, Sets.contains}
use Rattle.chess_bits.specs.{ties.Changes.StepsPlainly, ties.Shapes.in_shape}
use Rattle.chess_bits.specs.declared.table.Shape.TheVariants as shape
use Rattle.chess_bits.proofs.{Attackers.pawn_back, TargetsOf.captures_is, ByKind.pawn_pattern, ByKind.pawn_plain, ByKind.no_pattern, Patterns.not_fitting}
use Rattle.chess_base.proofs.shared.MenAfter.{eqb_comm}

-- ---- straight ahead

-- the square ahead of a pawn's home is on the board, and not on rank 1
home_ahead : (c : Colour) (k : ℕ) → k < 64 → rank k ≡ pawn_rank c → (8 ≤ forward c k) × (forward c k < 64)
home_ahead White k low e = (omega (arith, low, e), omega (arith, low, e))
home_ahead Black k low e = (omega (arith, low, e), omega (arith, low, e))

-- `once` is the square one rank back from `to`, `crossed` the same if it is empty, `twice` the square one rank back
-- from that: a pawn on k advances to `to`, which is empty, exactly if k is in `once`, or in `twice` and on the home
-- rank
pub advances_are : (p : Setup) (to k one once crossed twice home all occupied : ℕ) → to < 64 → k < 64 → 8 ≤ k
    → is_man p.side Pawn (man_at p.men k) ≡ true → is_none (man_at p.men to) ≡ true
    → ((j : ℕ) → j < 64 → contains occupied j ≡ not (is_none (man_at p.men j)))
    → ((j : ℕ) → contains one j ≡ (j == to))
    → ((j : ℕ) → j < 64 → 8 ≤ j → contains once j ≡ contains one (forward p.side j))
    → ((j : ℕ) → j < 64 → contains crossed j ≡ (contains once j && not (contains occupied j)))
    → ((j : ℕ) → j < 64 → 8 ≤ j → contains twice j ≡ contains crossed (forward p.side j))
    → ((j : ℕ) → j < 64 → contains home j ≡ (rank j == pawn_rank p.side))
    → contains all k ≡ (contains once k || (contains twice k && contains home k))
    → contains all k ≡ pawn_advances p (move_of k to None)
unfolding pawn_advances is_double_advance
advances_are p to k one once crossed twice home all occupied high low past pawn bare full single next free second rank_of union =
    union ∙ rw (next k low past, single (forward p.side k), eqb_comm (forward p.side k) to, bare, pawn, rank_of k low)
    (elim (cases_Bool (rank k == pawn_rank p.side)) [
      | inl at ↦
          let there = home_ahead p.side k low (eqb-true (rank k) (pawn_rank p.side) at) in
          let far : contains twice k
          ≡ ((to == forward p.side (forward p.side k)) && is_none (man_at p.men (forward p.side k))) =
          second k low past ∙ free (forward p.side k) there.1
          ∙ rw (
            next (forward p.side k) there.1 there.0,
            single (forward p.side (forward p.side k)),
            full (forward p.side k) there.1,
            not-not (is_none (man_at p.men (forward p.side k))),
            eqb_comm (forward p.side (forward p.side k)) to,
          ) refl in
          rw (at, far)
          (same (to == forward p.side k) (to == forward p.side (forward p.side k))
          (is_none (man_at p.men (forward p.side k))))
      | inr away ↦ rw away (none (to == forward p.side k) (contains twice k)
          (to == forward p.side (forward p.side k)) (is_none (man_at p.men (forward p.side k))))
    ])
  where
    same : (x y z : Bool) → (x || ((y && z) && true)) ≡ (true && (x || ((true && true && y) && z)))
    same x y z = grind arith

    none : (x t y z : Bool) → (x || (t && false)) ≡ (true && (x || ((true && false && y) && z)))
    none x t y z = grind arith

pub none_onto : (p : Setup) (to k : ℕ) → is_none (man_at p.men to) ≡ false → false ≡ pawn_advances p (move_of k to None)
unfolding pawn_advances
none_onto p to k full = sym (and_left (is_none (man_at p.men to)) _ full)

-- ---- by a capture

-- a pawn on k captures on `to` exactly if an enemy or the target is there, and an enemy pawn there would attack k
pub captures_are : (p : Setup) (k to : ℕ) → is_man p.side Pawn (man_at p.men k) ≡ true
    → ((is_of (other p.side) (man_at p.men to) || is_at p.target to) && in_shape (shape.Pawn (other p.side)) to k)
    ≡ pawn_captures p (move_of k to None)
captures_are p k to pawn =
    and_comm (is_of (other p.side) (man_at p.men to) || is_at p.target to) (in_shape (shape.Pawn (other p.side)) to k)
    ∙ ap (λ t. t && (is_of (other p.side) (man_at p.men to) || is_at p.target to)) (pawn_back p.men p.side k to)
    ∙ captures_is p k to pawn

-- the second of two joined tests may be another one, if the two are equal where the first passes
pub held : (x y z : Bool) → (x ≡ true → y ≡ z) → (x && y) ≡ (x && z)
held true y z h = h refl
held false y z h = refl

-- ---- the starts

no_promotion : (p : Setup) (k to : ℕ) → (rank to == first_rank (other p.side)) ≡ false → would_promote p k to ≡ false
unfolding would_promote
no_promotion p k to off = and_right (is_man p.side Pawn (man_at p.men k)) (rank to == first_rank (other p.side)) off

-- off the last rank a pawn's move is pseudo-legal exactly if it is an advance or a capture
goes_so : (p : Setup) (k to : ℕ) → (rank to == first_rank (other p.side)) ≡ false → to < 64 → k < 64
    → is_man p.side Pawn (man_at p.men k) ≡ true
    → (pawn_advances p (move_of k to None) || pawn_captures p (move_of k to None)) ≡ is_pseudo_legal p (move_of k to None)
goes_so p k to off high low pawn =
    kept (pawn_advances p (move_of k to None) || pawn_captures p (move_of k to None)) (would_promote p k to)
    (no_promotion p k to off)
    ∙ pawn_pattern p k to pawn low high
  where
    kept : (x w : Bool) → w ≡ false → x ≡ (x && not w)
    kept x w e = rw e (grind arith)

-- w are the pawns that advance or capture to `to`, which is off the last rank: these moves are pseudo-legal
pub pawn_patterns : (p : Setup) (to w : ℕ) → to < 64 → (rank to == first_rank (other p.side)) ≡ false
    → ((k : ℕ) → k < 64 → contains w k ≡ (is_man p.side Pawn (man_at p.men k)
    && (pawn_advances p (move_of k to None) || pawn_captures p (move_of k to None))))
    → (k : ℕ) → k < 64 → contains w k ≡ true
    → (is_man p.side Pawn (man_at p.men k) ≡ true) × (is_pseudo_legal p (move_of k to None) ≡ true)
pawn_patterns p to w high off starts k low on =
    let parts = and_parts (is_man p.side Pawn (man_at p.men k))
    (pawn_advances p (move_of k to None) || pawn_captures p (move_of k to None)) (sym (starts k low) ∙ on) in
    (parts.0, sym (goes_so p k to off high low parts.0) ∙ parts.1)

-- w are the pawns that advance or capture to `to`, which is off the last rank and not the target: these moves change
-- only their two squares
pub pawns_plain : (p : Setup) (to w : ℕ) → to < 64 → (rank to == first_rank (other p.side)) ≡ false
    → is_at p.target to ≡ false
    → ((k : ℕ) → k < 64 → contains w k ≡ (is_man p.side Pawn (man_at p.men k)
    && (pawn_advances p (move_of k to None) || pawn_captures p (move_of k to None))))
    → (k : ℕ) → k < 64 → contains w k ≡ true → StepsPlainly p (move_of k to None)
pawns_plain p to w high off free starts k low on =
    let pawn = pawn_patterns p to w high off starts k low on in
    pawn_plain p k to pawn.0 pawn.1 free

-- so the members of w whose move to `to` is legal are all legal starts of pawns
pub pawn_starts_are : (p : Setup) (to w k : ℕ) (s : Bool) → to < 64 → (rank to == first_rank (other p.side)) ≡ false
    → ((j : ℕ) → j < 64 → contains w j ≡ (is_man p.side Pawn (man_at p.men j)
    && (pawn_advances p (move_of j to None) || pawn_captures p (move_of j to None))))
    → k < 64 → s ≡ (contains w k && is_legal p (move_of k to None))
    → s ≡ (is_man p.side Pawn (man_at p.men k) && is_legal p (move_of k to None))
pawn_starts_are p to w k s high off starts low made =
    made ∙ rw (starts k low)
    (elim (cases_Bool (is_man p.side Pawn (man_at p.men k))) [
      | inl pawn ↦
          rw (pawn, goes_so p k to off high low pawn)
          (within (is_pseudo_legal p (move_of k to None)) (is_legal p (move_of k to None))
          (no_pattern p (move_of k to None)))
      | inr away ↦ rw away refl
    ])
  where
    within : (x y : Bool) → (x ≡ false → y ≡ false) → ((true && x) && y) ≡ (true && y)
    within true y h = refl
    within false y h = sym (h refl)

-- on the last rank no pawn's move without a promotion is legal
pub none_on_last : (p : Setup) (k to : ℕ) → (rank to == first_rank (other p.side)) ≡ true
    → false ≡ (is_man p.side Pawn (man_at p.men k) && is_legal p (move_of k to None))
unfolding would_promote
none_on_last p k to last =
    elim (cases_Bool (is_man p.side Pawn (man_at p.men k))) [
      | inl pawn ↦
          let promotes : would_promote p k to ≡ true =
          and_from (is_man p.side Pawn (man_at p.men k)) (rank to == first_rank (other p.side)) pawn last in
          sym (and_right (is_man p.side Pawn (man_at p.men k)) (is_legal p (move_of k to None))
          (sym (not_fitting p (move_of k to None) (ap (λ w. promotion_fits w None) promotes))))
      | inr away ↦ sym (and_left (is_man p.side Pawn (man_at p.men k)) (is_legal p (move_of k to None)) away)
    ]
