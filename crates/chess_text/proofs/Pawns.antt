-- Two advances of pawns to one square begin on one square (same_advance), and so do two captures on one square from one
-- file (same_ahead): by arithmetic with squares' numbers. So a pawn's start is fixed by the end square and, for a
-- capture, the start file. Captures go one rank ahead (captures_ahead); other moves are advances (advances_without),
-- which stay on their file (advances_on_file).
use Rattle.std.proofs.Common.{◌≡◌, ◌≢◌, ℕ, ◌<◌, ◌≤◌, inl, inr, Bool, true, false, ◌||◌, Option, Some, None, is_none, refl, sym, ap, ◌∙◌, arith, ◌==◌}
use Rattle.std.proofs.{lemmas.Bool.Decides.nat_tests, lemmas.Bool.or_cases, lemmas.Bool.both_ways, lemmas.Bool.eqb-true}
use Rattle.std.specs.Int.{abs_diff}
use Rattle.chess_text.specs.ties.Forms.{captures}
use Rattle.chess_base.specs.{declared.man.Colour.Colour, declared.man.Colour.TheVariants.White, declared.man.Colour.TheVariants.Black, declared.man.Kind.TheVariants.Pawn, declared.man.Man.Man, declared.man.Move.Move, declared.setup.Setup.Setup, Attacks.attacks, Attacks.could_capture, Squares.file, Squares.rank, Sound.IsSound, Sound.no_pawn_on_end_ranks, shared.Parts.is_rank_ahead, shared.Parts.pawn_is_allowed}
use Rattle.chess_base.specs.Men.{Men, man_at, other, is_of, is_man, forward, pawn_rank}
use Rattle.chess_base.specs.Moves.{is_double_advance, is_en_passant, pawn_advances, pawn_captures, pawn_moves}
use Rattle.chess_base.proofs.{shared.Squares.each_square-at, shared.Men.same_colour-self, shared.Men.is_none-None, shared.Captures.captures_is, shared.Changes.advance_to_empty}

abbrev pub pawn_of : Colour → Man
pawn_of c = record { colour = c; kind = Pawn }

-- ---- no pawn is on its first rank

-- a pawn on a square that is allowed to have one is not on rank 1
stands_off : (men : Men) (c : Colour) (s : ℕ) → man_at men s ≡ Some (pawn_of c) → pawn_is_allowed men s ≡ true
    → rank s ≢ 0
unfolding is_man
stands_off men White s at e zero_rank =
    let e' = rw (at, zero_rank) at e in
    cc
stands_off men Black s at e zero_rank =
    let e' = rw (at, zero_rank) at e in
    cc

-- in a sound position a pawn's square has a number of 8 or more: it isn't on rank 1
pub pawn_stands : (p : Setup) → IsSound p → (c : Colour) (s : ℕ) → s < 64 → man_at p.men s ≡ Some (pawn_of c) → 8 ≤ s
unfolding no_pawn_on_end_ranks
pawn_stands p sound c s h at =
    let off = stands_off p.men c s at (each_square-at (λ s. pawn_is_allowed p.men s) sound.pawns s h) in
    omega arith

-- ---- straight on

-- the pawn's move is one step straight ahead, or two from its home rank over an empty square
pub data Advance (p : Setup) (m : Move) : Type 0 where
  Single : m.to ≡ forward p.side m.from → Advance p m
  Double : m.to ≡ forward p.side (forward p.side m.from) → rank m.from ≡ pawn_rank p.side
      → man_at p.men (forward p.side m.from) ≡ None → Advance p m

advance_of : (p : Setup) (m : Move) → pawn_advances p m ≡ true → Advance p m
unfolding pawn_advances is_double_advance
advance_of p m e = by_test (m.to == forward p.side m.from) refl
  where
    by_test : (b : Bool) → (m.to == forward p.side m.from) ≡ b → Advance p m
    by_test true one = Single (eqb-true m.to (forward p.side m.from) one)
    by_test false other =
        Double (grind (arith, nat_tests, e, other)) (grind (arith, nat_tests, e, other))
        (is_none-None (man_at p.men (forward p.side m.from)) (grind (arith, e, other)))

-- one step ahead (`forward`) stays on the file; the five lemmas from here on are arithmetic with squares' numbers
one_on_file : (c : Colour) (a b : ℕ) → 8 ≤ a → b ≡ forward c a → file a ≡ file b
one_on_file c a b h e = grind arith

two_on_file : (c : Colour) (a b : ℕ) → rank a ≡ pawn_rank c → b ≡ forward c (forward c a) → file a ≡ file b
two_on_file c a b h e = grind arith

same_by_ones : (c : Colour) (a b t : ℕ) → 8 ≤ a → 8 ≤ b → t ≡ forward c a → t ≡ forward c b → b ≡ a
same_by_ones c a b t h k e f = grind arith

same_by_twos : (c : Colour) (a b t : ℕ) → rank a ≡ pawn_rank c → rank b ≡ pawn_rank c → t ≡ forward c (forward c a)
    → t ≡ forward c (forward c b) → b ≡ a
same_by_twos c a b t h k e f = grind arith

-- if one step from a and two from b end on the same square, a is the square that b's pawn steps over
one_stands_between : (c : Colour) (a b t : ℕ) → 8 ≤ a → rank b ≡ pawn_rank c → t ≡ forward c a
    → t ≡ forward c (forward c b) → forward c b ≡ a
one_stands_between c a b t h k e f = grind arith

pub advances_on_file : (p : Setup) (m : Move) → 8 ≤ m.from → Advance p m → file m.from ≡ file m.to
advances_on_file p m h (Single to) = one_on_file p.side m.from m.to h to
advances_on_file p m h (Double to home free) = two_on_file p.side m.from m.to home to

-- a square with a piece is not an empty one
stands_not : (p : Setup) (a b : ℕ) (x : Man) → man_at p.men a ≡ Some x → man_at p.men b ≡ None → b ≡ a → ⊥
stands_not p a b x at none same =
    let e = ap (man_at p.men) same in
    cc

-- two pawns that advance to one square start on one: if one went one step and the other two, the first would be in the
-- second's way
pub same_advance : (p : Setup) (m n : Move) → man_at p.men m.from ≡ Some (pawn_of p.side)
    → man_at p.men n.from ≡ Some (pawn_of p.side) → 8 ≤ m.from → 8 ≤ n.from → n.to ≡ m.to
    → Advance p m → Advance p n → n.from ≡ m.from
same_advance p m n am an hm hn to (Single a) (Single b) = same_by_ones p.side m.from n.from m.to hm hn a (sym to ∙ b)
same_advance p m n am an hm hn to (Double a home free) (Double b home' free') =
    same_by_twos p.side m.from n.from m.to home home' a (sym to ∙ b)
same_advance p m n am an hm hn to (Single a) (Double b home' free') =
    absurd (stands_not p m.from (forward p.side n.from) (pawn_of p.side) am free'
    (one_stands_between p.side m.from n.from m.to hm home' a (sym to ∙ b)))
same_advance p m n am an hm hn to (Double a home free) (Single b) =
    absurd (stands_not p n.from (forward p.side m.from) (pawn_of p.side) an free
    (one_stands_between p.side n.from m.from m.to hn home (sym to ∙ b) a))

-- ---- captures

-- a pawn attacks squares on the next file, one rank ahead
attack_of : (p : Setup) (m : Move) → man_at p.men m.from ≡ Some (pawn_of p.side) → attacks p.men m.from m.to ≡ true
    → (abs_diff (file m.from) (file m.to) ≡ 1) × (is_rank_ahead p.side m.from m.to ≡ true)
unfolding attacks could_capture
attack_of p m at e = let e' = rw at at e in (grind (arith, nat_tests, e'), grind (arith, e'))

pawn_goes : (p : Setup) (m : Move) → pawn_moves p m ≡ true → (pawn_advances p m || pawn_captures p m) ≡ true
unfolding pawn_moves
pawn_goes p m e = grind (arith, e)

captures_attack : (p : Setup) (m : Move) → pawn_captures p m ≡ true → attacks p.men m.from m.to ≡ true
unfolding pawn_captures
captures_attack p m e = grind (arith, e)

-- a pawn's capture ends on an enemy piece or is en passant
pawn_takes : (p : Setup) (m : Move) → man_at p.men m.from ≡ Some (pawn_of p.side) → pawn_captures p m ≡ true
    → (is_of (other p.side) (man_at p.men m.to) || is_en_passant p m) ≡ true
unfolding pawn_captures is_en_passant is_man
pawn_takes p m at e = rw at (grind (arith, e, same_colour-self p.side))

pawn_captures_so : (p : Setup) (m : Move) → man_at p.men m.from ≡ Some (pawn_of p.side) → pawn_captures p m ≡ true
    → captures p m ≡ true
pawn_captures_so p m at e = captures_is p m ∙ pawn_takes p m at e

-- a pawn's move that captures nothing is an advance
pub advances_without : (p : Setup) (m : Move) → man_at p.men m.from ≡ Some (pawn_of p.side) → pawn_moves p m ≡ true
    → captures p m ≡ false → Advance p m
advances_without p m at e none =
    elim (or_cases (pawn_advances p m) (pawn_captures p m) (pawn_goes p m e)) [
      | inl goes ↦ advance_of p m goes
      | inr takes ↦ absurd (both_ways (captures p m) none (pawn_captures_so p m at takes))
    ]

-- a pawn's move that stays on its file is an advance
pub advances_straight : (p : Setup) (m : Move) → man_at p.men m.from ≡ Some (pawn_of p.side) → pawn_moves p m ≡ true
    → file m.from ≡ file m.to → Advance p m
advances_straight p m at e on =
    elim (or_cases (pawn_advances p m) (pawn_captures p m) (pawn_goes p m e)) [
      | inl goes ↦ advance_of p m goes
      | inr takes ↦ let aside = (attack_of p m at (captures_attack p m takes)).0 in absurd (omega arith)
    ]

-- where there is no piece, none is of this colour
is_of-none : (c : Colour) (o : Option Man) → is_of c o ≡ true → is_none o ≡ true → ⊥
unfolding is_of
is_of-none c None e n = cc
is_of-none c (Some x) e n = cc

en_passant_attacks : (p : Setup) (m : Move) → is_en_passant p m ≡ true → attacks p.men m.from m.to ≡ true
unfolding is_en_passant
en_passant_attacks p m e = grind (arith, e)

-- a pawn that captures goes one rank ahead
pub captures_ahead : (p : Setup) (m : Move) → man_at p.men m.from ≡ Some (pawn_of p.side) → pawn_moves p m ≡ true
    → captures p m ≡ true → is_rank_ahead p.side m.from m.to ≡ true
captures_ahead p m at e takes =
    elim (or_cases (is_of (other p.side) (man_at p.men m.to)) (is_en_passant p m) (sym (captures_is p m) ∙ takes)) [
      | inr passed ↦ (attack_of p m at (en_passant_attacks p m passed)).1
      | inl taken ↦ elim (or_cases (pawn_advances p m) (pawn_captures p m) (pawn_goes p m e)) [
        | inl goes ↦ absurd (is_of-none (other p.side) (man_at p.men m.to) taken (advance_to_empty p m goes))
        | inr hits ↦ (attack_of p m at (captures_attack p m hits)).1
      ]
    ]

-- two squares on one file from which the same square is one rank ahead are one square
pub same_ahead : (c : Colour) (a b t : ℕ) → is_rank_ahead c a t ≡ true → is_rank_ahead c b t ≡ true → file a ≡ file b
    → b ≡ a
same_ahead c a b t e f on = grind (arith, nat_tests, e, f)
