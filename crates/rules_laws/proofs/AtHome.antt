-- In Chess960, where a colour has one king, its right to castle is sound exactly if king and rook are on its first
-- rank, the rook on the right's side of the king (AreAtHome). The definition tests ranks and the order of the squares:
-- each such test is compared with the named squares (of a rank: a1 to h1, a8 to h8), in both directions.
use Rattle.std.proofs.Common.{◌≡◌, ℕ, ◌≤◌, Bool, true, false, ◌&&◌, ◌==◌, Option, Some, None, refl, sym, ◌∙◌, subst, arith}
use Rattle.std.specs.Option.{option_map_or}
use Rattle.std.proofs.lemmas.Bool.{and_parts, and_from, eqb-true, eq-eqb}
use Rattle.chess_base.specs.{declared.man.Colour.Colour, declared.man.Colour.TheVariants.White, declared.man.Colour.TheVariants.Black, declared.man.CastlingSide.CastlingSide, declared.man.CastlingSide.TheVariants.KingSide, declared.man.CastlingSide.TheVariants.QueenSide, declared.man.Kind.TheVariants.Rook, declared.man.Variant.Variant, declared.man.Variant.TheVariants.Fischerandom, declared.setup.Setup.Setup, Squares.rank, shared.Splits.right_is_sound_at}
use Rattle.chess_base.specs.Men.{Men, man_at, is_man, first_rank}
use Rattle.chess_base.specs.Castling.{are_placed_for_castling, is_to_side, king_square, right_is_sound, right_of}
use Rattle.chess_base.proofs.{shared.Castling.placed_for_right, shared.Kings.king_square-at, shared.Kings.king_square-king}
use Rattle.rules_laws.specs.Castled.{AreAtHome, FischerandomRightsAreAtHome, IsOnFirstRank, is_towards}

-- ---- the first rank

on_first_rank : (c : Colour) (s : ℕ) → (rank s == first_rank c) ≡ true → IsOnFirstRank c s
on_first_rank White s e =
    let r : rank s ≡ 0 = eqb-true _ _ e in
    let low : 0 ≤ s = omega arith in
    let high : s ≤ 7 = omega (arith, r) in (low, high)
on_first_rank Black s e =
    let r : rank s ≡ 7 = eqb-true _ _ e in
    let low : 56 ≤ s = omega (arith, r) in
    let high : s ≤ 63 = omega (arith, r) in (low, high)

of_first_rank : (c : Colour) (s : ℕ) → IsOnFirstRank c s → (rank s == first_rank c) ≡ true
of_first_rank White s h =
    let high : s ≤ 7 = h.1 in
    let r : rank s ≡ 0 = omega (arith, high) in eq-eqb _ _ r
of_first_rank Black s h =
    let low : 56 ≤ s = h.0 in
    let high : s ≤ 63 = h.1 in
    let r : rank s ≡ 7 = omega (arith, low, high) in eq-eqb _ _ r

-- chess_base's test of the side is that of the law
to_side : (w : CastlingSide) (king rook : ℕ) → is_to_side w king rook ≡ is_towards w king rook
to_side KingSide king rook = refl
to_side QueenSide king rook = refl

-- ---- the right

-- whether castling with this rook begins with the king on the square `king`
abbrev begins : Colour → CastlingSide → ℕ → ℕ → Bool
begins c w rook king = (rank king == first_rank c) && (rank rook == first_rank c) && is_to_side w king rook

-- if a test of an optional square passes, there is a square, and it passes
there : (test : ℕ → Bool) (o : Option ℕ) → option_map_or test o false ≡ true
    → (king : ℕ) × (o ≡ Some king) × (test king ≡ true)
there test None e = absurd (cc)
there test (Some king) e = (king, refl, e)

-- from the definition's test: king and rook are at home
at_home : (p : Setup) (c : Colour) (w : CastlingSide) (rook : ℕ)
    → are_placed_for_castling Fischerandom p.men c w rook ≡ true → (king : ℕ) × AreAtHome p c w king rook
at_home p c w rook placed =
    let both = and_parts (option_map_or (begins c w rook) (king_square p.men c) false)
    (is_man c Rook (man_at p.men rook)) placed in
    let found = there (begins c w rook) (king_square p.men c) both.0 in
    let king = found.0 in
    let ranks_and_side = and_parts _ (is_to_side w king rook) found.2 in
    let ranks = and_parts (rank king == first_rank c) (rank rook == first_rank c) ranks_and_side.0 in (
      king,
      record {
        is_king = king_square-king p.men c king found.1;
        is_rook = both.1;
        king_rank = on_first_rank c king ranks.0;
        rook_rank = on_first_rank c rook ranks.1;
        side = sym (to_side w king rook) ∙ ranks_and_side.1;
      },
    )

-- from king and rook at home: the definition's test passes
placed_at_home : (p : Setup) (c : Colour) (w : CastlingSide) (king rook : ℕ) → king_square p.men c ≡ Some king
    → AreAtHome p c w king rook → are_placed_for_castling Fischerandom p.men c w rook ≡ true
placed_at_home p c w king rook at h =
    let ranks = and_from _ _ (of_first_rank c king h.king_rank) (of_first_rank c rook h.rook_rank) in
    let here : begins c w rook king ≡ true = and_from _ _ ranks (to_side w king rook ∙ h.side) in
    let test : option_map_or (begins c w rook) (king_square p.men c) false ≡ true =
    subst (λ (o : Option ℕ). option_map_or (begins c w rook) o false ≡ true) (sym at) here in
    and_from _ _ test h.is_rook

of_right : (v : Variant) (men : Men) (c : Colour) (w : CastlingSide) (o : Option ℕ) (rook : ℕ) → o ≡ Some rook
    → are_placed_for_castling v men c w rook ≡ true → right_is_sound_at v men c w o ≡ true
of_right v men c w None rook e h = refl
of_right v men c w (Some s) rook e h = let here : s ≡ rook = cc in rw here h

pub rights_are_at_home : FischerandomRightsAreAtHome
unfolding right_is_sound
rights_are_at_home p c w rook variant board one right = (
  λ sound. at_home p c w rook (subst (λ (v : Variant). are_placed_for_castling v p.men c w rook ≡ true) variant
      (placed_for_right p.variant p.men c w (right_of p.rights c w) rook sound right)),
  λ home. of_right p.variant p.men c w (right_of p.rights c w) rook right
      (subst (λ (v : Variant). are_placed_for_castling v p.men c w rook ≡ true) (sym variant)
      (placed_at_home p c w home.0 rook (king_square-at p.men c home.0 board one home.1.is_king) home.1)),
)
