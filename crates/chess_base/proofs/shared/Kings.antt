-- For boards and texts of moves: in a sound position each colour has one king (one_king_of), so two squares that have
-- it are the same (one_king: after taking one away, none is left to count); `king_square` has a king
-- (king_square-king), and if there is one king, is where it is (king_square-at).
use Rattle.std.proofs.Common.{◌≡◌, ℕ, ◌<◌, inl, inr, length, get_or, set, Bool, true, false, count_by, nat_lt, Option, Some, None, refl, sym, arith, length-set, get_or-set_other}
use Rattle.std.specs.List.{position_or_len}
use Rattle.std.proofs.{lemmas.Bool.cases_eq, lemmas.Bool.eqb-true, lemmas.Bool.false_from_ne_true, lemmas.Bool.Decides.nat_tests, lemmas.List.Quantifiers.position-Some, lemmas.List.Sums.position_or_len_is}
use Rattle.chess_base.specs.{declared.man.Colour.Colour, declared.man.Kind.TheVariants.King, declared.man.Man.Man, Men.Men, Men.man_at, Men.is_man, Sound.has_one_king, Sound.IsSound, Castling.king_square, declared.man.Colour.TheVariants.White, declared.man.Colour.TheVariants.Black, declared.setup.Setup.Setup}
use Rattle.chess_base.proofs.{CountedWrites.count_by-set, shared.Men.in_board}

-- where one piece passes, no two squares do
only_one : (q : Option Man → Bool) (men : Men) (i j : ℕ) → q None ≡ false → count_by q men ≡ 1 → i < length men
    → j < length men → q (man_at men i) ≡ true → q (man_at men j) ≡ true → i ≡ j
only_one q men i j n one hi hj a b =
    elim (cases_eq i j) [
      | inl same ↦ same
      | inr differs ↦
          let first = rw (a, n, one) at (count_by-set q men i None None hi) in
          let l1 = length-set men i None in
          let there : get_or (set men i None) j None ≡ man_at men j =
          get_or-set_other men i j None None (λ e. differs (sym e)) in
          let second = rw (there, b, n) at (count_by-set q (set men i None) j None None (omega (arith, l1))) in
          absurd (omega (arith, first, second))
    ]

-- two squares with the one king of a colour are the same
pub one_king : (men : Men) (c : Colour) (i j : ℕ) → length men ≡ 64 → has_one_king men c ≡ true
    → is_man c King (man_at men i) ≡ true → is_man c King (man_at men j) ≡ true → i ≡ j
unfolding has_one_king is_man
one_king men c i j l h a b =
    let hi = in_board men c King i l a in
    let hj = in_board men c King j l b in
    only_one (λ o. is_man c King o) men i j refl (eqb-true (count_by (λ o. is_man c King o) men) 1 h) (omega (arith, l))
    (omega (arith, l)) a b

-- where a colour has one king, its square is where a king is
pub king_square-at : (men : Men) (c : Colour) (k : ℕ) → length men ≡ 64 → has_one_king men c ≡ true
    → is_man c King (man_at men k) ≡ true → king_square men c ≡ Some k
unfolding king_square
king_square-at men c k l h a =
    let k_in = in_board _ _ _ _ l a in
    let place : position_or_len (λ o. is_man c King o) men ≡ k =
    position_or_len_is (λ o. is_man c King o) men k None (omega (arith, l)) (λ i less. false_from_ne_true _
    (λ e. let same = one_king men c i k l h e a in omega arith)) (λ _. a) in
    let test : nat_lt k 64 ≡ true = grind (arith, nat_tests) in
    rw (place, l, test) refl

-- and a king is there
pub king_square-king : (men : Men) (c : Colour) (k : ℕ) → king_square men c ≡ Some k
    → is_man c King (man_at men k) ≡ true
unfolding king_square
king_square-king men c k e = (position-Some (λ o. is_man c King o) men k None e).1

-- in a sound position each colour has one king
pub one_king_of : (p : Setup) → IsSound p → (c : Colour) → has_one_king p.men c ≡ true
one_king_of p sound White = sound.white_king
one_king_of p sound Black = sound.black_king
