-- Mate, stalemate and insufficient material are the same in the mirror. No move is legal there exactly if none is here,
-- since a legal move's mirror is legal and its mirror is the move itself (move_twice). Tests and counts of pieces give
-- the same in both, as sums over the squares with the ranks in the other order; bishops change the colour of their
-- squares together.
use Rattle.std.proofs.Common.{◌≡◌, ℕ, zero, suc, ◌+◌, ◌-◌, ◌%◌, ◌<◌, ◌≤◌, Bool, cond, Some, None, Option, refl, sym, ap, ap₂, ◌∙◌, arith, ◌==◌, subst, ◌||◌, ◌&&◌, List, [], ◌∷◌, length, map, count_by, ext_get_or}
use Rattle.std.proofs.{lemmas.Bool.both_ways, lemmas.Bool.false_from_ne_true, lemmas.Bool.Decides.nat_tests, lemmas.List.Sums.sum_by-cons, Math.Bool.and_comm}
use Rattle.std.specs.List.{list_any}
use Rattle.chess_base.specs.{declared.man.Kind.Kind, declared.man.Man.Man, declared.man.Move.Move, declared.setup.Setup.Setup, Men.Men, Men.man_at, Moves.is_legal, Sound.IsSound, shared.Below.from_below}
use Rattle.chess_base.specs.declared.man.Kind.TheVariants.{Queen, Rook, Bishop, Knight, Pawn}
use Rattle.chess_base.specs.Squares.{file, rank, some_square, squares}
use Rattle.chess_base.proofs.shared.MoveKinds.{Moves-from_legal}
use Rattle.chess_base.proofs.shared.Squares.{map_squares, length-map_squares, get_or-map_squares, some_square_same}
use Rattle.chess_game.specs.Ends.{is_kind, has_bishop_on, has_insufficient_material}
use Rattle.rules_laws.specs.Endings.{HasNoMove}
use Rattle.rules_laws.specs.Mirror.{mirrored, mirrored_men, mirrored_setup, mirrored_move, MirrorEndsAlike}
use Rattle.rules_laws.proofs.MirrorAttacks.{mirrored_in, twice, same_file, other_rank, rank_in, some_mirrored, flipped, man_at-mirrored, is_in_check-mirrored}
use Rattle.rules_laws.proofs.MirrorAfter.{mirror_is_as_legal}

-- ---- no legal move

-- the mirror of the mirrored move is the move itself
pub move_twice : (m : Move) → m.from < 64 → m.to < 64 → mirrored_move (mirrored_move m) ≡ m
move_twice m h l =
    ap₂ (λ (a b : ℕ). record { from = a; to = b; promotion = m.promotion }) (twice m.from h) (twice m.to l)

-- a legal move in the mirror would have a legal mirror in p; none_from_mirror is the other direction
pub none_in_mirror : (p : Setup) → IsSound p → HasNoMove p → HasNoMove (mirrored_setup p)
none_in_mirror p sound none m =
    false_from_ne_true _ (λ legal.
    let h = Moves-from_legal (mirrored_setup p) m legal in
    let back = mirror_is_as_legal p (mirrored_move m) sound (mirrored_in m.from h.from_in) (mirrored_in m.to h.to_in) in
    let here = ap (is_legal (mirrored_setup p)) (move_twice m h.from_in h.to_in) in
    both_ways _ (none (mirrored_move m)) (sym back ∙ here ∙ legal))

pub none_from_mirror : (p : Setup) → IsSound p → HasNoMove (mirrored_setup p) → HasNoMove p
none_from_mirror p sound none m =
    false_from_ne_true _ (λ legal.
    let h = Moves-from_legal p m legal in
    both_ways _ (none (mirrored_move m)) (mirror_is_as_legal p m sound h.from_in h.to_in ∙ legal))

-- ---- pieces of a kind

is_kind-flipped : (k : Kind) (o : Option Man) → is_kind k (flipped o) ≡ is_kind k o
is_kind-flipped k None = refl
is_kind-flipped k (Some x) = refl

-- a test of a mapped list is a test of the list
any-map : {A B : Type 0} (q : B → Bool) (f : A → B) (xs : List A) → list_any q (map f xs) ≡ list_any (λ x. q (f x)) xs
any-map q f [] = refl
any-map q f (x ∷ xs) = ap (λ (b : Bool). q (f x) || b) (any-map q f xs)

-- a board of 64 squares is the list of what is on each square
men_are : (men : Men) → length men ≡ 64 → men ≡ map (λ s. man_at men s) squares
men_are men whole =
    ext_get_or None men (map (λ s. man_at men s) squares) (whole ∙ sym (length-map_squares (λ s. man_at men s)))
    (λ i l. sym (get_or-map_squares (λ s. man_at men s) i None (subst (λ (n : ℕ). i < n) whole l)))

-- some element of the board passes exactly if what is on some square passes
any_is : (q : Option Man → Bool) (men : Men) → length men ≡ 64
    → list_any q men ≡ some_square (λ s. q (man_at men s))
unfolding some_square
any_is q men whole = ap (list_any q) (men_are men whole) ∙ any-map q (λ s. man_at men s) squares

-- some piece in the mirror passes a test that ignores colours exactly if some piece passes it
any-mirrored : (q : Option Man → Bool) (men : Men) → length men ≡ 64 → ((o : Option Man) → q (flipped o) ≡ q o)
    → list_any q (mirrored_men men) ≡ list_any q men
unfolding mirrored_men some_square
any-mirrored q men whole same =
    any-map q (λ s. flipped (man_at men (mirrored s))) squares
    ∙ some_square_same (λ s. q (flipped (man_at men (mirrored s)))) (λ s. q (man_at men (mirrored s)))
    (λ s l. same (man_at men (mirrored s)))
    ∙ some_mirrored (λ s. q (man_at men s))
    ∙ sym (any_is q men whole)

-- ---- how many

abbrev one_if : Bool → ℕ
one_if b = cond b 1 0

-- the sum of t over the numbers below n
total : (ℕ → ℕ) → ℕ → ℕ
total t zero = 0
total t (suc n) = t 0 + total (λ k. t (suc k)) n

-- a count over a list of values f k is the sum of 1 for each value that passes
count-from_below : (q : Option Man → Bool) (n : ℕ) (f : ℕ → Option Man)
    → count_by q (from_below n f) ≡ total (λ k. one_if (q (f k))) n
unfolding total
count-from_below q zero f = refl
count-from_below q (suc n) f =
    sum_by-cons (λ y. one_if (q y)) (f 0) (from_below n (λ k. f (suc k)))
    ∙ ap (λ (r : ℕ). one_if (q (f 0)) + r) (count-from_below q n (λ k. f (suc k)))

total_same : (n : ℕ) (s t : ℕ → ℕ) → ((k : ℕ) → s k ≡ t k) → total s n ≡ total t n
unfolding total
total_same zero s t h = refl
total_same (suc n) s t h = ap₂ (λ (a b : ℕ). a + b) (h 0) (total_same n (λ k. s (suc k)) (λ k. t (suc k)) (λ k. h (suc k)))

-- the sum over the mirrored squares is the same: the ranks are added in the other order
total-mirrored : (t : ℕ → ℕ) → total (λ k. t (mirrored k)) 64 ≡ total t 64
unfolding total
total-mirrored t = omega arith

-- a count over the board is a sum over the squares
count_is : (q : Option Man → Bool) (men : Men) → length men ≡ 64
    → count_by q men ≡ total (λ s. one_if (q (man_at men s))) 64
count_is q men whole =
    ap (count_by q) (men_are men whole ∙ map_squares (λ s. man_at men s)) ∙ count-from_below q 64 (λ s. man_at men s)

-- as many pieces in the mirror pass a test that ignores colours
count-mirrored : (q : Option Man → Bool) (men : Men) → length men ≡ 64 → ((o : Option Man) → q (flipped o) ≡ q o)
    → count_by q (mirrored_men men) ≡ count_by q men
unfolding mirrored_men
count-mirrored q men whole same =
    ap (count_by q) (map_squares (λ s. flipped (man_at men (mirrored s))))
    ∙ count-from_below q 64 (λ s. flipped (man_at men (mirrored s)))
    ∙ total_same 64 _ _ (λ k. ap one_if (same (man_at men (mirrored k))))
    ∙ total-mirrored (λ s. one_if (q (man_at men s)))
    ∙ sym (count_is q men whole)

-- ---- bishops

-- the mirrored square of file f and rank r has the other colour; shade_turned_back says the converse
shade_turned : (f r : ℕ) → r ≤ 7 → ((f + (7 - r)) % 2 == 0) ≡ ((f + r) % 2 == 1)
shade_turned f r h = grind (arith, nat_tests)

shade_turned_back : (f r : ℕ) → r ≤ 7 → ((f + (7 - r)) % 2 == 1) ≡ ((f + r) % 2 == 0)
shade_turned_back f r h = grind (arith, nat_tests)

-- a bishop is on a square of colour n in the mirror exactly if one is on the other colour, m
bishop_on : (n m : ℕ) (men : Men) → ((f r : ℕ) → r ≤ 7 → ((f + (7 - r)) % 2 == n) ≡ ((f + r) % 2 == m))
    → has_bishop_on n (mirrored_men men) ≡ has_bishop_on m men
unfolding has_bishop_on
bishop_on n m men turned =
    sym (some_mirrored (λ s. ((file s + rank s) % 2 == n) && is_kind Bishop (man_at (mirrored_men men) s)))
    ∙ some_square_same _ _ (λ s l.
    ap₂ (λ (a b : Bool). a && b)
    (ap₂ (λ (f r : ℕ). (f + r) % 2 == n) (same_file s) (other_rank s l) ∙ turned (file s) (rank s) (rank_in s l))
    (ap (is_kind Bishop) (man_at-mirrored men s l) ∙ is_kind-flipped Bishop (man_at men s)))

-- so material is insufficient in both or in neither
pub material-mirrored : (men : Men) → length men ≡ 64
    → has_insufficient_material (mirrored_men men) ≡ has_insufficient_material men
unfolding has_insufficient_material
material-mirrored men whole =
    let majors = any-mirrored (λ o. is_kind Pawn o || is_kind Rook o || is_kind Queen o) men whole
    (λ o. ap₂ (λ (a b : Bool). a || b) (ap₂ (λ (a b : Bool). a || b) (is_kind-flipped Pawn o) (is_kind-flipped Rook o)) (is_kind-flipped Queen o)) in
    let minors = count-mirrored (λ o. is_kind Bishop o || is_kind Knight o) men whole
    (λ o. ap₂ (λ (a b : Bool). a || b) (is_kind-flipped Bishop o) (is_kind-flipped Knight o)) in
    let knights = any-mirrored (is_kind Knight) men whole (is_kind-flipped Knight) in
    let bishops : (has_bishop_on 0 (mirrored_men men) && has_bishop_on 1 (mirrored_men men))
    ≡ (has_bishop_on 0 men && has_bishop_on 1 men) =
    ap₂ (λ (a b : Bool). a && b) (bishop_on 0 1 men shade_turned) (bishop_on 1 0 men shade_turned_back)
    ∙ and_comm (has_bishop_on 1 men) (has_bishop_on 0 men) in
    rw (majors, minors, knights, bishops) refl

-- ---- all together

pub mirror_ends_alike : MirrorEndsAlike
mirror_ends_alike p sound = record {
  mate = (
    λ h. record { check = sym (is_in_check-mirrored p.men p.side) ∙ h.check; moves = none_from_mirror p sound h.moves },
    λ h. record { check = is_in_check-mirrored p.men p.side ∙ h.check; moves = none_in_mirror p sound h.moves },
  );
  stalemate = (
    λ h. record { check = sym (is_in_check-mirrored p.men p.side) ∙ h.check; moves = none_from_mirror p sound h.moves },
    λ h. record { check = is_in_check-mirrored p.men p.side ∙ h.check; moves = none_in_mirror p sound h.moves },
  );
  material = material-mirrored p.men sound.board;
}
