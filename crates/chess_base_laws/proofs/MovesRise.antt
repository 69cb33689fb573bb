-- The list of legal moves rises by start square, end square and promotion (moves_rise; `ComesBefore`). `all_moves`
-- joins lists by start square, each of which joins lists by end square, each of which has the five promotions. So the
-- order is shown from the inside out, by `pairs-over` at both joinings; leaving out the illegal moves keeps it.
use Rattle.std.proofs.Common.{◌≡◌, ℕ, zero, suc, ◌+◌, ◌<◌, ◌++◌, List, [], ◌∷◌, map, Option, arith, refl, slice_index_or, flat_map, All, AllPairs}
use Rattle.std.proofs.{lemmas.List.Concat.flat_map-cons, lemmas.List.Elements.All-append, lemmas.List.Elements.All-map, lemmas.List.Kept.AllPairs-cons, lemmas.List.Kept.AllPairs-filter}
use Rattle.chess_base.specs.{declared.man.Kind.Kind, declared.setup.Setup.Setup, Moves.is_legal, Squares.squares, shared.Below.from_below}
use Rattle.chess_base.specs.MoveList.{promotions, move_of, all_moves, moves}
use Rattle.chess_base.specs.laws.Laws.{promotion_index, ComesBefore, ByStart, ByEnd, ByPromotion}

-- ---- lists

-- two lists joined: R holds for each earlier and later member, if it does within each list and from the first list's
-- members to the second's
pairs-append : {X : Type 0} (R : X → X → Type 0) (xs ys : List X) → AllPairs R xs → AllPairs R ys
    → All (λ m. All (R m) ys) xs → AllPairs R (xs ++ ys)
pairs-append R [] ys p q across = q
pairs-append R (x ∷ xs) ys p q across =
    AllPairs-cons R x (xs ++ ys)
    (All-append (R x) xs ys (λ k d h. p 0 (suc k) d (omega arith) (omega arith)) (across 0 x (omega arith)))
    (pairs-append R xs ys (λ i j d l h. p (suc i) (suc j) d (omega arith) (omega arith)) q
    (λ k d h. across (suc k) d (omega arith)))

-- the lists g (f 0) .. g (f (n - 1)) joined have only members with Q, if each of them has
all-over : {X : Type 0} (Q : X → Type 0) (g : ℕ → List X) (n : ℕ) (f : ℕ → ℕ) → ((k : ℕ) → All Q (g (f k)))
    → All Q (flat_map g (from_below n f))
all-over Q g zero f h = λ k d past. absurd (omega arith)
all-over Q g (suc n) f h =
    rw (flat_map-cons g (f 0) (from_below n (λ k. f (suc k))))
    (All-append Q (g (f 0)) (flat_map g (from_below n (λ k. f (suc k)))) (h 0)
    (all-over Q g n (λ k. f (suc k)) (λ k. h (suc k))))

-- the lists g (f 0) .. g (f (n - 1)) joined are in order of R, if each list is, f rises, and R leads from each member
-- of a list g a (of which P a holds) to each of a list g b with a < b
pairs-over : {X : Type 0} (R : X → X → Type 0) (P : ℕ → X → Type 0) (g : ℕ → List X) → ((a : ℕ) → All (P a) (g a))
    → ((a : ℕ) → AllPairs R (g a)) → ((a b : ℕ) (m n : X) → a < b → P a m → P b n → R m n)
    → (n : ℕ) (f : ℕ → ℕ) → ((i j : ℕ) → i < j → f i < f j) → AllPairs R (flat_map g (from_below n f))
pairs-over R P g holds each before zero f rises = λ i j d l past. absurd (omega arith)
pairs-over R P g holds each before (suc n) f rises =
    rw (flat_map-cons g (f 0) (from_below n (λ k. f (suc k))))
    (pairs-append R (g (f 0)) (flat_map g (from_below n (λ k. f (suc k)))) (each (f 0))
    (pairs-over R P g holds each before n (λ k. f (suc k)) (λ i j l. rises (suc i) (suc j) (omega arith)))
    (λ k d h. all-over (R (slice_index_or (g (f 0)) k d)) g n (λ b. f (suc b))
    (λ b. λ i e in'. before (f 0) (f (suc b)) (slice_index_or (g (f 0)) k d) (slice_index_or (g (f (suc b))) i e)
    (rises 0 (suc b) (omega arith)) (holds (f 0) k d h) (holds (f (suc b)) i e in'))))

-- ---- moves

-- what `promotion_index` gives for none, queen, rook, bishop and knight, in this order: 0, 2, 3, 4, 5
abbrev index_at : ℕ → ℕ
index_at zero = 0
index_at (suc i) = 2 + i

-- the promotion with index i in the list has the number `index_at i` in the order
promotion_at : (i : ℕ) (d : Option Kind) → i < 5 → promotion_index (slice_index_or promotions i d) ≡ index_at i
promotion_at zero d h = refl
promotion_at (suc zero) d h = refl
promotion_at (suc (suc zero)) d h = refl
promotion_at (suc (suc (suc zero))) d h = refl
promotion_at (suc (suc (suc (suc zero)))) d h = refl
promotion_at (suc (suc (suc (suc (suc n))))) d h = absurd (omega arith)

-- these numbers rise
index_rises : (i j : ℕ) → i < j → index_at i < index_at j
index_rises i zero l = absurd (omega arith)
index_rises zero (suc j) l = omega arith
index_rises (suc i) (suc j) l = omega arith

-- so the list of promotions rises
promotions_rise : AllPairs (λ j k. promotion_index j < promotion_index k) promotions
promotions_rise = λ i j d l h.
    let late : j < 5 = h in
    let early : i < 5 = omega arith in
    rw (promotion_at i d early, promotion_at j d late) (index_rises i j l)

-- the moves that differ by their promotion alone rise
triples_rise : (a b : ℕ) (ks : List (Option Kind)) → AllPairs (λ j k. promotion_index j < promotion_index k) ks
    → AllPairs ComesBefore (map (move_of a b) ks)
triples_rise a b [] p = λ i j d l past. absurd (omega arith)
triples_rise a b (k ∷ ks) p =
    AllPairs-cons ComesBefore (move_of a b k) (map (move_of a b) ks)
    (All-map (ComesBefore (move_of a b k)) (move_of a b) ks
    (λ i e h. ByPromotion refl refl (p 0 (suc i) e (omega arith) (omega arith))))
    (triples_rise a b ks (λ i j d l h. p (suc i) (suc j) d (omega arith) (omega arith)))

-- the moves from one square rise by end square, and then by promotion
from_one_rise : (a : ℕ) → AllPairs ComesBefore (flat_map (λ b. map (move_of a b) promotions) squares)
unfolding squares
from_one_rise a =
    pairs-over ComesBefore (λ b m. (m.from ≡ a) × (m.to ≡ b)) (λ b. map (move_of a b) promotions)
    (λ b. All-map (λ m. (m.from ≡ a) × (m.to ≡ b)) (move_of a b) promotions (λ k d h. (refl, refl)))
    (λ b. triples_rise a b promotions promotions_rise)
    (λ b c m n l e f. ByEnd (rw (e.0, f.0) refl) (rw (e.1, f.1) l)) 64 (λ s. s) (λ i j l. l)

-- all moves in the list of a start square a start from a
starts : (a : ℕ) → All (λ m. m.from ≡ a) (flat_map (λ b. map (move_of a b) promotions) squares)
unfolding squares
starts a = all-over (λ m. m.from ≡ a) (λ b. map (move_of a b) promotions) 64 (λ s. s)
    (λ b. All-map (λ m. m.from ≡ a) (move_of a b) promotions (λ k d h. refl))

-- all moves, legal or not, rise by start square, then by end square, then by promotion
all_triples_rise : AllPairs ComesBefore all_moves
unfolding all_moves squares
all_triples_rise =
    pairs-over ComesBefore (λ a m. m.from ≡ a) (λ a. flat_map (λ b. map (move_of a b) promotions) squares) starts
    from_one_rise
    (λ a b m n l e f. ByStart (rw (e, f) l)) 64 (λ s. s) (λ i j l. l)

-- each legal move comes before all that follow it in the list
pub moves_rise : (p : Setup) → AllPairs ComesBefore (moves p)
unfolding moves
moves_rise p = AllPairs-filter ComesBefore (λ m. is_legal p m) all_moves all_triples_rise
