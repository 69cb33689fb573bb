-- A legal move that passes a test is found in the list of all legal moves (any-move); if no other legal move passes,
-- filtering that list by the test leaves just this move (only-move). The list is made by start, end and promotion, so
-- the proofs go through these: nothing is kept from another start, to another end or with another promotion.
use Rattle.std.proofs.Common.{◌≡◌, ◌≢◌, ℕ, zero, suc, ◌<◌, ◌≤◌, inl, inr, Bool, true, false, ◌&&◌, cond, Option, Some, None, List, [], ◌∷◌, map, refl, sym, ap, ◌∙◌, arith, IfSome, append-nil}
use Rattle.std.proofs.lemmas.Bool.{cases_Bool, cases_lt, and_parts, and_from, false_from_ne_true}
use Rattle.std.specs.List.{filter, flat_map, list_any}
use Rattle.chess_base.specs.{declared.man.Kind.Kind, declared.man.Move.Move, declared.setup.Setup.Setup, Moves.is_legal, Squares.squares, shared.Below.from_below}
use Rattle.chess_base.specs.declared.man.Kind.TheVariants.{King, Queen, Rook, Bishop, Knight, Pawn}
use Rattle.chess_base.specs.MoveList.{promotions, move_of, all_moves, moves}
use Rattle.chess_moves.proofs.{shared.MovesBySquares.filter-flat_map, shared.AnyMove.any-filter, shared.AnyMove.any-flat_map, shared.AnyMove.any-square}
use Rattle.chess_text.specs.laws.Laws.{CanPromote}
use Rattle.chess_text.proofs.{Legal.legal_move, Lists.any-map, Lists.promotion_in}

-- ---- over lists

pub filter-both : {A : Type 0} (q t : A → Bool) (xs : List A) → filter t (filter q xs) ≡ filter (λ x. q x && t x) xs
filter-both q t [] = refl
filter-both q t (x ∷ xs) =
    elim (cases_Bool (q x)) [
      | inr failed ↦ rw failed (filter-both q t xs)
      | inl passed ↦ rw passed (ap (λ ys. cond (t x) (x ∷ ys) ys) (filter-both q t xs))
    ]

-- ---- over squares

-- if f gives the empty list for g 0 .. g (n - 1), these lists joined are empty
none-from_below : {A : Type 0} (n : ℕ) (g : ℕ → ℕ) (f : ℕ → List A) → ((k : ℕ) → k < n → f (g k) ≡ [])
    → flat_map f (from_below n g) ≡ []
none-from_below zero g f h = refl
none-from_below (suc n) g f h =
    rw (h 0 (omega arith)) (none-from_below n (λ i. g (suc i)) f (λ k l. h (suc k) (omega arith)))

-- if f gives anything only for g a, the lists of g 0 .. g (n - 1) joined are that of g a
only-from_below : {A : Type 0} (n : ℕ) (g : ℕ → ℕ) (f : ℕ → List A) (a : ℕ) → a < n → ((k : ℕ) → k ≢ a → f (g k) ≡ [])
    → flat_map f (from_below n g) ≡ f (g a)
only-from_below zero g f a h e = absurd (omega arith)
only-from_below (suc n) g f zero h e = rw (none-from_below n (λ i. g (suc i)) f (λ k l. e (suc k) (omega arith)))
    (append-nil (f (g 0)))
only-from_below (suc n) g f (suc a) h e =
    rw (e 0 (omega arith)) (only-from_below n (λ i. g (suc i)) f a (omega arith) (λ k l. e (suc k) (omega arith)))

-- if f gives the empty list for each number but a, its lists for the 64 squares joined are f a; a may be no square if f
-- a is empty too
pub alone-square : {A : Type 0} (f : ℕ → List A) (a : ℕ) → ((k : ℕ) → k ≢ a → f k ≡ []) → (64 ≤ a → f a ≡ [])
    → flat_map f squares ≡ f a
unfolding squares
alone-square f a e none =
    elim (cases_lt a 64) [
      | inl below ↦ only-from_below 64 (λ s. s) f a below e
      | inr above ↦ none-from_below 64 (λ s. s) f (λ k h. e k (λ same. omega (arith, same, h, above)))
          ∙ sym (none above)
    ]

-- the same for a square a
only-square : {A : Type 0} (f : ℕ → List A) (a : ℕ) → a < 64 → ((k : ℕ) → k ≢ a → f k ≡ []) → flat_map f squares ≡ f a
unfolding squares
only-square f a h e = only-from_below 64 (λ s. s) f a h e

none-squares : {A : Type 0} (f : ℕ → List A) → ((k : ℕ) → f k ≡ []) → flat_map f squares ≡ []
unfolding squares
none-squares f e = none-from_below 64 (λ s. s) f (λ k l. e k)

-- ---- some move of the list

-- some move from a to b, with one of the promotions or none, passes the test t
abbrev among : (Move → Bool) → ℕ → ℕ → Bool
among t a b = list_any t (map (move_of a b) promotions)

-- a move between two squares, with a possible promotion or none, is in `all_moves`: a test that it passes finds a move
-- there
any-triple : (t : Move → Bool) (m : Move) → m.from < 64 → m.to < 64 → IfSome m.promotion CanPromote → t m ≡ true
    → list_any t all_moves ≡ true
unfolding all_moves
any-triple t m f b k e =
    let here : among t m.from m.to ≡ true = any-map t (move_of m.from m.to) promotions
    ∙ promotion_in m.promotion k (λ o. t (move_of m.from m.to o)) e in
    let from : list_any t (flat_map (λ b. map (move_of m.from b) promotions) squares) ≡ true =
    any-flat_map t (λ b. map (move_of m.from b) promotions) squares
    ∙ any-square (λ b. among t m.from b) m.to b here in
    any-flat_map t (λ a. flat_map (λ b. map (move_of a b) promotions) squares) squares
    ∙ any-square (λ a. list_any t (flat_map (λ b. map (move_of a b) promotions) squares)) m.from f from

-- a legal move that passes a test is among all moves
pub any-move : (p : Setup) (t : Move → Bool) (m : Move) → is_legal p m ≡ true → t m ≡ true → list_any t (moves p) ≡ true
unfolding moves
any-move p t m legal e =
    let h = legal_move p m legal in
    any-filter (λ x. is_legal p x) t all_moves ∙ any-triple (λ x. is_legal p x && t x) m h.from_in h.to_in
    h.promotion_is (and_from (is_legal p m) (t m) legal e)

-- ---- the only move of the list

-- the moves from a to b, with one of the promotions or none, that pass the test t
abbrev pub kept : (Move → Bool) → ℕ → ℕ → List Move
kept t a b = filter t (map (move_of a b) promotions)

pub none-kept : (t : Move → Bool) (a b : ℕ) → ((k : Option Kind) → t (move_of a b k) ≡ false) → kept t a b ≡ []
none-kept t a b h = rw (h None, h (Some Queen), h (Some Rook), h (Some Bishop), h (Some Knight)) refl

-- if of the moves from a to b only that with promotion o passes, it is the only one kept
only-promotion : (t : Move → Bool) (a b : ℕ) (o : Option Kind) → IfSome o CanPromote → t (move_of a b o) ≡ true
    → ((k : Option Kind) → k ≢ o → t (move_of a b k) ≡ false) → kept t a b ≡ move_of a b o ∷ []
only-promotion t a b None h e n =
    rw (e, n (Some Queen) (λ q. cc), n (Some Rook) (λ q. cc), n (Some Bishop) (λ q. cc), n (Some Knight) (λ q. cc)) refl
only-promotion t a b (Some King) h e n = absurd h
only-promotion t a b (Some Pawn) h e n = absurd h
only-promotion t a b (Some Queen) h e n =
    rw (e, n None (λ q. cc), n (Some Rook) (λ q. cc), n (Some Bishop) (λ q. cc), n (Some Knight) (λ q. cc)) refl
only-promotion t a b (Some Rook) h e n =
    rw (e, n None (λ q. cc), n (Some Queen) (λ q. cc), n (Some Bishop) (λ q. cc), n (Some Knight) (λ q. cc)) refl
only-promotion t a b (Some Bishop) h e n =
    rw (e, n None (λ q. cc), n (Some Queen) (λ q. cc), n (Some Rook) (λ q. cc), n (Some Knight) (λ q. cc)) refl
only-promotion t a b (Some Knight) h e n =
    rw (e, n None (λ q. cc), n (Some Queen) (λ q. cc), n (Some Rook) (λ q. cc), n (Some Bishop) (λ q. cc)) refl

-- if only m passes the test, filtering `all_moves` leaves just m: nothing is kept from other squares (`away`), to other
-- squares (`aside`) or with other promotions
only-triple : (t : Move → Bool) (m : Move) → m.from < 64 → m.to < 64 → IfSome m.promotion CanPromote → t m ≡ true
    → ((n : Move) → t n ≡ true → n ≡ m) → filter t all_moves ≡ m ∷ []
unfolding all_moves
only-triple t m f b k e alone =
    let other : (n : Move) → n ≢ m → t n ≡ false = λ n differs.
    false_from_ne_true (t n) (λ passed. differs (alone n passed)) in
    let away : (a : ℕ) → a ≢ m.from → filter t (flat_map (λ b. map (move_of a b) promotions) squares) ≡ [] = λ a differs.
    filter-flat_map t (λ b. map (move_of a b) promotions) squares
    ∙ none-squares (λ b. kept t a b)
    (λ b. none-kept t a b (λ k. other (move_of a b k) (λ same. differs (ap (λ (n : Move). n.from) same)))) in
    let aside : (b : ℕ) → b ≢ m.to → kept t m.from b ≡ [] = λ b differs.
    none-kept t m.from b (λ k. other (move_of m.from b k) (λ same. differs (ap (λ (n : Move). n.to) same))) in
    filter-flat_map t (λ a. flat_map (λ b. map (move_of a b) promotions) squares) squares
    ∙ only-square (λ a. filter t (flat_map (λ b. map (move_of a b) promotions) squares)) m.from f away
    ∙ filter-flat_map t (λ b. map (move_of m.from b) promotions) squares
    ∙ only-square (λ b. kept t m.from b) m.to b aside
    ∙ only-promotion t m.from m.to m.promotion k e
    (λ k differs. other (move_of m.from m.to k) (λ same. differs (ap (λ (n : Move). n.promotion) same)))

-- a legal move that alone of the legal ones passes a test is the only one that is kept of all moves
pub only-move : (p : Setup) (t : Move → Bool) (m : Move) → is_legal p m ≡ true → t m ≡ true
    → ((n : Move) → is_legal p n ≡ true → t n ≡ true → n ≡ m) → filter t (moves p) ≡ m ∷ []
unfolding moves
only-move p t m legal e alone =
    let h = legal_move p m legal in
    filter-both (λ x. is_legal p x) t all_moves
    ∙ only-triple (λ x. is_legal p x && t x) m h.from_in h.to_in h.promotion_is (and_from (is_legal p m) (t m) legal e)
    (λ n both. let parts = and_parts (is_legal p n) (t n) both in alone n parts.0 parts.1)
