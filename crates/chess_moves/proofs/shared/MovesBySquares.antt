-- The list of legal moves from its parts: start square by start square (moves-by_start), with none from a square
-- without an own piece (none_from). Between two squares all name a promotion if a pawn would promote, otherwise none
-- does (all_promote, none_promotes; by Reach). If all with some promotions fit into a list, the next one has room
-- (room_for_next). For boards.
use Rattle.std.proofs.Common.{◌≡◌, ℕ, zero, suc, ◌+◌, ◌<◌, ◌≤◌, Bool, true, false, Option, Some, None, List, [], ◌∷◌, ◌++◌, length, get_or, map, take, refl, ◌∙◌, ap, arith, inl, inr, length-append, filter, flat_map}
use Rattle.std.proofs.{Math.Path.fun_ext, lemmas.Bool.cases_Bool, lemmas.Bool.false_from_ne_true, lemmas.Bool.both_ways, lemmas.List.Elements.filter-append}
use Rattle.chess_base.specs.{declared.man.Kind.Kind, declared.man.Move.Move, declared.setup.Setup.Setup, Men.man_at, Men.is_of, Moves.is_legal, Squares.squares}
use Rattle.chess_base.specs.declared.man.Kind.TheVariants.{Queen, Rook, Bishop, Knight}
use Rattle.chess_base.specs.MoveList.{promotions, move_of, all_moves, moves}
use Rattle.chess_moves.specs.{shared.MovesBySquares.moves_with, shared.MovesBySquares.moves_between, shared.MovesBySquares.moves_from, Promoting.would_promote}
use Rattle.chess_moves.proofs.Reach.{own_man_moves, promotes_on_last_rank, stays_below_last_rank}

-- what a filter keeps of the lists for each element
pub filter-flat_map : {A B : Type 0} (q : B → Bool) (f : A → List B) (xs : List A)
    → filter q (flat_map f xs) ≡ flat_map (λ x. filter q (f x)) xs
filter-flat_map q f [] = refl
filter-flat_map q f (x ∷ xs) = filter-append q (f x) (flat_map f xs)
    ∙ ap (λ ys. filter q (f x) ++ ys) (filter-flat_map q f xs)

-- the lists for each element, all empty, one after another are empty
flat_map-empty : {A B : Type 0} (f : A → List B) (xs : List A) → ((x : A) → f x ≡ []) → flat_map f xs ≡ []
flat_map-empty f [] h = refl
flat_map-empty f (x ∷ xs) h = rw (h x) (flat_map-empty f xs h)

-- the list of legal moves is the lists from each start square, joined
pub moves-by_start : (p : Setup) → moves p ≡ flat_map (λ a. moves_from p a) squares
unfolding moves all_moves moves_from moves_between
moves-by_start p =
    filter-flat_map (λ m. is_legal p m) (λ a. flat_map (λ b. map (move_of a b) promotions) squares) squares
    ∙ ap (λ (f : ℕ → List Move). flat_map f squares)
    (fun_ext (λ a. filter-flat_map (λ m. is_legal p m) (λ b. map (move_of a b) promotions) squares))

-- if no move between two squares is legal, with whatever promotion, none of those with the promotions `kinds` is
pub none_with : (p : Setup) (a b : ℕ) (kinds : List (Option Kind)) → ((k : Option Kind) → is_legal p (move_of a b k) ≡ false)
    → moves_with p a b kinds ≡ []
none_with p a b [] h = refl
none_with p a b (k ∷ ks) h = rw (h k) (none_with p a b ks h)

-- from a square without a piece of the side on move there is no legal move
pub none_from : (p : Setup) (a : ℕ) → is_of p.side (man_at p.men a) ≡ false → moves_from p a ≡ []
unfolding moves_from moves_between
none_from p a n =
    flat_map-empty (λ b. moves_with p a b promotions) squares
    (λ b. none_with p a b promotions
    (λ k. false_from_ne_true _ (λ e. both_ways _ n (own_man_moves p (move_of a b k) e))))

-- the kinds to which a pawn promotes, in the order of the list of moves
abbrev pub promoting : List (Option Kind)
promoting = Some Queen ∷ Some Rook ∷ Some Bishop ∷ Some Knight ∷ []

-- where a pawn would promote, all legal moves between two squares name a promotion
pub all_promote : (p : Setup) (a b : ℕ) → would_promote p a b ≡ true → moves_between p a b ≡ moves_with p a b promoting
unfolding moves_between
all_promote p a b e =
    let none : is_legal p (move_of a b None) ≡ false = false_from_ne_true _
    (λ h. both_ways _ (stays_below_last_rank p (move_of a b None) refl h) e) in
    rw none (refl {a = moves_with p a b promoting})

-- no legal move names a promotion where the move would not promote
not_promoted : (p : Setup) (a b : ℕ) (k : Kind) → would_promote p a b ≡ false → is_legal p (move_of a b (Some k)) ≡ false
not_promoted p a b k n = false_from_ne_true _
    (λ h. both_ways _ n (promotes_on_last_rank p (move_of a b (Some k)) k refl h))

-- where no pawn would promote, only the move without a promotion may be legal
pub none_promotes : (p : Setup) (a b : ℕ) → would_promote p a b ≡ false
    → moves_between p a b ≡ moves_with p a b (None ∷ [])
unfolding moves_between
none_promotes p a b n =
    rw (not_promoted p a b Queen n, not_promoted p a b Rook n, not_promoted p a b Bishop n, not_promoted p a b Knight n)
    refl

-- if the promotion with the index i gives a legal move, the ones before it give fewer moves than all
with_more : (p : Setup) (a b : ℕ) (kinds : List (Option Kind)) (i : ℕ) (d : Option Kind) → i < length kinds
    → is_legal p (move_of a b (get_or kinds i d)) ≡ true
    → length (moves_with p a b (take i kinds)) < length (moves_with p a b kinds)
with_more p a b [] i d h e = absurd (omega arith)
with_more p a b (k ∷ ks) zero d h e = rw e (omega arith)
with_more p a b (k ∷ ks) (suc i) d h e =
    let rest = with_more p a b ks i d (omega arith) e in
    elim (cases_Bool (is_legal p (move_of a b k))) [
      | inl legal ↦ rw legal (omega arith)
      | inr not_legal ↦ rw not_legal rest
    ]

-- where the legal moves of a list fit, there is room for the next of them
pub room_for_next : (p : Setup) (a b : ℕ) (kinds : List (Option Kind)) (i : ℕ) (d : Option Kind) (start now : List Move)
    (room : ℕ) → i < length kinds → now ≡ start ++ moves_with p a b (take i kinds)
    → length start + length (moves_with p a b kinds) ≤ room → is_legal p (move_of a b (get_or kinds i d)) ≡ true
    → length now < room
room_for_next p a b kinds i d start now room h e fits legal =
    let more = with_more p a b kinds i d h legal in
    let all : length now ≡ length start + length (moves_with p a b (take i kinds)) =
    rw e (length-append start (moves_with p a b (take i kinds))) in
    omega arith
