-- Legal moves listed square by square of a set. What holds on a set's squares holds of its members (each_member); a
-- list that has room for all moves has it for those of each member (room_for, room_onto, fits_from). Between two
-- squares all four promotions are legal or none, elsewhere one move or none (promotions_between, one_between). The
-- moves from a square to all its targets are all its moves (from_targets), and those of the own pieces are all legal
-- moves (from_men).
use Rattle.std.proofs.Common.{◌≡◌, ℕ, zero, suc, ◌+◌, ◌<◌, ◌≤◌, inl, inr, Bool, true, false, Option, Some, None, List, [], ◌∷◌, ◌++◌, length, map, take, cond, refl, sym, ap, subst, ◌∙◌, arith, length-append}
use Rattle.std.specs.List.{filter, flat_map, range_with_len}
use Rattle.std.proofs.{lemmas.List.length-map, lemmas.List.length-take-le, lemmas.Bool.cases_Bool, lemmas.Bool.false_from_ne_true, lemmas.Bool.both_ways}
use Rattle.chess_base.specs.{declared.man.Kind.Kind, declared.man.Move.Move, declared.setup.Setup.Setup, Men.man_at, Men.is_of, MoveList.move_of, MoveList.moves, Squares.squares, Moves.is_pseudo_legal, Moves.is_legal, Moves.promotion_fits, Sound.IsSound}
use Rattle.chess_base.specs.declared.man.Kind.TheVariants.{Queen, Rook, Bishop, Knight}
use Rattle.chess_moves.specs.{shared.MovesBySquares.moves_between, shared.MovesBySquares.moves_from, Promoting.would_promote, Sets.contains, Sets.members}
use Rattle.chess_moves.proofs.{shared.Members.flat_map_members, shared.LegalMoves.moves_fit}
use Rattle.chess_moves.proofs.shared.MovesBySquares.{moves-by_start, none_from, promoting, all_promote, none_promotes}
use Rattle.chess_bits.specs.ties.Goes.{goes}
use Rattle.chess_bits.proofs.Patterns.{pattern_from}

-- ---- members

-- P holds of each number in the list
abbrev pub Each : (ℕ → Type 0) → List ℕ → Type 0
Each P [] = Unit {0}
Each P (x ∷ xs) = P x × Each P xs

-- what holds of each number that passes q holds of each in the list of those that do
each_filter : (q : ℕ → Bool) (P : ℕ → Type 0) (n a : ℕ) → a + n ≤ 64 → ((k : ℕ) → k < 64 → q k ≡ true → P k)
    → Each P (filter q (range_with_len a n))
each_filter q P zero a fits h = tt
each_filter q P (suc n) a fits h =
    elim (cases_Bool (q a)) [
      | inl on ↦ rw on (h a (omega arith) on, each_filter q P n (a + 1) (omega arith) h)
      | inr off ↦ rw off (each_filter q P n (a + 1) (omega arith) h)
    ]

-- what holds on each square of a set holds of each of its members
pub each_member : (w : ℕ) (P : ℕ → Type 0) → ((k : ℕ) → k < 64 → contains w k ≡ true → P k) → Each P (members w)
unfolding members squares
each_member w P h = each_filter (λ k. contains w k) P 64 0 (omega arith) h

-- so it holds of the first one
pub each_first : (P : ℕ → Type 0) (ms : List ℕ) (s : ℕ) (ns : List ℕ) → ms ≡ s ∷ ns → Each P ms → P s
each_first P ms s ns e h = (subst (Each P) e h).0

-- ---- what is gathered and what is left

-- if each list g b has the one element f b, these elements are the lists joined
pub all_ones : {A : Type 0} (g : ℕ → List A) (f : ℕ → A) (ms : List ℕ) → Each (λ b. g b ≡ f b ∷ []) ms
    → flat_map g ms ≡ map f ms
all_ones g f [] h = refl
all_ones g f (x ∷ xs) h =
    let one : g x ≡ f x ∷ [] = h.0 in
    rw (one, all_ones g f xs h.1) refl

-- the list `now` and what the members ms still give are at most n moves, so there is room for the next
pub room_onto : {A : Type 0} (f : ℕ → A) (now whole : List A) (ms : List ℕ) (s : ℕ) (ns : List ℕ) (n : ℕ)
    → ms ≡ s ∷ ns → now ++ map f ms ≡ whole → length whole ≤ n → length now < n
room_onto f now whole ms s ns n e h fits =
    let all : now ++ map f (s ∷ ns) ≡ whole = rw e at h in
    let long : length now + length (map f (s ∷ ns)) ≡ length whole = sym (length-append now (map f (s ∷ ns)))
    ∙ ap length all in
    omega (arith, long, fits)

-- where all of a list fit, there is room for the next of them
pub room_for_each : {A B : Type 0} (f : A → B) (xs : List A) (i : ℕ) (start now : List B) (room : ℕ) → i < length xs
    → now ≡ start ++ map f (take i xs) → length start + length xs ≤ room → length now < room
room_for_each f xs i start now room h e fits =
    let long = ap length e ∙ length-append start (map f (take i xs)) in
    omega (arith, long, length-map (take i xs) f, length-take-le i xs (omega (arith, h)), h, fits)

-- the same if each member s gives a list g s, with room for all of it
pub room_for : {A : Type 0} (g : ℕ → List A) (now whole : List A) (ms : List ℕ) (s : ℕ) (ns : List ℕ) (n : ℕ)
    → ms ≡ s ∷ ns → now ++ flat_map g ms ≡ whole → length whole ≤ n → length now + length (g s) ≤ n
room_for g now whole ms s ns n e h fits =
    let all : now ++ (g s ++ flat_map g ns) ≡ whole = rw e at h in
    let long : length now + (length (g s) + length (flat_map g ns)) ≡ length whole =
    sym (length-append now (g s ++ flat_map g ns) ∙ ap (λ k. length now + k) (length-append (g s) (flat_map g ns)))
    ∙ ap length all in
    omega (arith, long, fits)

-- ---- legal moves

-- if the piece on a goes to b, and is no pawn that promotes there, the move without a promotion is pseudo-legal
pub unpromoted : (p : Setup) (a b : ℕ) → goes p a b ≡ true → would_promote p a b ≡ false
    → is_pseudo_legal p (move_of a b None) ≡ true
unpromoted p a b g e = pattern_from p (move_of a b None) g (rw e refl)

-- a filter with a test on which four elements agree keeps all four or none
all_or_none : {A : Type 0} (q : A → Bool) (w x y z : A) (t : Bool) → t ≡ q w → t ≡ q x → t ≡ q y → t ≡ q z
    → filter q (w ∷ x ∷ y ∷ z ∷ []) ≡ cond t (w ∷ x ∷ y ∷ z ∷ []) []
all_or_none q w x y z true e f g h = rw (← e, ← f, ← g, ← h) refl
all_or_none q w x y z false e f g h = rw (← e, ← f, ← g, ← h) refl

-- the promotions to each kind are all moves of a pawn that promotes, or none is legal
pub promotions_between : (p : Setup) (a b : ℕ) (t : Bool) → would_promote p a b ≡ true
    → ((k : Kind) → promotion_fits true (Some k) ≡ true → t ≡ is_legal p (move_of a b (Some k)))
    → moves_between p a b ≡ cond t (map (move_of a b) promoting) []
promotions_between p a b t e h =
    all_promote p a b e
    ∙ all_or_none (λ m. is_legal p m) (move_of a b (Some Queen)) (move_of a b (Some Rook)) (move_of a b (Some Bishop))
    (move_of a b (Some Knight)) t (h Queen refl) (h Rook refl) (h Bishop refl) (h Knight refl)

-- where no pawn would promote, the legal moves between two squares are the one without a promotion, if it is legal, and
-- otherwise none
pub one_between : (p : Setup) (a b : ℕ) → would_promote p a b ≡ false
    → moves_between p a b ≡ cond (is_legal p (move_of a b None)) (move_of a b None ∷ []) []
one_between p a b e = none_promotes p a b e
    ∙ elim (cases_Bool (is_legal p (move_of a b None))) [ inl legal ↦ rw legal refl | inr not_legal ↦ rw not_legal refl ]

-- if no move between two squares is legal, with whatever promotion, the list of legal moves between them is empty
pub none_there : (p : Setup) (a b : ℕ) → ((k : Option Kind) → is_legal p (move_of a b k) ≡ false)
    → moves_between p a b ≡ []
unfolding moves_between
none_there p a b h = rw (h None, h (Some Queen), h (Some Rook), h (Some Bishop), h (Some Knight)) refl

-- if each legal move from a ends on a square of w, the moves to these squares are all from a
pub from_targets : (p : Setup) (a w : ℕ) → ((m : Move) → is_legal p m ≡ true → m.from ≡ a → contains w m.to ≡ true)
    → flat_map (λ b. moves_between p a b) (members w) ≡ moves_from p a
unfolding moves_from
from_targets p a w all =
    flat_map_members (λ b. moves_between p a b) w
    (λ b low out. none_there p a b
    (λ k. false_from_ne_true (is_legal p (move_of a b k))
    (λ e. both_ways (contains w b) out (all (move_of a b k) e refl))))

-- the legal moves of the own pieces are all legal moves
pub from_men : (p : Setup) (w : ℕ) → ((k : ℕ) → k < 64 → contains w k ≡ is_of p.side (man_at p.men k))
    → flat_map (λ a. moves_from p a) (members w) ≡ moves p
from_men p w own = flat_map_members (λ a. moves_from p a) w (λ a low out. none_from p a (sym (own a low) ∙ out))
    ∙ sym (moves-by_start p)

-- ---- whether there is one

-- a list with the moves of some own pieces, while those on ms are left, has room for the moves of the next one: all
-- legal moves of a sound position are at most 896
pub fits_from : (p : Setup) (now : List Move) (ms : List ℕ) (s : ℕ) (ns : List ℕ) → IsSound p → ms ≡ s ∷ ns
    → now ++ flat_map (λ a. moves_from p a) ms ≡ moves p → length now + length (moves_from p s) ≤ 896
fits_from p now ms s ns sound e h = room_for (λ a. moves_from p a) now (moves p) ms s ns 896 e h (moves_fit p sound)
