-- The rivals of a move of a piece other than a pawn begin on the squares from which another piece of its kind has a
-- legal move to its end square (rivals): one move from each, since such a move is no promotion. Then, of this set of
-- squares: whether one is on a file or rank (some_met), and what is written of the start beside them, by cases of that
-- (alone, beside_others, file_written).
use mathlib.Core.Bool.{and-true, and-false, not-not}
use Rattle.std.proofs.Common.{◌≡◌, ◌≢◌, ℕ, zero, suc, ◌<◌, ◌+◌, ◌≤◌, inl, inr, Bool, true, false, not, ◌&&◌, ◌==◌, if◌then◌else◌, cond, Some, None, List, [], ◌∷◌, ◌++◌, map, refl, sym, ap, ◌∙◌, arith, subst}
use Rattle.std.proofs.lemmas.Bool.{cases_Bool, and_parts, false_from_ne_true, eqb-true, eq-eqb}
use Rattle.std.proofs.lemmas.List.{map-append}
use Rattle.std.specs.List.{filter, flat_map, list_any, range_with_len}
use Rattle.chess_base.specs.{declared.man.Kind.Kind, declared.man.Move.Move, declared.setup.Setup.Setup, Men.man_at, Men.is_man, Men.same_kind, Moves.is_legal}
use Rattle.chess_base.specs.declared.man.Kind.TheVariants.{Queen, Rook, Bishop, Knight, Pawn}
use Rattle.chess_base.specs.Squares.{file, rank, some_square, squares}
use Rattle.chess_base.proofs.{shared.Squares.some_square_same, shared.Men.same_kind-true, shared.Men.same_colour-self}
use Rattle.chess_base.specs.MoveList.{promotions, move_of, all_moves, moves}
use Rattle.chess_moves.specs.Sets.{contains, members, HasLegalStarts}
use Rattle.chess_moves.proofs.{shared.Members.by_range, shared.Members.members_none, shared.Members.of_range, shared.MovesBySquares.filter-flat_map, shared.AnyMove.any-filter}
use Rattle.chess_text.specs.{shared.Fitting.passes, declared.described.Described.Described, Moves.described, San.rival_starts}
use Rattle.chess_text.specs.ties.SanParts.{is_rival, distinction, some_on_file, some_on_rank, disambiguate}
use Rattle.chess_text.proofs.AllMoves.{filter-both, none-kept, kept, alone-square}
use Rattle.chess_text.proofs.Legal.{IsMove, MovesAs, unpromoted, legal_move, described_is}
use Rattle.chess_text.proofs.{Denotations.has_letter, MovesFromStarts.one_kept}

-- ---- one rival

-- m is legal, and a rival of the described move d
abbrev legal_rival : Setup → Described → Move → Bool
legal_rival p d m = is_legal p m && is_rival p d m

-- m goes to d's end square from another square
abbrev is_other : Described → Move → Bool
is_other d m = (m.to == d.to) && not (m.from == d.from)

ends : (p : Setup) (d : Described) (m : Move) → is_rival p d m ≡ true → m.to ≡ d.to
unfolding is_rival
ends p d m e =
    let two = and_parts (is_other d m) (passes (λ x. same_kind x.man d.man) (described p m)) e in
    eqb-true m.to d.to (and_parts (m.to == d.to) (not (m.from == d.from)) two.0).0

-- a legal move is a rival exactly if it goes there with a piece of d's kind
of_move : (p : Setup) (d : Described) (m : Move) (h : IsMove p m)
    → is_rival p d m ≡ (is_other d m && same_kind h.man d.man)
unfolding is_rival
of_move p d m h = ap (λ o. is_other d m && passes (λ x. same_kind x.man d.man) o) (described_is p m h)

-- a legal rival of a move that is no pawn's has no promotion
stays : (p : Setup) (d : Described) (m : Move) → same_kind d.man Pawn ≡ false → legal_rival p d m ≡ true
    → m.promotion ≡ None
stays p d m other e =
    let both = and_parts (is_legal p m) (is_rival p d m) e in
    let h = legal_move p m both.0 in
    let same : h.man ≡ d.man = same_kind-true h.man d.man
    (and_parts (is_other d m) (same_kind h.man d.man) (sym (of_move p d m h) ∙ both.1)).1 in
    unpromoted p m d.man (has_letter d.man other) (subst (MovesAs p m) same h.moves_as)

-- ---- the rivals from one square

-- no legal rival of d goes to another square than d does
elsewhere : (p : Setup) (d : Described) (m : Move) → m.to ≢ d.to → legal_rival p d m ≡ false
elsewhere p d m away = false_from_ne_true (legal_rival p d m)
    (λ e. away (ends p d m (and_parts (is_legal p m) (is_rival p d m) e).1))

-- a legal rival doesn't go to a number that is no square
outside : (p : Setup) (d : Described) (m : Move) → 64 ≤ m.to → legal_rival p d m ≡ false
outside p d m past = false_from_ne_true (legal_rival p d m)
    (λ e. let legal = legal_move p m (and_parts (is_legal p m) (is_rival p d m) e).0 in let below = legal.to_in in
    omega (arith, below, past))

-- a rival of a move that is no pawn's isn't a promotion
promoted : (p : Setup) (d : Described) (a : ℕ) (k : Kind) → same_kind d.man Pawn ≡ false
    → legal_rival p d (move_of a d.to (Some k)) ≡ false
promoted p d a k other = false_from_ne_true (legal_rival p d (move_of a d.to (Some k)))
    (λ e. let none : Some k ≡ None = stays p d (move_of a d.to (Some k)) other e in cc)

-- another piece of the kind has the legal move to the same square
abbrev starts : Setup → Described → ℕ → Bool
starts p d a = is_man p.side d.man (man_at p.men a) && is_legal p (move_of a d.to None) && not (a == d.from)

-- a move to d's end square without a promotion is a legal rival exactly if it begins on a square of `starts`
is_start : (p : Setup) (d : Described) (a : ℕ) → legal_rival p d (move_of a d.to None) ≡ starts p d a
unfolding is_man
is_start p d a =
    elim (cases_Bool (is_legal p (move_of a d.to None))) [
      | inr off ↦ rw (off, and-false (is_man p.side d.man (man_at p.men a))) refl
      | inl legal ↦
          let h = legal_move p (move_of a d.to None) legal in
          rw (legal, of_move p d (move_of a d.to None) h, h.at_from, eq-eqb d.to d.to refl, same_colour-self p.side)
          (by_kinds (not (a == d.from)) h.man d.man)
    ]
  where
    by_kinds : (t : Bool) (j k : Kind) → (t && same_kind j k) ≡ ((same_kind k j && true) && t)
    by_kinds t j k = grind (arith)

-- the starts of the legal rivals from square a: a itself, or none
from_square : (p : Setup) (d : Described) (a : ℕ) → same_kind d.man Pawn ≡ false
    → map (λ (m : Move). m.from) (filter (legal_rival p d) (flat_map (λ b. map (move_of a b) promotions) squares))
    ≡ cond (starts p d a) (a ∷ []) []
from_square p d a other =
    ap (map (λ (m : Move). m.from))
    (filter-flat_map (legal_rival p d) (λ b. map (move_of a b) promotions) squares
    ∙ alone-square (λ b. kept (legal_rival p d) a b) d.to
    (λ b away. none-kept (legal_rival p d) a b (λ k. elsewhere p d (move_of a b k) away))
    (λ past. none-kept (legal_rival p d) a d.to (λ k. outside p d (move_of a d.to k) past))
    ∙ one_kept (legal_rival p d) a d.to (starts p d a) (is_start p d a) (promoted p d a Queen other)
    (promoted p d a Rook other) (promoted p d a Bishop other) (promoted p d a Knight other))
    ∙ its_start (starts p d a)
  where
    its_start : (s : Bool) → map (λ (m : Move). m.from) (cond s (move_of a d.to None ∷ []) []) ≡ cond s (a ∷ []) []
    its_start true = refl
    its_start false = refl

-- ---- all of them

-- the moves of f are listed for one square after another, and for each square k there is one from k if t says so,
-- otherwise none: then their starts are the squares that t says
gathered : (f : ℕ → List Move) (t : ℕ → Bool) (n a : ℕ)
    → ((k : ℕ) → k < a + n → map (λ (m : Move). m.from) (f k) ≡ cond (t k) (k ∷ []) [])
    → map (λ (m : Move). m.from) (flat_map f (range_with_len a n)) ≡ filter t (range_with_len a n)
gathered f t zero a h = refl
gathered f t (suc n) a h =
    let rest : map (λ (m : Move). m.from) (flat_map f (range_with_len (a + 1) n)) ≡ filter t (range_with_len (a + 1) n) =
    gathered f t n (a + 1) (λ k l. h k (omega arith)) in
    map-append (λ (m : Move). m.from) (f a) (flat_map f (range_with_len (a + 1) n))
    ∙ rw (h a (omega arith), rest) (joined (t a) a (filter t (range_with_len (a + 1) n)))
  where
    joined : (s : Bool) (a : ℕ) (xs : List ℕ) → (cond s (a ∷ []) [] ++ xs) ≡ cond s (a ∷ xs) xs
    joined true a xs = refl
    joined false a xs = refl

-- the squares of v, which are those of w (where such pieces have the legal move) but for the move's own start (s), are
-- the starts of the legal rivals
pub rivals : (p : Setup) (d : Described) (w s v : ℕ) → same_kind d.man Pawn ≡ false → HasLegalStarts p d.man d.to w
    → ((k : ℕ) → contains s k ≡ (k == d.from)) → ((k : ℕ) → k < 64 → contains v k ≡ (contains w k && not (contains s k)))
    → members v ≡ rival_starts p (moves p) d
unfolding rival_starts is_rival moves all_moves
rivals p d w s v other legal_starts single without =
    sym (ap (map (λ (m : Move). m.from))
    (filter-both (λ m. is_legal p m) (λ m. is_rival p d m) all_moves
    ∙ filter-flat_map (legal_rival p d) (λ a. flat_map (λ b. map (move_of a b) promotions) squares) squares)
    ∙ ap (λ xs. map (λ (m : Move). m.from) (flat_map (λ a. from a) xs)) by_range
    ∙ gathered (λ a. from a) (λ k. contains v k) 64 0
    (λ k low. from_square p d k other
    ∙ ap (λ b. cond b (k ∷ []) []) (sym (without k (omega (arith, low))
    ∙ ap (λ b. b && not (contains s k)) (legal_starts k (omega (arith, low)))
    ∙ ap (λ b. is_man p.side d.man (man_at p.men k) && is_legal p (move_of k d.to None) && not b) (single k))))
    ∙ sym (of_range v))
  where
    from : ℕ → List Move
    from a = filter (legal_rival p d) (flat_map (λ b. map (move_of a b) promotions) squares)

-- ---- what is written of the start

-- one of a set's squares passes a test
any_member : (w : ℕ) (p : ℕ → Bool) → list_any p (members w) ≡ some_square (λ k. contains w k && p k)
unfolding members some_square
any_member w p = any-filter (λ k. contains w k) p squares

-- some square of w passes the test p if the set x isn't empty: it has the squares of w that are in v, and v has just
-- the squares that pass
pub some_met : (w v x : ℕ) (p : ℕ → Bool) (empty : Bool) → ((k : ℕ) → contains x k ≡ (contains w k && contains v k))
    → ((k : ℕ) → k < 64 → contains v k ≡ p k) → empty ≡ not (some_square (λ k. contains x k))
    → not empty ≡ list_any p (members w)
some_met w v x p empty both passing is =
    ap not is ∙ not-not (some_square (λ k. contains x k))
    ∙ some_square_same (λ k. contains x k) (λ k. contains w k && p k)
    (λ k low. both k ∙ ap (λ b. contains w k && b) (passing k low))
    ∙ sym (any_member w p)

-- a set with some square has a list of members that isn't empty
some_member : (w : ℕ) → some_square (λ k. contains w k) ≡ true → list_any (λ s. true) (members w) ≡ true
some_member w some = any_member w (λ s. true)
    ∙ some_square_same (λ k. contains w k && true) (λ k. contains w k) (λ k low. and-true (contains w k)) ∙ some

-- without other starts nothing is written of the start
pub alone : (from w : ℕ) → w ≡ 0 → distinction false false ≡ disambiguate from (members w)
alone from w none = ap (disambiguate from) (sym (members_none w none))

-- if there are other starts (w isn't empty), the file is written if none is on it, otherwise the rank if none is on it,
-- otherwise both
pub beside_others : (from w : ℕ) (empty : Bool) → empty ≡ not (some_square (λ k. contains w k)) → empty ≡ false
    → (if not (some_on_file (file from) (members w)) then distinction true false
    else (if not (some_on_rank (rank from) (members w)) then distinction false true else distinction true true))
    ≡ disambiguate from (members w)
beside_others from w empty is off = by_others from (members w) (some_member w (occupied empty (some_square (λ k. contains w k)) is off))
  where
    occupied : (empty some : Bool) → empty ≡ not some → empty ≡ false → some ≡ true
    occupied empty true is off = refl
    occupied empty false is off = cc

    by_others : (from : ℕ) (xs : List ℕ) → list_any (λ s. true) xs ≡ true
        → (if not (some_on_file (file from) xs) then distinction true false
        else (if not (some_on_rank (rank from) xs) then distinction false true else distinction true true)) ≡ disambiguate from xs
    by_others from [] h = absurd cc
    by_others from (x ∷ xs) h = refl

-- if there are other starts and none on the move's file, the file alone is written
pub file_written : (from f w : ℕ) (empty on : Bool) → empty ≡ not (some_square (λ k. contains w k)) → empty ≡ false
    → f ≡ file from → on ≡ some_on_file f (members w) → on ≡ false → distinction true false ≡ disambiguate from (members w)
file_written from f w empty on is full at found off =
    let none : some_on_file (file from) (members w) ≡ false = ap (λ n. some_on_file n (members w)) (sym at) ∙ sym found
    ∙ off in
    sym (ap (λ b. if not b then distinction true false
    else (if not (some_on_rank (rank from) (members w)) then distinction false true else distinction true true))
    none)
    ∙ beside_others from w empty is full
