-- Where parts can mean moves of only one kind of piece, without a promotion, the moves that they denote are those that
-- the short test `is_denoted_of` picks of the legal moves of such pieces to the end square, one from each of their
-- starts (by_starts). For a move that they denote is of this kind and without a promotion (of_kind), so of the moves
-- from a start only one may be denoted.
use Rattle.std.proofs.Common.{◌≡◌, ℕ, zero, suc, ◌+◌, ◌<◌, inl, inr, Bool, true, false, ◌&&◌, cond, Option, Some, None, List, [], ◌∷◌, refl, sym, ap, subst, ◌∙◌, arith, is_some}
use Rattle.std.specs.List.{filter, flat_map, range_with_len}
use Rattle.std.proofs.lemmas.Bool.Decides.{nat_tests}
use Rattle.std.proofs.lemmas.Bool.{cases_Bool, and_parts, and_from, false_from_ne_true}
use Rattle.chess_base.specs.{declared.man.Kind.Kind, declared.man.Move.Move, declared.setup.Setup.Setup, Men.man_at, Men.is_man, Men.same_kind, Moves.is_legal, MoveList.promotions, MoveList.move_of, MoveList.moves}
use Rattle.chess_base.specs.declared.man.Kind.TheVariants.{Queen, Rook, Bishop, Knight, Pawn}
use Rattle.chess_moves.specs.Sets.{contains, members, HasLegalStarts}
use Rattle.chess_moves.proofs.shared.Members.{of_range}
use Rattle.chess_text.specs.{declared.described.Described.Described, declared.form.Form.TheVariants.Piece, declared.parts.Parts.Parts, declared.parts.Promotion.Promotion, declared.reading.Reading.Reading, Moves.one_of, laws.Laws.HasLetter}
use Rattle.chess_text.specs.shared.Fitting.{promotes_so, is_by_squares, is_by_letter, is_straight, is_by_file, parts_fit}
use Rattle.chess_text.specs.ties.Forms.{is_denoted, denoted_with, named_square, kind_by, one_kind, is_denoted_of, denoted_start, IsStart}
use Rattle.chess_text.proofs.Legal.{legal_move, unpromoted, MovesAs, described_as}
use Rattle.chess_base.proofs.shared.Men.{same_kind-true}
use Rattle.chess_text.proofs.Origins.{man_is, fits_told, letter_fits, pawn_named, denoted_from}
use Rattle.chess_text.proofs.{DenotedMoves.denoted_ends, DenotedStart.denoted_of, DenotedStart.kind_lettered}

-- ---- no promotion

-- parts without a promotion agree with a move only if it has none
pub none_told : (o : Option Kind) → promotes_so None o ≡ true → o ≡ None
none_told None e = refl
none_told (Some k) e = absurd cc

-- parts without a letter that fit a move name its promotion, or none if it has none
pub promotes_as : (q : Parts) (d : Described) → q.letter ≡ None → parts_fit q d ≡ true
    → promotes_so q.end.promotion d.promotion ≡ true
unfolding parts_fit is_by_squares is_by_letter is_straight is_by_file
promotes_as q d at h = grind (arith, nat_tests, at, h)

-- ---- one kind

-- m is a move of a piece of kind k, without a promotion
abbrev OfKind : Setup → Kind → Move → Type 0
OfKind p k m = (is_man p.side k (man_at p.men m.from) ≡ true) × (m.promotion ≡ None)

-- a legal move that parts with the letter of kind k denote is of a piece of kind k, without a promotion
lettered : (p : Setup) (q : Parts) (k : Kind) (m : Move) → q.letter ≡ Some k → HasLetter k
    → is_denoted (Piece q) p m ≡ true → is_legal p m ≡ true → OfKind p k m
lettered p q k m at has denoted legal =
    let h = legal_move p m legal in
    let same : same_kind k h.man ≡ true = letter_fits q (described_as p m h.man) k at (fits_told p q m h denoted) in
    let moves_so : MovesAs p m k = subst (MovesAs p m) (sym (same_kind-true k h.man same)) h.moves_as in
    (man_is p m h k same, unpromoted p m k has moves_so)

-- a legal move that parts without a letter, whole start square or promotion denote is a pawn's, without a promotion
of_pawn : (p : Setup) (q : Parts) (m : Move) → q.letter ≡ None → named_square q.file q.rank ≡ None
    → q.end.promotion ≡ None → is_denoted (Piece q) p m ≡ true → is_legal p m ≡ true → OfKind p Pawn m
of_pawn p q m at square plain denoted legal =
    let h = legal_move p m legal in
    let told : parts_fit q (described_as p m h.man) ≡ true = fits_told p q m h denoted in (
      man_is p m h Pawn (pawn_named q (described_as p m h.man) h.from_in at square told),
      none_told m.promotion (rw plain at (promotes_as q (described_as p m h.man) at told)),
    )

-- a legal move that parts denote is of the one kind of piece that they can mean, by the cases of `one_kind`
by_kind : (p : Setup) (q : Parts) (letter : Option Kind) (square : Option ℕ) (promotion : Option Promotion) (k : Kind)
    → q.letter ≡ letter → named_square q.file q.rank ≡ square → q.end.promotion ≡ promotion
    → cond (is_some promotion) None (kind_by letter square) ≡ Some k
    → (m : Move) → is_denoted (Piece q) p m ≡ true → is_legal p m ≡ true → OfKind p k m
by_kind p q letter square (Some x) k l s n e m denoted legal = absurd cc
by_kind p q None (Some s') None k l s n e m denoted legal = absurd cc
by_kind p q None None None k l s n e m denoted legal =
    let pawn : Pawn ≡ k = cc in subst (λ k. OfKind p k m) pawn (of_pawn p q m l s n denoted legal)
by_kind p q (Some x) square None k l s n e m denoted legal =
    let is = kind_lettered x square k e in
    subst (λ k. OfKind p k m) is.0 (lettered p q x m l is.1 denoted legal)

-- where parts can mean only pieces of kind k, each legal move that they denote is of such a piece, without a promotion
pub of_kind : (p : Setup) (q : Parts) (k : Kind) → one_kind q ≡ Some k
    → (m : Move) → is_denoted (Piece q) p m ≡ true → is_legal p m ≡ true → OfKind p k m
of_kind p q k e = by_kind p q q.letter (named_square q.file q.rank) q.end.promotion k refl refl refl e

-- ---- each such move begins on a square of the set

-- a move to b without a promotion is `move_of` its start and b
same_move : (m : Move) (b : ℕ) → m.to ≡ b → m.promotion ≡ None → m ≡ move_of m.from b None
same_move m b t n = rw (sym t, sym n) refl

-- the set w, of all squares with a legal move of such a piece to the end square, has the start of each legal move that
-- the parts denote
starts : (p : Setup) (q : Parts) (k : Kind) (w : ℕ) → one_kind q ≡ Some k → HasLegalStarts p k q.end.to w
    → IsStart p (Piece q) w
starts p q k w e legal_starts = λ m denoted legal.
    let of = of_kind p q k e m denoted legal in
    let is : m ≡ move_of m.from q.end.to None = same_move m q.end.to (denoted_ends (Piece q) p m denoted) of.1 in
    legal_starts m.from (legal_move p m legal).from_in
    ∙ and_from (is_man p.side k (man_at p.men m.from)) (is_legal p (move_of m.from q.end.to None)) of.0
    (sym (ap (is_legal p) is) ∙ legal)

-- ---- one move from each of them

-- of the five moves from a to b (no promotion, or one of four) that without a promotion is the only one kept, and only
-- if s
pub one_kept : (t : Move → Bool) (a b : ℕ) (s : Bool) → t (move_of a b None) ≡ s → t (move_of a b (Some Queen)) ≡ false
    → t (move_of a b (Some Rook)) ≡ false → t (move_of a b (Some Bishop)) ≡ false → t (move_of a b (Some Knight)) ≡ false
    → filter t (move_of a b None ∷ move_of a b (Some Queen) ∷ move_of a b (Some Rook) ∷ move_of a b (Some Bishop)
    ∷ move_of a b (Some Knight) ∷ []) ≡ cond s (move_of a b None ∷ []) []
one_kept t a b true n x y z u = rw (n, x, y, z, u) refl
one_kept t a b false n x y z u = rw (n, x, y, z, u) refl

-- m is legal, and the parts denote it
abbrev fit : Parts → Setup → Move → Bool
fit q p m = is_denoted (Piece q) p m && is_legal p m

-- where parts can mean only one kind of piece, a move with a promotion isn't both legal and denoted
no_other : (p : Setup) (q : Parts) (k : Kind) (a : ℕ) (x : Kind) → one_kind q ≡ Some k
    → fit q p (move_of a q.end.to (Some x)) ≡ false
no_other p q k a x e = false_from_ne_true (fit q p (move_of a q.end.to (Some x))) (λ h.
    let both = and_parts (is_denoted (Piece q) p (move_of a q.end.to (Some x)))
    (is_legal p (move_of a q.end.to (Some x))) h in
    let none : Some x ≡ None = (of_kind p q k e (move_of a q.end.to (Some x)) both.0 both.1).1 in
    cc)

legal_one : (s l : Bool) → l ≡ true → (s && l) ≡ s
legal_one true l e = e
legal_one false l e = refl

-- from a square of the set w at most one legal move is denoted, that to the end square without a promotion, if the
-- short test `is_denoted_of` says so
one_start : (p : Setup) (q : Parts) (k : Kind) (w a : ℕ) → one_kind q ≡ Some k → HasLegalStarts p k q.end.to w
    → a < 64 → contains w a ≡ true → denoted_with (Piece q) p a q.end.to promotions ≡ denoted_start q p k a
one_start p q k w a e legal_starts low there =
    let both = and_parts (is_man p.side k (man_at p.men a)) (is_legal p (move_of a q.end.to None))
    (sym (legal_starts a low) ∙ there) in
    one_kept (fit q p) a q.end.to (is_denoted_of q p k (move_of a q.end.to None))
    (legal_one (is_denoted (Piece q) p (move_of a q.end.to None)) (is_legal p (move_of a q.end.to None)) both.1
    ∙ denoted_of q p k (move_of a q.end.to None) e both.1 refl refl both.0)
    (no_other p q k a Queen e) (no_other p q k a Rook e) (no_other p q k a Bishop e) (no_other p q k a Knight e)

-- lists made by f and by g are the same if f and g agree on the numbers that the test t keeps
flat_map-kept : {B : Type 0} (f g : ℕ → List B) (t : ℕ → Bool) (n a : ℕ)
    → ((k : ℕ) → k < a + n → t k ≡ true → f k ≡ g k)
    → flat_map f (filter t (range_with_len a n)) ≡ flat_map g (filter t (range_with_len a n))
flat_map-kept f g t zero a h = refl
flat_map-kept f g t (suc n) a h =
    let rest : flat_map f (filter t (range_with_len (a + 1) n)) ≡ flat_map g (filter t (range_with_len (a + 1) n)) =
    flat_map-kept f g t n (a + 1) (λ k l e. h k (omega arith) e) in
    elim (cases_Bool (t a)) [
      | inl on ↦ rw (on, rest, h a (omega arith) on) refl
      | inr off ↦ rw off rest
    ]

flat_map-members : {B : Type 0} (f g : ℕ → List B) (w : ℕ) → ((k : ℕ) → k < 64 → contains w k ≡ true → f k ≡ g k)
    → flat_map f (members w) ≡ flat_map g (members w)
flat_map-members f g w h = rw (of_range w) (flat_map-kept f g (λ k. contains w k) 64 0 (λ k l e. h k (omega arith) e))

-- ---- the reading

-- a reading r that is made of the short test's moves from the squares of w is the reading from all denoted legal moves
pub by_starts : (p : Setup) (q : Parts) (k : Kind) (w : ℕ) (r : Reading) → one_kind q ≡ Some k
    → HasLegalStarts p k q.end.to w → r ≡ one_of (flat_map (denoted_start q p k) (members w))
    → r ≡ one_of (filter (λ m. is_denoted (Piece q) p m) (moves p))
by_starts p q k w r e legal_starts is =
    is ∙ ap one_of (sym (flat_map-members (λ a. denoted_with (Piece q) p a q.end.to promotions) (denoted_start q p k) w
    (λ a low there. one_start p q k w a e legal_starts low there))
    ∙ denoted_from (Piece q) p w (starts p q k w e legal_starts))
