-- For each form of text, a set of squares that has the start of each legal move that the text denotes (`IsStart`): for
-- parts with a letter, with a whole start square, of a pawn, and for castling. The moves from such a set's squares are
-- all that the text denotes (denoted_from). Last, steps of the loops that read square by square: one_found, more_found,
-- last_found.
use Rattle.std.proofs.Common.{◌≡◌, ℕ, ◌+◌, ◌*◌, ◌/◌, ◌%◌, ◌<◌, true, false, ◌&&◌, ◌==◌, nat_lt, Option, Some, None, List, [], ◌∷◌, ◌++◌, refl, sym, ap, ◌∙◌, arith, filter, flat_map}
use Rattle.std.proofs.lemmas.Bool.Decides.{nat_tests}
use Rattle.std.proofs.lemmas.Bool.{and_parts, false_from_ne_true, eq-eqb, eqb-true}
use Rattle.chess_base.specs.{declared.man.CastlingSide.CastlingSide, declared.man.Kind.Kind, declared.man.Kind.TheVariants.King, declared.man.Kind.TheVariants.Pawn, declared.man.Colour.Colour, declared.man.Colour.TheVariants.White, declared.man.Colour.TheVariants.Black, declared.man.Man.Man, declared.man.Move.Move, declared.setup.Setup.Setup, Squares.file, Squares.rank, Moves.is_legal, MoveList.promotions, MoveList.move_of, MoveList.moves}
use Rattle.chess_base.specs.Men.{man_at, is_man, same_kind, same_colour}
use Rattle.chess_moves.specs.Sets.{contains, members, HasOrigins}
use Rattle.chess_moves.proofs.shared.Members.{flat_map_members}
use Rattle.chess_text.specs.{declared.described.Described.Described, declared.form.Form.Form, declared.form.Form.TheVariants.Castling, declared.form.Form.TheVariants.Piece, declared.parts.Parts.Parts, declared.reading.Reading.Reading, Moves.one_of, Moves.described}
use Rattle.chess_text.specs.declared.reading.Reading.TheVariants as reads
use Rattle.chess_text.specs.shared.Fitting.{passes, names, admits, is_by_squares, is_by_letter, is_straight, is_by_file, parts_fit}
use Rattle.chess_text.specs.ties.Forms.{same_side, form_fits, is_denoted, end_square, denoted_with, with_move, with_moves, named_square, IsStart}
use Rattle.chess_text.proofs.Denotations.{FitsBy, FitSquares, FitLetter, FitStraight, FitFile, form_of_fit, passing}
use Rattle.chess_text.proofs.{AllMoves.none-kept, DenotedMoves.denoted_ends, DenotedMoves.all_denoted}
use Rattle.chess_text.proofs.Legal.{described_by, castling_says, legal_move, IsMove, described_as, described_is}

-- the piece of a legal move, as a test
pub man_is : (p : Setup) (m : Move) (h : IsMove p m) (k : Kind) → same_kind k h.man ≡ true
    → is_man p.side k (man_at p.men m.from) ≡ true
unfolding is_man
man_is p m h k e = rw h.at_from (by_colour p.side e)
  where
    by_colour : (c : Colour) → same_kind k h.man ≡ true → (same_colour c c && same_kind k h.man) ≡ true
    by_colour White e = e
    by_colour Black e = e

-- parts that denote a legal move fit its description
pub fits_told : (p : Setup) (q : Parts) (m : Move) (h : IsMove p m) → is_denoted (Piece q) p m ≡ true
    → parts_fit q (described_as p m h.man) ≡ true
unfolding is_denoted
fits_told p q m h e = rw (described_is p m h) at e

-- ---- by the form

-- a square by its file and rank
square_by : (s : ℕ) → 8 * (s / 8) + s % 8 ≡ s
square_by s = omega arith

-- a file and a rank that are those of square s name s
pub named_is : (f r : Option ℕ) (s : ℕ) → s < 64 → names f (file s) ≡ true → names r (rank s) ≡ true
    → named_square f r ≡ Some s
named_is None r s h e g = cc
named_is (Some f) None s h e g = cc
named_is (Some f) (Some r) s h e g =
    let f' : f ≡ s % 8 = eqb-true f (s % 8) e in
    let r' : r ≡ s / 8 = eqb-true r (s / 8) g in
    let low : nat_lt f 8 ≡ true = grind (arith, nat_tests, f') in
    let low' : nat_lt r 8 ≡ true = grind (arith, nat_tests, r', h) in
    rw (low, low') (ap Some (rw (f', r') (square_by s)))

-- parts with the letter of k fit only moves of pieces of kind k
pub letter_fits : (q : Parts) (d : Described) (k : Kind) → q.letter ≡ Some k → parts_fit q d ≡ true → same_kind k d.man ≡ true
unfolding parts_fit is_by_squares is_by_letter is_straight is_by_file
letter_fits q d k at h = grind (arith, nat_tests, at, h)

-- how parts without a letter fit a move: by its whole start square, as a pawn's from its file, or as a pawn's by the
-- end square alone
data NoLetter (q : Parts) (d : Described) : Type 0 where
  BySquares : names q.file (file d.from) ≡ true → names q.rank (rank d.from) ≡ true → NoLetter q d
  ByFile : names q.file (file d.from) ≡ true → admits q.rank (rank d.from) ≡ true → same_kind Pawn d.man ≡ true
      → NoLetter q d
  Straight : q.file ≡ None → same_kind Pawn d.man ≡ true → NoLetter q d

-- parts without a letter that fit a move do so in one of the three ways of `NoLetter`
no_letter : (q : Parts) (d : Described) → q.letter ≡ None → parts_fit q d ≡ true → NoLetter q d
unfolding is_by_squares is_by_letter is_straight is_by_file
no_letter q d at h = by_form (form_of_fit q d h)
  where
    by_form : FitsBy q d → NoLetter q d
    by_form (FitSquares e) = BySquares (grind (arith, nat_tests, e)) (grind (arith, nat_tests, e))
    by_form (FitLetter e) = absurd (grind (arith, nat_tests, at, e))
    by_form (FitStraight e) = Straight (grind (arith, nat_tests, e)) (grind (arith, nat_tests, e))
    by_form (FitFile e) =
        ByFile (grind (arith, nat_tests, e)) (grind (arith, nat_tests, e)) (grind (arith, nat_tests, e))

-- ---- the sets

-- for parts with a letter, the squares of such pieces that can reach the end square (`HasOrigins`) have the start of
-- each denoted move
pub by_letter : (p : Setup) (q : Parts) (k : Kind) (w : ℕ) → q.letter ≡ Some k → HasOrigins p k q.end.to w
    → IsStart p (Piece q) w
by_letter p q k w at origins = λ m denoted legal.
    let h = legal_move p m legal in
    origins m legal (man_is p m h k (letter_fits q (described_as p m h.man) k at (fits_told p q m h denoted)))
    (denoted_ends (Piece q) p m denoted)

-- file and rank name one square at most
some_is : (f r : Option ℕ) (s t : ℕ) → named_square f r ≡ Some s → named_square f r ≡ Some t → s ≡ t
some_is f r s t e g = cc

-- where a rank is named, a rank that it admits is the named one
rank_named : (f r : Option ℕ) (s n : ℕ) → named_square f r ≡ Some s → admits r n ≡ true → names r n ≡ true
rank_named None r s n e h = cc
rank_named (Some f) None s n e h = cc
rank_named (Some f) (Some r) s n e h = h

-- where a square is named, its file is too
file_there : (f r : Option ℕ) (s : ℕ) → named_square f r ≡ Some s → f ≡ None → (A : Type 0) → A
file_there None r s e n A = absurd cc
file_there (Some f) r s e n A = absurd cc

-- without a letter and with a square in full, each move begins there
pub begins_there : (p : Setup) (q : Parts) (s : ℕ) (m : Move) → q.letter ≡ None → named_square q.file q.rank ≡ Some s
    → is_denoted (Piece q) p m ≡ true → is_legal p m ≡ true → m.from ≡ s
begins_there p q s m at square denoted legal =
    let h = legal_move p m legal in
    from_square m.from h.from_in (described_as p m h.man) refl
    (no_letter q (described_as p m h.man) at (fits_told p q m h denoted))
  where
    from_square : (a : ℕ) → a < 64 → (d : Described) → d.from ≡ a → NoLetter q d → a ≡ s
    from_square a low d e (BySquares f r) =
        some_is q.file q.rank a s (named_is q.file q.rank a low (rw e at f) (rw e at r)) square
    from_square a low d e (ByFile f r k) =
        some_is q.file q.rank a s
        (named_is q.file q.rank a low (rw e at f) (rank_named q.file q.rank s (rank a) square (rw e at r))) square
    from_square a low d e (Straight n k) = file_there q.file q.rank s square n (a ≡ s)

-- for parts without a letter that name a whole start square s, the set of s alone has the start of each denoted move
pub by_squares : (p : Setup) (q : Parts) (s w : ℕ) → q.letter ≡ None → named_square q.file q.rank ≡ Some s
    → ((k : ℕ) → contains w k ≡ (k == s)) → IsStart p (Piece q) w
by_squares p q s w at square single = λ m denoted legal.
    single m.from ∙ eq-eqb m.from s (begins_there p q s m at square denoted legal)

-- with no letter and no square in full it is a pawn
pub pawn_named : (q : Parts) (d : Described) → d.from < 64 → q.letter ≡ None → named_square q.file q.rank ≡ None
    → parts_fit q d ≡ true → same_kind Pawn d.man ≡ true
pawn_named q d low at square told = by_form (no_letter q d at told)
  where
    by_form : NoLetter q d → same_kind Pawn d.man ≡ true
    by_form (BySquares f r) = let there = named_is q.file q.rank d.from low f r in absurd cc
    by_form (ByFile f r k) = k
    by_form (Straight n k) = k

-- for parts without a letter and without a whole start square, the squares of pawns that can reach the end square
-- (`HasOrigins`) have the start of each denoted move
pub by_pawn : (p : Setup) (q : Parts) (w : ℕ) → q.letter ≡ None → named_square q.file q.rank ≡ None
    → HasOrigins p Pawn q.end.to w → IsStart p (Piece q) w
by_pawn p q w at square origins = λ m denoted legal.
    let h = legal_move p m legal in
    origins m legal (man_is p m h Pawn
    (pawn_named q (described_as p m h.man) h.from_in at square (fits_told p q m h denoted)))
    (denoted_ends (Piece q) p m denoted)

-- a move that castles to side v is the king's, by what is on its start square (o)
king_by : (v : CastlingSide) (p : Setup) (m : Move) (o : Option Man)
    → passes (form_fits (Castling v)) (described_by p m o) ≡ true → is_man p.side King (man_at p.men m.from) ≡ true
king_by v p m None h = cc
king_by v p m (Some x) h = let c = passing (same_side v) _ h in (castling_says p m c.0 c.1).0

king_denoted : (v : CastlingSide) (p : Setup) (m : Move) → is_denoted (Castling v) p m ≡ true
    → is_man p.side King (man_at p.men m.from) ≡ true
unfolding is_denoted described
king_denoted v p m h = king_by v p m (man_at p.men m.from) h

-- for castling, the squares of kings that can reach the end square have the start of each denoted move
pub by_castling : (p : Setup) (v : CastlingSide) (to w : ℕ) → to ≡ end_square (Castling v) p → HasOrigins p King to w
    → IsStart p (Castling v) w
by_castling p v to w there origins = λ m denoted legal. origins m legal (king_denoted v p m denoted)
    (denoted_ends (Castling v) p m denoted ∙ sym there)

-- ---- the list over a set

-- the denoted moves from the squares of w are all denoted legal moves: from another square there is none
pub denoted_from : (form : Form) (p : Setup) (w : ℕ) → IsStart p form w
    → flat_map (λ a. denoted_with form p a (end_square form p) promotions) (members w)
    ≡ filter (λ m. is_denoted form p m)
    (moves p)
denoted_from form p w start = flat_map_members _ w (λ k low out. none_there k out) ∙ all_denoted form p
  where
    none_there : (k : ℕ) → contains w k ≡ false → denoted_with form p k (end_square form p) promotions ≡ []
    none_there k out =
        none-kept (λ m. is_denoted form p m && is_legal p m) k (end_square form p)
        (λ x. false_from_ne_true
        (is_denoted form p (move_of k (end_square form p) x) && is_legal p (move_of k (end_square form p) x))
        (λ e. let both = and_parts (is_denoted form p (move_of k (end_square form p) x))
        (is_legal p (move_of k (end_square form p) x)) e in
        let there : contains w k ≡ true = start (move_of k (end_square form p) x) both.0 both.1 in
        cc))

-- ---- what a text is that denotes some moves

-- reading the moves of two lists joined is reading the second from what the first gave
with_both : (found : Reading) (xs ys : List Move) → with_moves found (xs ++ ys) ≡ with_moves (with_moves found xs) ys
with_both found [] ys = refl
with_both found (x ∷ xs) ys = with_both (with_move found x) xs ys

-- after two moves the reading stays `Ambiguous`
stays_ambiguous : (ms : List Move) → with_moves reads.Ambiguous ms ≡ reads.Ambiguous
stays_ambiguous [] = refl
stays_ambiguous (m ∷ ms) = stays_ambiguous ms

-- reading a list of moves from `NoSuch` on gives what `one_of` says of the list
pub one_found : (ms : List Move) → with_moves reads.NoSuch ms ≡ one_of ms
one_found [] = refl
one_found (m ∷ []) = refl
one_found (m ∷ n ∷ ms) = stays_ambiguous ms

-- a step of the loop: the squares left are s and ns, `next` is the reading after the moves from s; so `next` and the
-- moves from ns still give the whole reading
pub more_found : (f : ℕ → List Move) (found next whole : Reading) (s : ℕ) (ms ns : List ℕ) → ms ≡ s ∷ ns
    → with_moves found (flat_map f ms) ≡ whole → next ≡ with_moves found (f s) → with_moves next (flat_map f ns) ≡ whole
more_found f found next whole s ms ns e h n = rw n (sym (with_both found (f s) (flat_map f ns)) ∙ (rw e at h))

-- the loop's end: no square is left, so what was found is the whole reading
pub last_found : (f : ℕ → List Move) (found whole : Reading) (ms : List ℕ) → ms ≡ []
    → with_moves found (flat_map f ms) ≡ whole → found ≡ whole
last_found f found whole ms e h = rw e at h
