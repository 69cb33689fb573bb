-- Where parts can mean only one kind of piece (`one_kind`), the short test `is_denoted_of` answers the same as the full
-- test `is_denoted` for each legal move of such a piece to their end square without a promotion (denoted_of): by cases,
-- parts with a letter and parts of a pawn's move.
use mathlib.Core.Bool.{and-false}
use Rattle.std.proofs.Common.{◌≡◌, ℕ, ◌<◌, true, false, not, ◌&&◌, cond, Option, Some, None, is_none, refl, sym, ap, ◌∙◌, arith, is_some}
use Rattle.std.proofs.{lemmas.Bool.Decides.nat_tests, lemmas.Bool.and_parts, lemmas.Bool.eq-eqb, lemmas.Bool.false_from_ne_true}
use Rattle.chess_base.specs.{declared.man.CastlingSide.CastlingSide, declared.man.Colour.Colour, declared.man.Kind.Kind, declared.man.Man.Man, declared.man.Move.Move, declared.setup.Setup.Setup, Moves.is_legal, Castling.castling}
use Rattle.chess_base.specs.declared.man.Kind.TheVariants.{King, Queen, Rook, Bishop, Knight, Pawn}
use Rattle.chess_base.specs.Men.{man_at, is_man, same_colour, same_kind}
use Rattle.chess_base.proofs.shared.Men.{same_kind-true, same_kind-self}
use Rattle.chess_text.specs.{declared.described.Described.Described, declared.form.Form.TheVariants.Piece, declared.parts.Parts.Parts, declared.parts.Promotion.Promotion, laws.Laws.HasLetter}
use Rattle.chess_text.specs.shared.Fitting.{is_by_squares, is_by_letter, is_straight, is_by_file, parts_fit}
use Rattle.chess_text.specs.ties.Forms.{is_denoted, is_denoted_by_letter, is_denoted_by_pawn, is_denoted_of, kind_by, named_square, one_kind}
use Rattle.chess_text.proofs.Legal.{castling_says, legal_move, IsMove, described_as, described_is}
use Rattle.chess_text.proofs.Origins.{named_is}

-- ---- the piece

-- a piece x that passes the test for kind k is of this kind
kind_there : (c : Colour) (k : Kind) (o : Option Man) (x : Man) → o ≡ Some x → is_man c k o ≡ true → k ≡ x.kind
unfolding is_man
kind_there c k None x at e = absurd cc
kind_there c k (Some y) x at e =
    let same : y ≡ x = cc in
    same_kind-true k y.kind (and_parts (same_colour c y.colour) (same_kind k y.kind) e).1
    ∙ ap (λ (z : Man). z.kind) same

-- ---- castling

nobody : (c : Colour) (j : Kind) → is_man c j None ≡ true → ⊥
unfolding is_man
nobody c j a = cc

-- a square that passes the test for two kinds shows that they are one kind
both_men : (c : Colour) (j k : Kind) (o : Option Man) → is_man c j o ≡ true → is_man c k o ≡ true → j ≡ k
both_men c j k None a b = absurd (nobody c j a)
both_men c j k (Some x) a b = kind_there c j (Some x) x refl a ∙ sym (kind_there c k (Some x) x refl b)

-- a move of a piece of kind k castles only if k is the king, so only king moves need be tested for castling
uncastled : (p : Setup) (m : Move) (k : Kind) (o : Option CastlingSide) → castling p m ≡ o
    → is_man p.side k (man_at p.men m.from) ≡ true → is_none o ≡ not (same_kind King k && is_some o)
uncastled p m k None e at = sym (ap not (and-false (same_kind King k)))
uncastled p m k (Some w) e at =
    let king : King ≡ k = both_men p.side King k (man_at p.men m.from) (castling_says p m w e).0 at in
    ap (λ j. not (same_kind King j && true)) king

-- ---- a pawn

-- parts that don't name the whole start square don't fit a move by its two squares
by_squares_not : (q : Parts) (d : Described) → d.from < 64 → named_square q.file q.rank ≡ None
    → is_by_squares q d ≡ false
unfolding is_by_squares
by_squares_not q d low none = false_from_ne_true (is_by_squares q d) (λ h.
    let there = named_is q.file q.rank d.from low (grind (arith, nat_tests, h)) (grind (arith, nat_tests, h)) in cc)

-- ---- as the parts are

-- parts denote a legal move exactly if they fit its description
pub denoted_as : (p : Setup) (m : Move) (h : IsMove p m) (q : Parts) → is_denoted (Piece q) p m
    ≡ parts_fit q (described_as p m h.man)
unfolding is_denoted
denoted_as p m h q = rw (described_is p m h) refl

-- for parts with a letter, the full test `parts_fit` of a move of that kind of piece agrees with the short one
of_letter : (q : Parts) (p : Setup) (k : Kind) (m : Move) → q.letter ≡ Some k → q.end.promotion ≡ None
    → m.to ≡ q.end.to → m.promotion ≡ None → is_man p.side k (man_at p.men m.from) ≡ true
    → parts_fit q (described_as p m k) ≡ is_denoted_by_letter q p k m
unfolding parts_fit is_by_squares is_by_letter is_straight is_by_file
of_letter q p k m letter plain to none man =
    let walks = uncastled p m k (castling p m) refl man in
    rw (letter, plain, none, to, same_kind-self k, eq-eqb q.end.to q.end.to refl)
    (grind (arith, walks))

-- for parts without a letter that don't name a whole start square, the full test of a pawn's move agrees with the short
-- one
of_pawn : (q : Parts) (p : Setup) (m : Move) → q.letter ≡ None → q.end.promotion ≡ None
    → named_square q.file q.rank ≡ None → m.from < 64
    → m.to ≡ q.end.to → m.promotion ≡ None → parts_fit q (described_as p m Pawn) ≡ is_denoted_by_pawn q p m
unfolding parts_fit is_by_letter is_straight is_by_file
of_pawn q p m letter plain square low to none =
    let apart = by_squares_not q (described_as p m Pawn) low square in
    rw (apart, letter, plain, none, to, eq-eqb q.end.to q.end.to refl) (grind (arith, nat_tests))

-- a letter names its own kind, no pawn's
pub kind_lettered : (x : Kind) (square : Option ℕ) (k : Kind) → kind_by (Some x) square ≡ Some k
    → (x ≡ k) × HasLetter x
kind_lettered King square k e = (cc, tt)
kind_lettered Queen square k e = (cc, tt)
kind_lettered Rook square k e = (cc, tt)
kind_lettered Bishop square k e = (cc, tt)
kind_lettered Knight square k e = (cc, tt)
kind_lettered Pawn square k e = absurd cc

-- the full test agrees with the short one, by the cases of `one_kind`: the letter's kind, or without a letter a pawn
by_kind : (q : Parts) (p : Setup) (k : Kind) (m : Move) (letter : Option Kind) (square : Option ℕ)
    (promotion : Option Promotion) → q.letter ≡ letter → named_square q.file q.rank ≡ square
    → q.end.promotion ≡ promotion → cond (is_some promotion) None (kind_by letter square) ≡ Some k
    → m.from < 64 → m.to ≡ q.end.to → m.promotion ≡ None → is_man p.side k (man_at p.men m.from) ≡ true
    → parts_fit q (described_as p m k)
    ≡ cond (is_some letter) (is_denoted_by_letter q p k m) (is_denoted_by_pawn q p m)
by_kind q p k m letter square (Some x) l s n e low to none man = absurd cc
by_kind q p k m None (Some x) None l s n e low to none man = absurd cc
by_kind q p k m None None None l s n e low to none man =
    let pawn : k ≡ Pawn = cc in
    ap (λ j. parts_fit q (described_as p m j)) pawn ∙ of_pawn q p m l n s low to none
by_kind q p k m (Some x) square None l s n e low to none man =
    of_letter q p k m (l ∙ ap Some (kind_lettered x square k e).0) n to none man

pub denoted_of : (q : Parts) (p : Setup) (k : Kind) (m : Move) → one_kind q ≡ Some k → is_legal p m ≡ true
    → m.to ≡ q.end.to → m.promotion ≡ None → is_man p.side k (man_at p.men m.from) ≡ true
    → is_denoted (Piece q) p m ≡ is_denoted_of q p k m
denoted_of q p k m e legal to none man =
    let h = legal_move p m legal in
    denoted_as p m h q
    ∙ ap (λ j. parts_fit q (described_as p m j)) (sym (kind_there p.side k (man_at p.men m.from)
    (record { colour = p.side; kind = h.man }) h.at_from man))
    ∙ by_kind q p k m q.letter (named_square q.file q.rank) q.end.promotion refl refl refl e h.from_in to none man
