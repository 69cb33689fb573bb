-- The SAN of a legal move of a sound position denotes it alone (san_alone) and has a move's shape (san_shape), so it is
-- read as it (san_read); it is two to seven bytes of SAN, the first a letter (san_short, san_bytes, san_letter). For
-- castling by its side (castling_law, for any text of castling); for pawns and other pieces the parts of the text are
-- shown to fit this move and no other legal one.
use Rattle.std.proofs.Common.{◌≡◌, ℕ, ◌<◌, ◌≤◌, Bool, true, false, ◌&&◌, List, ◌++◌, length, Option, Some, None, refl, sym, ap, subst, ◌∙◌, arith, ◌==◌, IfSome, IsTrue}
use Rattle.std.specs.{Option.option_map, Option.option_map_or, List.list_any, List.list_all, List.filter}
use Rattle.std.proofs.lemmas.Bool.Decides.{nat_tests}
use Rattle.std.proofs.lemmas.Bool.{and_from, eqb-true, eq-eqb, both_ways}
use Rattle.chess_base.specs.{declared.man.CastlingSide.CastlingSide, declared.man.CastlingSide.TheVariants.KingSide, declared.man.CastlingSide.TheVariants.QueenSide, declared.man.Kind.Kind, declared.man.Man.Man, declared.man.Move.Move, declared.setup.Setup.Setup, shared.Parts.is_rank_ahead, shared.Parts.optional, Men.man_at, Men.same_kind, Moves.is_legal, Moves.after, Moves.pawn_moves, Castling.castling, Castling.right_of, MoveList.moves, Sound.IsSound, Squares.file, Squares.rank}
use Rattle.chess_base.specs.declared.man.Kind.TheVariants.{King, Queen, Rook, Bishop, Knight, Pawn}
use Rattle.chess_base.proofs.{shared.Kings.one_king, shared.Kings.one_king_of, shared.Men.is_none-None, shared.Men.same_kind-self, shared.Men.same_kind-true}
use Rattle.chess_text.specs.{declared.parts.Parts.Parts, declared.parts.Promotion.Promotion, declared.writing.Disambiguation.Disambiguation, Parts.unmarked, Moves.shape, Moves.reading, ties.Forms.captures, ties.Forms.same_side}
use Rattle.chess_text.specs.declared.reading.Reading.TheVariants as reads
use mathlib.Core.Bool.{not-or_self}
use Rattle.chess_moves.proofs.shared.AnyMove.{any-filter}
use Rattle.chess_text.specs.laws.Laws.{DenotesAlone, is_san_byte, begins_with_letter, AreParts, HasLetter, CanPromote}
use Rattle.chess_text.specs.shared.Fitting.{passes, parts_text, admits, is_form, parts_fit, is_by_squares, is_by_letter, is_straight, is_by_file}
use Rattle.chess_text.specs.San.{castling_text, rival_starts, piece_text, check_mark, san}
use Rattle.chess_text.specs.ties.SanParts.{is_rival, unmarked_san, disambiguate, if_written, lettered_parts, piece_parts}
use Rattle.chess_text.proofs.OneMoveFits.{read_alone, denoted_parts, shape_parts, denoted_castling, shape_castling, denotes_move, move_is, written, promotion_part, promotes-self, promotes-same}
use Rattle.chess_text.proofs.{DenotedMoves.same_side-true, AllMoves.any-move, Lists.any-map, CastlingTexts.IsCastling, CastlingTexts.letters_kingside, CastlingTexts.letters_queenside, Solid.bare_parts, Solid.bare_castling, Solid.bare_marked, PieceText.piece_written, WrittenStarts.written_admits, WrittenStarts.start_is_apart}
use Rattle.chess_text.proofs.Legal.{MovesAs, IsMove, unpromoted, legal_move, described_as, described_is, castling_says, names_end}
use Rattle.chess_text.proofs.Pawns.{pawn_of, pawn_stands, advances_on_file, same_advance, advances_without, advances_straight, captures_ahead, same_ahead}
use Rattle.chess_text.proofs.WrittenBytes.{IsWord, Word, file_letter, man_letter, parts_bytes, castling_word, castling_bytes, marked_word}

-- ---- castling

castling_is : (w : CastlingSide) → IsCastling (castling_text w) w
castling_is KingSide = letters_kingside
castling_is QueenSide = letters_queenside

same_side-self : (w : CastlingSide) → same_side w w ≡ true
same_side-self KingSide = refl
same_side-self QueenSide = refl

-- castling has no promotion
castles_plain : (p : Setup) (m : Move) (w : CastlingSide) (k : Kind) → MovesAs p m k → castling p m ≡ Some w
    → m.promotion ≡ None
castles_plain p m w Pawn h e = let none = h.1 in absurd cc
castles_plain p m w King h e = h
castles_plain p m w Queen h e = h
castles_plain p m w Rook h e = h
castles_plain p m w Bishop h e = h
castles_plain p m w Knight h e = h

-- what castles to the same side as w castles to w
castles_so : (w : CastlingSide) (o : Option CastlingSide) → passes (same_side w) o ≡ true → o ≡ Some w
castles_so w None e = absurd cc
castles_so w (Some v) e = ap Some (sym (same_side-true w v e))

-- two castlings to one side are one move: there is one king, and their end square is the same
same_castling : (p : Setup) (m n : Move) (w : CastlingSide) → IsSound p → IsMove p m → IsMove p n
    → castling p m ≡ Some w → castling p n ≡ Some w → n ≡ m
same_castling p m n w sound h g e f =
    let a = castling_says p m w e in
    let b = castling_says p n w f in
    let right = right_of p.rights p.side w in
    move_is n m (one_king p.men p.side n.from m.from sound.board (one_king_of p sound p.side) b.0 a.0)
    (names_end p.variant p.side n w right b.1 ∙ sym (names_end p.variant p.side m w right a.1))
    (castles_plain p n w g.man g.moves_as f ∙ sym (castles_plain p m w h.man h.moves_as e))

-- ---- pawns

-- the parts of a pawn's SAN: for a capture (c) the start file and `x`, the end square, the promotion
abbrev pawn_named : Bool → ℕ → ℕ → Option Promotion → Parts
pawn_named c from to promotion = record {
  letter = None;
  file = if_written c (file from);
  rank = None;
  takes = c;
  end = record { to = to; promotion = promotion };
}

-- a file that is written is below 8, and so is a rank
written_file : (c : Bool) (s : ℕ) → IfSome (if_written c (file s)) (λ f. f < 8)
written_file true s = omega arith
written_file false s = tt

written_rank : (c : Bool) (s : ℕ) → s < 64 → IfSome (if_written c (rank s)) (λ r. r < 8)
written_rank true s h = omega arith
written_rank false s h = tt

-- the parts of a pawn's SAN are possible: its squares on the board, a promotion that a pawn may make
pawn_are_parts : (c : Bool) (from to : ℕ) (o : Option Kind) → to < 64 → IfSome o CanPromote
    → AreParts (pawn_named c from to (written true false o))
pawn_are_parts c from to o h k = record {
  letter_is = tt;
  file_is = written_file c from;
  rank_is = tt;
  to_is = h;
  promotion_is = promotion_part true false o k;
}

-- the parts of a pawn's SAN can be those of a move's text
pawn_form : (c : Bool) (from to : ℕ) (o : Option Promotion) → is_form (pawn_named c from to o) ≡ true
unfolding is_form
pawn_form true from to o = refl
pawn_form false from to o = refl

-- the parts of a pawn's SAN fit its own move: without a capture it stays on its file
pawn_fits : (p : Setup) (m : Move) (c : Bool) → captures p m ≡ c → (c ≡ false → file m.from ≡ file m.to)
    → parts_fit (pawn_named c m.from m.to (written true false m.promotion)) (described_as p m Pawn) ≡ true
unfolding parts_fit is_by_squares is_by_letter is_straight is_by_file
pawn_fits p m true e on =
    let a = eq-eqb (file m.from) (file m.from) refl in
    let b = eq-eqb m.to m.to refl in
    let f = promotes-self true false m.promotion in
    rw (e, a, b, f) refl
pawn_fits p m false e on =
    let a = eq-eqb (file m.from) (file m.to) (on refl) in
    let b = eq-eqb m.to m.to refl in
    let f = promotes-self true false m.promotion in
    rw (a, b, f) refl

-- what a move n of a piece of kind l has if the parts of m's SAN, those of a pawn's advance, fit it
record GoesStraight (p : Setup) (m n : Move) (l : Kind) : Type 0 where
  man : l ≡ Pawn
  on : file n.from ≡ file n.to
  to : n.to ≡ m.to
  promotion : n.promotion ≡ m.promotion

straight_fits : (p : Setup) (m n : Move) (l : Kind)
    → parts_fit (pawn_named false m.from m.to (written true false m.promotion)) (described_as p n l) ≡ true → GoesStraight p m n l
unfolding parts_fit is_by_squares is_by_letter is_straight is_by_file
straight_fits p m n l e = record {
  man = sym (same_kind-true Pawn l (grind (arith, nat_tests, e)));
  on = grind (arith, nat_tests, e);
  to = grind (arith, nat_tests, e);
  promotion = promotes-same true false m.promotion n.promotion (grind (arith, nat_tests, e));
}

-- what a move n of a piece of kind l has if the parts of m's SAN, those of a pawn's capture, fit it
record Takes (p : Setup) (m n : Move) (l : Kind) : Type 0 where
  man : l ≡ Pawn
  on : file m.from ≡ file n.from
  takes : captures p n ≡ true
  to : n.to ≡ m.to
  promotion : n.promotion ≡ m.promotion

takes_fits : (p : Setup) (m n : Move) (l : Kind)
    → parts_fit (pawn_named true m.from m.to (written true false m.promotion)) (described_as p n l) ≡ true → Takes p m n l
unfolding parts_fit is_by_squares is_by_letter is_straight is_by_file
takes_fits p m n l e = record {
  man = sym (same_kind-true Pawn l (grind (arith, nat_tests, e)));
  on = grind (arith, nat_tests, e);
  takes = grind (arith, nat_tests, e);
  to = grind (arith, nat_tests, e);
  promotion = promotes-same true false m.promotion n.promotion (grind (arith, nat_tests, e));
}

-- a legal move of a pawn: what is on its start square, and its pattern
as_pawn : (p : Setup) (n : Move) (g : IsMove p n) → g.man ≡ Pawn
    → (man_at p.men n.from ≡ Some (pawn_of p.side)) × (pawn_moves p n ≡ true)
as_pawn p n g is =
    let moves_so : MovesAs p n Pawn = subst (MovesAs p n) is g.moves_as in
    (g.at_from ∙ ap (λ (k : Kind). let man : Man = record { colour = p.side; kind = k } in Some man) is, moves_so.0)

-- the parts of a pawn's SAN fit no other legal move (same_ahead and same_advance of Pawns)
pub pawn_alone : (p : Setup) (m n : Move) (c : Bool) → IsSound p → (h : IsMove p m) → h.man ≡ Pawn → (g : IsMove p n)
    → captures p m ≡ c
    → parts_fit (pawn_named c m.from m.to (written true false m.promotion)) (described_as p n g.man) ≡ true → n ≡ m
pawn_alone p m n true sound h is g e fit =
    let f = takes_fits p m n g.man fit in
    let a = as_pawn p m h is in
    let b = as_pawn p n g f.man in
    let ahead = captures_ahead p m a.0 a.1 e in
    let ahead' = captures_ahead p n b.0 b.1 f.takes in
    let ahead'' : is_rank_ahead p.side n.from m.to ≡ true = ap (is_rank_ahead p.side n.from) (sym f.to) ∙ ahead' in
    move_is n m (same_ahead p.side m.from n.from m.to ahead ahead'' f.on) f.to f.promotion
pawn_alone p m n false sound h is g e fit =
    let f = straight_fits p m n g.man fit in
    let a = as_pawn p m h is in
    let b = as_pawn p n g f.man in
    let low = pawn_stands p sound p.side m.from h.from_in a.0 in
    let low' = pawn_stands p sound p.side n.from g.from_in b.0 in
    let goes = advances_without p m a.0 a.1 e in
    let goes' = advances_straight p n b.0 b.1 f.on in
    move_is n m (same_advance p m n a.0 b.0 low low' f.to goes goes') f.to f.promotion

pawn_on_file : (p : Setup) (m : Move) → IsSound p → (h : IsMove p m) → h.man ≡ Pawn → captures p m ≡ false
    → file m.from ≡ file m.to
pawn_on_file p m sound h is e =
    let a = as_pawn p m h is in
    advances_on_file p m (pawn_stands p sound p.side m.from h.from_in a.0) (advances_without p m a.0 a.1 e)

-- ---- other pieces

-- the start squares of m's legal rivals: the other pieces of its kind that could move to its end square
abbrev rivals : Setup → Move → Kind → List ℕ
rivals p m k = rival_starts p (moves p) (described_as p m k)

-- the parts of another piece's SAN: letter, what `start` says of the start square, `x` for a capture, end square
abbrev lettered_named : Kind → Disambiguation → Bool → ℕ → ℕ → Parts
lettered_named k start c from to =
    record {
      letter = Some k;
      file = if_written start.file (file from);
      rank = if_written start.rank (rank from);
      takes = c;
      end = record { to = to; promotion = None };
    }

-- the parts by the definition of a lettered piece's SAN, without a promotion, are `lettered_named`
lettered_is : (p : Setup) (m : Move) (k : Kind) (others : List ℕ) → m.promotion ≡ None
    → lettered_parts others (described_as p m k) ≡ lettered_named k (disambiguate m.from others) (captures p m) m.from m.to
lettered_is p m k others none =
    ap (λ (o : Option Kind). let start = disambiguate m.from others in
    let q : Parts = record {
      letter = Some k;
      file = if_written start.file (file m.from);
      rank = if_written start.rank (rank m.from);
      takes = captures p m;
      end =
          record { to = m.to; promotion = option_map (λ k. record { kind = k; equals = true; small = false }) o };
    } in
    q) none

-- the parts of a lettered piece's SAN are possible: squares on the board
lettered_are_parts : (k : Kind) (start : Disambiguation) (c : Bool) (from to : ℕ) → HasLetter k → from < 64 → to < 64
    → AreParts (lettered_named k start c from to)
lettered_are_parts k start c from to lettered f t =
    record {
      letter_is = lettered;
      file_is = written_file start.file from;
      rank_is = written_rank start.rank from f;
      to_is = t;
      promotion_is = tt;
    }

lettered_form : (k : Kind) (start : Disambiguation) (c : Bool) (from to : ℕ)
    → is_form (lettered_named k start c from to) ≡ true
unfolding is_form
lettered_form k start c from to = refl

-- the parts of a lettered piece's SAN fit its own move, with whatever is written of its start
lettered_fits : (p : Setup) (m : Move) (k : Kind) (start : Disambiguation) → castling p m ≡ None
    → parts_fit (lettered_named k start (captures p m) m.from m.to) (described_as p m k) ≡ true
unfolding parts_fit is_by_squares is_by_letter is_straight is_by_file
lettered_fits p m k start none =
    let a = same_kind-self k in
    let b = written_admits start.file (file m.from) in
    let c = written_admits start.rank (rank m.from) in
    let d = not-or_self (captures p m) in
    let e = eq-eqb m.to m.to refl in
    rw (none, a, b, c, d, e) refl

-- what a move n of a piece of kind l has if the parts of m's SAN, those of a piece of kind k, fit it
record Goes (p : Setup) (m n : Move) (k l : Kind) (start : Disambiguation) : Type 0 where
  man : l ≡ k
  walks : castling p n ≡ None
  file_fits : admits (if_written start.file (file m.from)) (file n.from) ≡ true
  rank_fits : admits (if_written start.rank (rank m.from)) (rank n.from) ≡ true
  to : n.to ≡ m.to

lettered_goes : (p : Setup) (m n : Move) (k l : Kind) (start : Disambiguation) (c : Bool)
    → parts_fit (lettered_named k start c m.from m.to) (described_as p n l) ≡ true → Goes p m n k l start
unfolding parts_fit is_by_squares is_by_letter is_straight is_by_file
lettered_goes p m n k l start c e = record {
  man = sym (same_kind-true k l (grind (arith, nat_tests, e)));
  walks = is_none-None (castling p n) (grind (arith, nat_tests, e));
  file_fits = grind (arith, nat_tests, e);
  rank_fits = grind (arith, nat_tests, e);
  to = grind (arith, nat_tests, e);
}

-- a test that a legal rival's start passes finds one among `rivals`
rival_stands : (p : Setup) (m n : Move) (k : Kind) (t : ℕ → Bool) → is_legal p n ≡ true
    → is_rival p (described_as p m k) n ≡ true → t n.from ≡ true → list_any t (rivals p m k) ≡ true
unfolding rival_starts is_rival
rival_stands p m n k t legal rival e =
    any-map t (λ (x : Move). x.from) (filter (λ x. is_rival p (described_as p m k) x) (moves p))
    ∙ any-filter (λ x. is_rival p (described_as p m k) x) (λ (x : Move). t x.from) (moves p)
    ∙ any-move p (λ x. is_rival p (described_as p m k) x && t x.from) n legal
    (and_from (is_rival p (described_as p m k) n) (t n.from) rival e)

-- a legal move of a piece of the same kind to m's end square from another square is a rival of m
rival_is : (p : Setup) (m n : Move) (k : Kind) (g : IsMove p n) → g.man ≡ k → n.to ≡ m.to → (n.from == m.from) ≡ false
    → is_rival p (described_as p m k) n ≡ true
unfolding is_rival
rival_is p m n k g man to apart =
    let a = eq-eqb n.to m.to to in
    let b = described_is p n g in
    let c : same_kind g.man k ≡ true = ap (λ v. same_kind v k) man ∙ same_kind-self k in
    rw (a, apart, b, c) refl

-- the parts of a piece's SAN fit no other legal move: one from another square would be a rival, from whose start the
-- SAN is distinguished (start_is_apart of WrittenStarts)
lettered_alone : (p : Setup) (m n : Move) (k : Kind) → HasLetter k → m.promotion ≡ None → is_legal p n ≡ true
    → (g : IsMove p n)
    → parts_fit (lettered_named k (disambiguate m.from (rivals p m k)) (captures p m) m.from m.to) (described_as p n g.man) ≡ true
    → n ≡ m
lettered_alone p m n k lettered none legal g fit = by_start (n.from == m.from) refl
  where
    goes : Goes p m n k g.man (disambiguate m.from (rivals p m k))
    goes = lettered_goes p m n k g.man (disambiguate m.from (rivals p m k)) (captures p m) fit

    by_start : (t : Bool) → (n.from == m.from) ≡ t → n ≡ m
    by_start true e =
        let so : MovesAs p n k = subst (MovesAs p n) goes.man g.moves_as in
        move_is n m (eqb-true n.from m.from e) goes.to (unpromoted p n k lettered so ∙ sym none)
    by_start false e =
        let rival = rival_is p m n k g goes.man goes.to e in
        absurd (start_is_apart m.from n.from (rivals p m k)
        (rival_stands p m n k (λ s. file s == file n.from) legal rival (eq-eqb (file n.from) (file n.from) refl))
        (rival_stands p m n k (λ s. rank s == rank n.from) legal rival (eq-eqb (rank n.from) (rank n.from) refl))
        (λ same. both_ways (n.from == m.from) e (eq-eqb n.from m.from same)) goes.file_fits goes.rank_fits)

-- ---- the text

-- the text of a pawn's parts is a word of two to six bytes
pawn_word : (c : Bool) (from to : ℕ) (o : Option Kind)
    → IsWord (parts_text (pawn_named c from to (written true false o)))
pawn_word true from to None = record { short = omega arith; long = omega arith; letter = file_letter from }
pawn_word true from to (Some k) = record { short = omega arith; long = omega arith; letter = file_letter from }
pawn_word false from to None = record { short = omega arith; long = omega arith; letter = file_letter to }
pawn_word false from to (Some k) = record { short = omega arith; long = omega arith; letter = file_letter to }

lettered_word : (k : Kind) (start : Disambiguation) (c : Bool) (from to : ℕ)
    → IsWord (parts_text (lettered_named k start c from to))
lettered_word k start c from to = by_written start.file start.rank c
  where
    by_written : (f r c : Bool) → IsWord (parts_text (lettered_named k (record { file = f; rank = r }) c from to))
    by_written f r c = record { short = grind arith; long = grind arith; letter = man_letter k }

-- what the law needs of the parts q of m's SAN without its mark: possible, those of a move's text, a word, fitting m
-- and no other legal move
record HasParts (p : Setup) (m : Move) (k : Kind) (q : Parts) : Type 0 where
  are : AreParts q
  form : is_form q ≡ true
  word : IsWord (parts_text q)
  fits_it : parts_fit q (described_as p m k) ≡ true
  alone : (n : Move) → is_legal p n ≡ true → (g : IsMove p n) → parts_fit q (described_as p n g.man) ≡ true → n ≡ m

-- the parts of a pawn's SAN have what the law needs (`HasParts`)
pawn_parts_of : (p : Setup) (m : Move) → IsSound p → (h : IsMove p m) → h.man ≡ Pawn
    → HasParts p m Pawn (pawn_named (captures p m) m.from m.to (written true false m.promotion))
pawn_parts_of p m sound h is = record {
  are = pawn_are_parts (captures p m) m.from m.to m.promotion h.to_in h.promotion_is;
  form = pawn_form (captures p m) m.from m.to (written true false m.promotion);
  word = pawn_word (captures p m) m.from m.to m.promotion;
  fits_it = pawn_fits p m (captures p m) refl (pawn_on_file p m sound h is);
  alone = λ n legal g fit. pawn_alone p m n (captures p m) sound h is g refl fit;
}

-- the parts of another piece's SAN have what the law needs (`HasParts`)
lettered_parts_of : (p : Setup) (m : Move) (k : Kind) → HasLetter k → castling p m ≡ None → m.promotion ≡ None
    → m.from < 64 → m.to < 64
    → HasParts p m k (lettered_named k (disambiguate m.from (rivals p m k)) (captures p m) m.from m.to)
lettered_parts_of p m k lettered walks none f t = record {
  are = lettered_are_parts k (disambiguate m.from (rivals p m k)) (captures p m) m.from m.to lettered f t;
  form = lettered_form k (disambiguate m.from (rivals p m k)) (captures p m) m.from m.to;
  word = lettered_word k (disambiguate m.from (rivals p m k)) (captures p m) m.from m.to;
  fits_it = lettered_fits p m k (disambiguate m.from (rivals p m k)) walks;
  alone = λ n legal g fit. lettered_alone p m n k lettered none legal g fit;
}

-- the parts by the definition of a lettered piece's SAN have it, since only a pawn promotes
lettered_by : (p : Setup) (m : Move) (h : IsMove p m) → castling p m ≡ None → (k : Kind) → HasLetter k → h.man ≡ k
    → HasParts p m k (lettered_parts (rivals p m k) (described_as p m k))
lettered_by p m h walks k lettered is =
    let so : MovesAs p m k = subst (MovesAs p m) is h.moves_as in
    let none = unpromoted p m k lettered so in
    subst (HasParts p m k) (sym (lettered_is p m k (rivals p m k) none)) (lettered_parts_of p m k lettered walks none h.from_in h.to_in)

-- the parts by the definition of a piece's SAN have what the law needs, by its kind
piece_by : (p : Setup) (m : Move) → IsSound p → (h : IsMove p m) → castling p m ≡ None → (k : Kind) → h.man ≡ k
    → HasParts p m k (piece_parts (rivals p m k) (described_as p m k))
unfolding piece_parts
piece_by p m sound h walks Pawn is = pawn_parts_of p m sound h is
piece_by p m sound h walks King is = lettered_by p m h walks King tt is
piece_by p m sound h walks Queen is = lettered_by p m h walks Queen tt is
piece_by p m sound h walks Rook is = lettered_by p m h walks Rook tt is
piece_by p m sound h walks Bishop is = lettered_by p m h walks Bishop tt is
piece_by p m sound h walks Knight is = lettered_by p m h walks Knight tt is

piece_has_parts : (p : Setup) (m : Move) → IsSound p → (h : IsMove p m) → castling p m ≡ None
    → HasParts p m h.man (piece_parts (rivals p m h.man) (described_as p m h.man))
piece_has_parts p m sound h walks = piece_by p m sound h walks h.man refl

-- the SAN of a legal move: the text of castling or of a piece, and the mark for check or mate
san_text : (p : Setup) (m : Move) (h : IsMove p m)
    → san p m ≡ option_map_or castling_text (castling p m) (piece_text (rivals p m h.man) (described_as p m h.man)) ++ check_mark (after p m)
unfolding san
san_text p m h =
    ap (optional (λ d. unmarked_san (rival_starts p (moves p) d) d ++ check_mark (after p m))) (described_is p m h)

-- what is shown of a text of m: a move's shape, and that it denotes m alone of the legal moves
pub record Law (p : Setup) (m : Move) (text : List ℕ) : Type 0 where
  pub has_shape : shape text ≡ true
  pub alone : DenotesAlone p text m

-- the law for a move that castles to side w and any text that without marks is the text of castling to w
pub castling_law : (p : Setup) (m : Move) (text : List ℕ) (w : CastlingSide) → IsSound p → IsMove p m
    → castling p m ≡ Some w → unmarked text ≡ castling_text w → Law p m text
castling_law p m text w sound h e bare =
    let is : IsCastling (unmarked text) w = rw bare (castling_is w) in
    record {
      has_shape = shape_castling text w is;
      alone = (
        denotes_move p text m h ∙ denoted_castling text w (described_as p m h.man) is ∙ ap (passes (same_side w)) e
            ∙ same_side-self w,
        λ n legal s.
            let g = legal_move p n legal in
            let to =
            castles_so w (castling p n)
            (sym (denotes_move p text n g ∙ denoted_castling text w (described_as p n g.man) is) ∙ s) in
            same_castling p m n w sound h g e to,
      );
    }

-- the law for any text that without marks is the text of parts with what the law needs
piece_law : (p : Setup) (m : Move) (text : List ℕ) (q : Parts) (h : IsMove p m) → HasParts p m h.man q
    → unmarked text ≡ parts_text q → Law p m text
piece_law p m text q h parts bare = record {
  has_shape = shape_parts text q bare parts.are parts.form;
  alone = (
    denotes_move p text m h ∙ denoted_parts text q (described_as p m h.man) bare parts.are ∙ parts.fits_it,
    λ n legal s.
        let g = legal_move p n legal in
        parts.alone n legal g (sym (denotes_move p text n g ∙ denoted_parts text q (described_as p n g.man) bare parts.are)
        ∙ s),
  );
}

-- the law for m's SAN, and that it is a word, by the side to which m castles (o)
law_by : (p : Setup) (m : Move) (text : List ℕ) → IsSound p → (h : IsMove p m) → (o : Option CastlingSide)
    → castling p m ≡ o
    → text ≡ option_map_or castling_text o (piece_text (rivals p m h.man) (described_as p m h.man)) ++ check_mark (after p m)
    → Law p m text × Word text
law_by p m text sound h (Some w) e is = (
  castling_law p m text w sound h e (ap unmarked is ∙ bare_marked (after p m) (castling_text w) (bare_castling w)),
  marked_word (after p m) (castling_text w) text (castling_word w) (castling_bytes w) is,
)
law_by p m text sound h None e is =
    let q = piece_parts (rivals p m h.man) (described_as p m h.man) in
    let parts = piece_has_parts p m sound h e in
    let written : text ≡ parts_text q ++ check_mark (after p m) =
    is ∙ ap (λ v. v ++ check_mark (after p m)) (piece_written (rivals p m h.man) (described_as p m h.man)) in (
      piece_law p m text q h parts (ap unmarked written ∙ bare_marked (after p m) (parts_text q)
          (bare_parts q parts.are.to_is)),
      marked_word (after p m) (parts_text q) text parts.word (parts_bytes q parts.are) written,
    )

law : (p : Setup) (m : Move) → IsSound p → is_legal p m ≡ true → Law p m (san p m) × Word (san p m)
law p m sound legal =
    let h = legal_move p m legal in
    law_by p m (san p m) sound h (castling p m) refl (san_text p m h)

pub san_alone : (p : Setup) (m : Move) → IsSound p → IsTrue (is_legal p m) → DenotesAlone p (san p m) m
san_alone p m sound legal = (law p m sound legal).0.alone

pub san_shape : (p : Setup) (m : Move) → IsSound p → IsTrue (is_legal p m) → IsTrue (shape (san p m))
san_shape p m sound legal = (law p m sound legal).0.has_shape

pub san_read : (p : Setup) (m : Move) → IsSound p → IsTrue (is_legal p m) → reading p (san p m) ≡ reads.Move m
san_read p m sound legal = read_alone p (san p m) m legal (san_shape p m sound legal) (san_alone p m sound legal)

pub san_short : (p : Setup) (m : Move) → IsSound p → IsTrue (is_legal p m)
    → (2 ≤ length (san p m)) × (length (san p m) ≤ 7)
san_short p m sound legal = let w = (law p m sound legal).1 in (w.short, w.long)

pub san_bytes : (p : Setup) (m : Move) → IsSound p → IsTrue (is_legal p m)
    → IsTrue (list_all (λ c. is_san_byte c) (san p m))
san_bytes p m sound legal = (law p m sound legal).1.bytes

pub san_letter : (p : Setup) (m : Move) → IsSound p → IsTrue (is_legal p m) → IsTrue (begins_with_letter (san p m))
san_letter p m sound legal = (law p m sound legal).1.letter
