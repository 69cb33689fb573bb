-- The coordinate text of a legal move denotes this move and no other legal one (coordinate_alone), has a move's shape
-- (coordinate_shape), and so is read as the move (coordinate_read); that of a move that is not legal, without a
-- promotion, denotes no legal move (coordinate_of_none). For a move that the text's parts fit has both squares and the
-- promotion that the text names.
use Rattle.std.proofs.Common.{◌≡◌, ◌+◌, ◌<◌, true, false, not, List, [], ◌∷◌, Option, Some, None, refl, sym, ap, ◌∙◌, arith, IsTrue, filter}
use Rattle.std.proofs.{lemmas.Bool.Decides.nat_tests, lemmas.Bool.eq-eqb, lemmas.Bool.both_ways, lemmas.Bool.false_from_ne_true}
use Rattle.chess_base.specs.{declared.man.Kind.Kind, declared.man.Move.Move, declared.setup.Setup.Setup, Coordinates.small_letter_text, Coordinates.coordinate, shared.Parts.optional, Moves.is_legal, MoveList.moves, Squares.file, Squares.rank}
use Rattle.chess_text.specs.{declared.parts.Parts.Parts, laws.Laws.DenotesAlone, laws.Laws.AreParts, Parts.unmarked}
use Rattle.chess_text.specs.declared.reading.Reading.TheVariants as reads
use Rattle.chess_text.specs.shared.Fitting.{promotion_text, parts_text, has_equals, is_form, parts_fit, is_by_squares, is_by_letter, is_straight, is_by_file}
use Rattle.chess_text.specs.Moves.{shape, reading, denotes, one_of}
use Rattle.chess_text.proofs.{FormFacts.legal_agree, Legal.IsMove, Legal.legal_move, Legal.described_as, Solid.bare_parts, WrittenStarts.same_square}
use Rattle.chess_text.proofs.OneMoveFits.{read_alone, denoted_parts, shape_parts, denotes_move, move_is, written, promotion_part, promotes-self, promotes-same}

-- the parts of m's coordinate text: the start's file and rank, the end square, the promotion in a small letter
abbrev squares_named : Move → Parts
squares_named m = record {
  letter = None;
  file = Some (file m.from);
  rank = Some (rank m.from);
  takes = false;
  end = record { to = m.to; promotion = written false true m.promotion };
}

-- a promotion has the same text in coordinates and as such a part
letter_is : (o : Option Kind) → optional small_letter_text o ≡ optional promotion_text (written false true o)
letter_is None = refl
letter_is (Some k) = refl

text_is : (m : Move) → coordinate m ≡ parts_text (squares_named m)
text_is m = ap (λ v. (97 + file m.from) ∷ (49 + rank m.from) ∷ (97 + file m.to) ∷ (49 + rank m.to) ∷ v)
    (letter_is m.promotion)

-- the coordinate text has no marks (+ # ! ?) at its end, so without marks it is the text of its parts
bare : (m : Move) → m.to < 64 → unmarked (coordinate m) ≡ parts_text (squares_named m)
bare m h = ap unmarked (text_is m) ∙ bare_parts (squares_named m) h

are_parts : (p : Setup) (m : Move) → IsMove p m → AreParts (squares_named m)
are_parts p m h = record {
  letter_is = tt;
  file_is = (let from = h.from_in in omega arith);
  rank_is = (let from = h.from_in in omega arith);
  to_is = h.to_in;
  promotion_is = promotion_part false true m.promotion h.promotion_is;
}

-- a promotion in coordinates is written without `=`
no_equals : (o : Option Kind) → not (has_equals (written false true o)) ≡ true
no_equals None = refl
no_equals (Some k) = refl

fits_itself : (p : Setup) (m : Move) (k : Kind) → parts_fit (squares_named m) (described_as p m k) ≡ true
unfolding parts_fit is_by_squares
fits_itself p m k =
    let a = eq-eqb (file m.from) (file m.from) refl in
    let b = eq-eqb (rank m.from) (rank m.from) refl in
    let c = eq-eqb m.to m.to refl in
    let e = no_equals m.promotion in
    let f = promotes-self false true m.promotion in
    rw (a, b, c, e, f) refl

-- n has m's squares and promotion
record Same (m n : Move) : Type 0 where
  from : n.from ≡ m.from
  to : n.to ≡ m.to
  promotion : n.promotion ≡ m.promotion

-- a move n that the parts of m's coordinate text fit has m's squares and promotion
fits_alone : (p : Setup) (m n : Move) (k : Kind) → parts_fit (squares_named m) (described_as p n k) ≡ true → Same m n
unfolding parts_fit is_by_squares is_by_letter is_straight is_by_file
fits_alone p m n k e = record {
  from = same_square m.from n.from (grind (arith, nat_tests, e)) (grind (arith, nat_tests, e));
  to = grind (arith, nat_tests, e);
  promotion = promotes-same false true m.promotion n.promotion (grind (arith, nat_tests, e));
}

-- a legal move that the text denotes is the move
denotes_only : (p : Setup) (m n : Move) → m.to < 64 → AreParts (squares_named m) → is_legal p n ≡ true
    → denotes p (coordinate m) n ≡ true → n ≡ m
denotes_only p m n low are legal e =
    let g = legal_move p n legal in
    let same =
    fits_alone p m n g.man
    (sym (denotes_move p (coordinate m) n g
    ∙ denoted_parts (coordinate m) (squares_named m) (described_as p n g.man) (bare m low) are) ∙ e) in
    move_is n m same.from same.to same.promotion

-- of the legal moves only m is denoted by its coordinate text
pub coordinate_alone : (p : Setup) (m : Move) → IsTrue (is_legal p m) → DenotesAlone p (coordinate m) m
coordinate_alone p m legal =
    let h = legal_move p m legal in
    let are = are_parts p m h in (
      denotes_move p (coordinate m) m h
          ∙ denoted_parts (coordinate m) (squares_named m) (described_as p m h.man) (bare m h.to_in) are
          ∙ fits_itself p m h.man,
      λ n n_legal e. denotes_only p m n h.to_in are n_legal e,
    )

form_of_squares : (m : Move) → is_form (squares_named m) ≡ true
unfolding is_form
form_of_squares m = refl

pub coordinate_shape : (p : Setup) (m : Move) → IsTrue (is_legal p m) → IsTrue (shape (coordinate m))
coordinate_shape p m legal =
    let h = legal_move p m legal in
    shape_parts (coordinate m) (squares_named m) (bare m h.to_in) (are_parts p m h) (form_of_squares m)

pub coordinate_read : (p : Setup) (m : Move) → IsTrue (is_legal p m)
    → reading p (coordinate m) ≡ reads.Move m
coordinate_read p m legal = read_alone p (coordinate m) m legal (coordinate_shape p m legal)
    (coordinate_alone p m legal)

none_kept : (ms : List Move) → filter (λ m. false) ms ≡ []
none_kept [] = refl
none_kept (m ∷ ms) = none_kept ms

-- where the move is not legal, its text denotes none
pub coordinate_of_none : (p : Setup) (m : Move) → m.from < 64 → m.to < 64 → m.promotion ≡ None → is_legal p m ≡ false
    → reading p (coordinate m) ≡ reads.NoSuch
unfolding reading
coordinate_of_none p m start end none off =
    let text = coordinate m in
    let are : AreParts (squares_named m) = record {
      letter_is = tt;
      file_is = omega (arith, start);
      rank_is = omega (arith, start);
      to_is = end;
      promotion_is = promotion_part false true m.promotion (rw none tt);
    } in
    rw (shape_parts text (squares_named m) (bare m end) are (form_of_squares m))
    (ap one_of
    (legal_agree p (λ n. denotes p text n) (λ n. false)
    (λ n legal.
    false_from_ne_true (denotes p text n)
    (λ e. both_ways (is_legal p m) off (ap (is_legal p) (sym (denotes_only p m n end are legal e)) ∙ legal)))
    ∙ none_kept (moves p)))
