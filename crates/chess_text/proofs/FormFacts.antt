-- The form that a text is read as (`form_of`: castling, parts or none) decides whether it has a move's shape
-- (shape-form), which legal moves it denotes (denotes-read), and so its reading in a position (reading_denoted,
-- reading_nothing): by cases of castling's texts and of the parts read. Marks at the end don't change the reading
-- (reading_unmarked). What is read is legal (reads_legal), since only legal moves are filtered.
use Rattle.std.proofs.Common.{◌≡◌, ℕ, inl, inr, Bool, true, false, ◌&&◌, ◌||◌, cond, List, [], ◌∷◌, Option, Some, None, is_some, refl, sym, ap, ◌∙◌, arith, bytes_eq}
use Rattle.std.proofs.{lemmas.Bool.and_parts, lemmas.Bool.cases_Bool, lemmas.List.Elements.filter_agree}
use Rattle.std.specs.{List.list_any, List.filter, Option.option_map_or}
use Rattle.chess_base.specs.{declared.man.CastlingSide.CastlingSide, declared.man.CastlingSide.TheVariants.KingSide, declared.man.CastlingSide.TheVariants.QueenSide, declared.man.Move.Move, declared.setup.Setup.Setup, Moves.is_legal, MoveList.all_moves, MoveList.moves}
use Rattle.chess_text.specs.{declared.described.Described.Described, declared.form.Form.Form, declared.form.Form.TheVariants.Piece, declared.parts.Parts.Parts, declared.reading.Reading.Reading, Parts.unmarked, shared.Reader.parts_at, laws.CastlingTexts.is_castling_text}
use Rattle.chess_text.specs.declared.reading.Reading.TheVariants as reads
use mathlib.Core.Bool.{or-false}
use Rattle.chess_text.specs.Moves.{castling_texts, described, shape, denotes_described, denotes, one_of, reading, IsLegalReading}
use Rattle.chess_text.specs.shared.Fitting.{passes, is_form, parts_fit, has_parts, has_form, fits_text}
use Rattle.chess_text.specs.ties.Forms.{form_of_parts, form_at, form_of, same_side, form_fits, is_denoted}
use Rattle.chess_text.proofs.{AllMoves.filter-both, Legal.legal_move, Legal.described_as, Legal.described_is, ShapeByForm.no_form, ShapeByForm.shape_is, Denotations.denotes_is, CastlingTexts.IsCastling, CastlingTexts.castling_from_name}

pub has-read : (test : Parts → Bool) (text : List ℕ) → has_parts test text ≡ passes test (parts_at (unmarked text))
unfolding has_parts
has-read test text = refl

-- ---- the shape

shape_by_parts : (o : Option Parts) → passes is_form o ≡ is_some (form_of_parts o)
shape_by_parts None = refl
shape_by_parts (Some q) = grind arith

-- a and b say whether the text names castling to the king's side or to the queen's
shape_by : (text : List ℕ) (a b : Bool) → (a || b || passes is_form (parts_at text))
    ≡ is_some (form_at (cond a (Some KingSide) (cond b (Some QueenSide) None)) text)
shape_by text true b = refl
shape_by text false true = refl
shape_by text false false = shape_by_parts (parts_at text)

-- the test `has_form` says whether `form_of` finds a form
has-form : (text : List ℕ) → has_form text ≡ is_some (form_of text)
unfolding has_form form_of is_castling_text
has-form text = rw (has-read is_form text) (shape_by (unmarked text) (list_any (bytes_eq (unmarked text)) (castling_texts KingSide))
    (list_any (bytes_eq (unmarked text)) (castling_texts QueenSide)))

pub shape-form : (text : List ℕ) → shape text ≡ is_some (form_of text)
shape-form text = shape_is text ∙ has-form text

-- ---- what is denoted

-- parts fit d exactly if the form that is made of them does; parts that can make none fit no move
fits_by_form : (d : Described) (o : Option Parts)
    → passes (λ q. parts_fit q d) o ≡ passes (λ f. form_fits f d) (form_of_parts o)
fits_by_form d None = refl
fits_by_form d (Some q) = by_test (is_form q) refl
  where
    by_test : (t : Bool) → is_form q ≡ t → parts_fit q d ≡ passes (λ f. form_fits f d) (cond t (Some (Piece q)) None)
    by_test true e = refl
    by_test false e = no_form q.letter q.file q.rank q.takes q.end.to q.end.promotion d e

same_for : (test other : CastlingSide → Bool) → ((v : CastlingSide) → test v ≡ other v) → (o : Option CastlingSide)
    → passes test o ≡ passes other o
same_for test other h None = refl
same_for test other h (Some v) = h v

-- a text of castling to side w denotes just the moves that castle to this side
pub denoted_castling : (text : List ℕ) (w : CastlingSide) (d : Described) → IsCastling text w
    → (passes (λ v. list_any (bytes_eq text) (castling_texts v)) d.castles || passes (λ q. parts_fit q d) (parts_at text))
    ≡ passes (same_side w) d.castles
denoted_castling text w d h =
    rw h.no_parts (or-false _ ∙ same_for (λ v. list_any (bytes_eq text) (castling_texts v)) (same_side w) h.names
    d.castles)

-- a text that names neither side names the castling of no move
not_named : (text : List ℕ) → list_any (bytes_eq text) (castling_texts KingSide) ≡ false
    → list_any (bytes_eq text) (castling_texts QueenSide) ≡ false
    → (o : Option CastlingSide) → passes (λ v. list_any (bytes_eq text) (castling_texts v)) o ≡ false
not_named text a b None = refl
not_named text a b (Some KingSide) = a
not_named text a b (Some QueenSide) = b

-- the text names d's castling, or its parts fit d, exactly if its form fits d; a and b say whether it names each side
denoted_by : (text : List ℕ) (d : Described) (a b : Bool) → list_any (bytes_eq text) (castling_texts KingSide) ≡ a
    → list_any (bytes_eq text) (castling_texts QueenSide) ≡ b
    → (passes (λ v. list_any (bytes_eq text) (castling_texts v)) d.castles || passes (λ q. parts_fit q d) (parts_at text))
    ≡ passes (λ f. form_fits f d) (form_at (cond a (Some KingSide) (cond b (Some QueenSide) None)) text)
denoted_by text d true b ea eb = denoted_castling text KingSide d (castling_from_name text KingSide ea)
denoted_by text d false true ea eb = denoted_castling text QueenSide d (castling_from_name text QueenSide eb)
denoted_by text d false false ea eb = ap (λ t. t || passes (λ q. parts_fit q d) (parts_at text))
    (not_named text ea eb d.castles) ∙ fits_by_form d (parts_at text)

-- the test `fits_text` says whether the form that is read fits d
fits-form : (text : List ℕ) (d : Described) → fits_text text d ≡ passes (λ f. form_fits f d) (form_of text)
unfolding fits_text form_of is_castling_text
fits-form text d = rw (has-read (λ q. parts_fit q d) text)
    (denoted_by (unmarked text) d (list_any (bytes_eq (unmarked text)) (castling_texts KingSide))
    (list_any (bytes_eq (unmarked text)) (castling_texts QueenSide)) refl refl)

-- ---- the reading

-- a text read as this form denotes a legal move exactly if the form does
pub denotes-read : (form : Form) (text : List ℕ) (p : Setup) (m : Move) → is_legal p m ≡ true → form_of text ≡ Some form
    → denotes p text m ≡ is_denoted form p m
unfolding denotes is_denoted
denotes-read form text p m legal e =
    let h = legal_move p m legal in
    let d = described_as p m h.man in
    ap (passes (denotes_described text)) (described_is p m h)
    ∙ denotes_is text d h.from_in h.to_in h.promotion_is
    ∙ fits-form text d
    ∙ ap (passes (λ f. form_fits f d)) e
    ∙ sym (ap (passes (form_fits form)) (described_is p m h))

-- two tests that agree on legal moves keep the same of them
pub legal_agree : (p : Setup) (t u : Move → Bool) → ((m : Move) → is_legal p m ≡ true → t m ≡ u m)
    → filter t (moves p) ≡ filter u (moves p)
unfolding moves
legal_agree p t u h =
    filter-both (λ m. is_legal p m) t all_moves
    ∙ filter_agree (λ m. is_legal p m && t m) (λ m. is_legal p m && u m) both all_moves
    ∙ sym (filter-both (λ m. is_legal p m) u all_moves)
  where
    both : (m : Move) → (is_legal p m && t m) ≡ (is_legal p m && u m)
    both m =
        elim (cases_Bool (is_legal p m)) [
          | inl legal ↦ ap (λ b. is_legal p m && b) (h m legal)
          | inr off ↦ rw off refl
        ]

-- marks (+ # ! ?) at the end of a text change nothing of its shape, nor below of its reading
shape_unmarked : (a b : List ℕ) → unmarked a ≡ unmarked b → shape a ≡ shape b
unfolding shape denotes_described
shape_unmarked a b e = rw e refl

denotes_unmarked : (a b : List ℕ) → unmarked a ≡ unmarked b → (o : Option Described)
    → option_map_or (denotes_described a) o false ≡ option_map_or (denotes_described b) o false
unfolding denotes_described
denotes_unmarked a b e None = refl
denotes_unmarked a b e (Some d) = rw e refl

pub reading_unmarked : (p : Setup) (a b : List ℕ) → unmarked a ≡ unmarked b → reading p a ≡ reading p b
unfolding reading denotes
reading_unmarked p a b e =
    rw (
      shape_unmarked a b e,
      filter_agree (λ m. denotes p a m) (λ m. denotes p b m) (λ m. denotes_unmarked a b e (described p m)) (moves p),
    ) refl

-- a text read as this form is read as what the denoted legal moves give: none, one or several
pub reading_denoted : (p : Setup) (text : List ℕ) (form : Form) → form_of text ≡ Some form
    → one_of (filter (λ m. is_denoted form p m) (moves p)) ≡ reading p text
unfolding reading
reading_denoted p text form e =
    let has : shape text ≡ true = shape-form text ∙ ap is_some e in
    rw has (ap one_of
    (sym (legal_agree p (λ m. denotes p text m) (λ m. is_denoted form p m)
    (λ m legal. denotes-read form text p m legal e))))

pub reading_nothing : (p : Setup) (text : List ℕ) → form_of text ≡ None → reads.NotAMove ≡ reading p text
unfolding reading
reading_nothing p text e =
    let none : shape text ≡ false = shape-form text ∙ ap is_some e in
    rw none refl

-- ---- what is read is legal

-- the first element that a filter keeps passes the test
first_kept : (test : Move → Bool) (ms : List Move) (m : Move) (rest : List Move) → filter test ms ≡ m ∷ rest
    → test m ≡ true
first_kept test [] m rest e = absurd cc
first_kept test (n ∷ ms) m rest e = by_test (λ h. first_kept test ms m rest h) (test n) refl e
  where
    by_test : (filter test ms ≡ m ∷ rest → test m ≡ true) → (t : Bool) → test n ≡ t
        → cond t (n ∷ filter test ms) (filter test ms) ≡ m ∷ rest → test m ≡ true
    by_test later true t e = let same : n ≡ m = cc in ap test (sym same) ∙ t
    by_test later false t e = later e

-- the first element that two filters keep passes the first test too
filter-again : (q t : Move → Bool) (ms : List Move) (m : Move) (rest : List Move) → filter t (filter q ms) ≡ m ∷ rest
    → q m ≡ true
filter-again q t ms m rest e =
    (and_parts (q m) (t m) (first_kept (λ x. q x && t x) ms m rest (sym (filter-both q t ms) ∙ e))).0

-- a list that is read as the move m has m alone
one_is : (ms : List Move) (m : Move) → one_of ms ≡ reads.Move m → ms ≡ m ∷ []
one_is [] m e = absurd cc
one_is (n ∷ []) m e = let same : n ≡ m = cc in ap (λ x. x ∷ []) same
one_is (n ∷ o ∷ ms) m e = absurd cc

-- a text is read as a move only if this move is legal, since only legal moves are filtered
read_legal : (p : Setup) (text : List ℕ) (m : Move) → reading p text ≡ reads.Move m → is_legal p m ≡ true
unfolding reading moves
read_legal p text m e = by_shape (shape text) refl e
  where
    by_shape : (t : Bool) → shape text ≡ t → cond t (one_of (filter (λ m. denotes p text m) (moves p))) reads.NotAMove
        ≡ reads.Move m → is_legal p m ≡ true
    by_shape true is e = filter-again (λ m. is_legal p m) (λ m. denotes p text m) all_moves m []
        (one_is (filter (λ m. denotes p text m) (moves p)) m e)
    by_shape false is e = absurd cc

pub reads_legal : (p : Setup) (text : List ℕ) (r : Reading) → r ≡ reading p text → IsLegalReading p r
reads_legal p text (reads.Move m) e = read_legal p text m (sym e)
reads_legal p text reads.Ambiguous e = tt
reads_legal p text reads.NoSuch e = tt
reads_legal p text reads.NotAMove e = tt
