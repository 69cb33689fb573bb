-- A text has a move's shape (`shape`: it denotes one of all descriptions, even of impossible moves) exactly if it names
-- castling or its parts can be those of a move's text (`has_form`): shape_is. One way, parts that fit a move can be a
-- move's; the other, for such parts a description is made that they fit (fits_by).
use Rattle.std.proofs.Common.{◌≡◌, ℕ, ◌+◌, ◌*◌, ◌<◌, inl, inr, Bool, true, false, not, ◌||◌, Option, Some, None, List, [], ◌∷◌, map, refl, sym, ap, ◌∙◌, arith, option_map, IfSome, unwrap_or}
use Rattle.std.specs.List.{AllByRecursion, flat_map}
use Rattle.std.proofs.lemmas.Bool.{and_right, or_cases, or_right, eq-eqb, both_ways}
use Rattle.chess_base.specs.{declared.man.CastlingSide.CastlingSide, declared.man.CastlingSide.TheVariants.KingSide, declared.man.CastlingSide.TheVariants.QueenSide, declared.man.Kind.Kind, MoveList.promotions, MoveList.move_of, MoveList.all_moves, Squares.file, Squares.rank, Squares.squares, declared.man.Move.Move}
use Rattle.chess_base.specs.declared.man.Kind.TheVariants.{King, Queen, Rook, Bishop, Knight, Pawn}
use Rattle.chess_text.specs.{declared.described.Described.Described, declared.parts.Parts.Parts, declared.parts.Promotion.Promotion, Parts.unmarked, Moves.denotes_described, Moves.all_described, Moves.shape, laws.CastlingTexts.is_castling_text, shared.Reader.parts_at, laws.Laws.CanPromote, laws.Laws.AreParts, laws.Laws.IsDenoted}
use Rattle.chess_text.specs.shared.Fitting.{passes, parts_text, admits, promotes_so, is_by_squares, is_by_letter, is_straight, is_by_file, parts_fit, is_form, has_parts, has_form, fits_text}
use Rattle.chess_text.proofs.Grammar.{denoted-parts, parts-denoted}
use Rattle.chess_base.proofs.shared.Men.{same_kind-self}
use Rattle.chess_text.proofs.Lists.{IsIn, promotion_in, in-flat_map, in-map, each-flat_map, each-below, found}
use Rattle.chess_moves.proofs.shared.AnyMove.{any-square}
use Rattle.chess_text.proofs.Denotations.{of, by_letter_fits, straight_fits, file_fits, passing, bool_same, denoted_so, denotes_is}

-- ---- all descriptions

-- no condition: for lists of which nothing need be known
abbrev Any : (A : Type 0) → A → Type 0
Any A x = Unit {0}

abbrev both : List Bool
both = false ∷ true ∷ []

abbrev sides : List (Option CastlingSide)
sides = None ∷ Some KingSide ∷ Some QueenSide ∷ []

abbrev kinds : List Kind
kinds = King ∷ Queen ∷ Rook ∷ Bishop ∷ Knight ∷ Pawn ∷ []

kind_in : (k : Kind) → IsIn Kind kinds k
kind_in k t e = grind (arith, e)

both_in : (b : Bool) → IsIn Bool both b
both_in b t e = grind (arith, e)

side_in : (o : Option CastlingSide) → IsIn (Option CastlingSide) sides o
side_in o t e = grind (arith, e)

-- no promotion, or one that is possible
abbrev Becomes : Option Kind → Type 0
Becomes o = IfSome o CanPromote

-- a description with these values; `with_takes`, `with_move` and `with_man` make lists of them with all choices of the
-- other values, as `all_described` is made
abbrev with_castles : Kind → Move → Bool → Option CastlingSide → Described
with_castles man m takes castles =
    record { man = man; from = m.from; to = m.to; promotion = m.promotion; captures = takes; castles = castles }

abbrev with_takes : Kind → Move → Bool → List Described
with_takes man m takes = map (with_castles man m takes) sides

abbrev with_move : Kind → Move → List Described
with_move man m = flat_map (with_takes man m) both

abbrev with_man : Kind → List Described
with_man man = flat_map (with_move man) all_moves

-- the description is of squares of the board and a possible promotion
record IsOnBoard (d : Described) : Type 0 where
  from_in : d.from < 64
  to_in : d.to < 64
  becomes : Becomes d.promotion

each_square : AllByRecursion (λ s. s < 64) squares
unfolding squares
each_square = each-below (λ s. s < 64) 64 (λ s. s) (λ k l. l)

-- ---- all moves

-- the move is between squares of the board, with a possible promotion or none
record MovesOnBoard (m : Move) : Type 0 where
  from_in : m.from < 64
  to_in : m.to < 64
  becomes : Becomes m.promotion

abbrev moves_to : ℕ → ℕ → List Move
moves_to a b = map (move_of a b) promotions

abbrev moves_from : ℕ → List Move
moves_from a = flat_map (moves_to a) squares

on_board : (a b : ℕ) (o : Option Kind) → a < 64 → b < 64 → Becomes o → MovesOnBoard (move_of a b o)
on_board a b o f t h = record { from_in = f; to_in = t; becomes = h }

-- each move in `all_moves` is on the board
each_move : AllByRecursion MovesOnBoard all_moves
unfolding all_moves
each_move =
    each-flat_map (λ s. s < 64) MovesOnBoard moves_from squares each_square
    (λ a f. each-flat_map (λ s. s < 64) MovesOnBoard (moves_to a) squares each_square (λ b t. (
      on_board a b None f t tt,
      (
        on_board a b (Some Queen) f t tt,
        (
          on_board a b (Some Rook) f t tt,
          (on_board a b (Some Bishop) f t tt, (on_board a b (Some Knight) f t tt, tt)),
        ),
      ),
    )))

-- each move on the board is in `all_moves`
move_in : (a b : ℕ) (o : Option Kind) → a < 64 → b < 64 → Becomes o → IsIn Move all_moves (move_of a b o)
unfolding all_moves
move_in a b o f t h =
    in-flat_map moves_from squares a (move_of a b o) (λ p. any-square p a f)
    (in-flat_map (moves_to a) squares b (move_of a b o) (λ p. any-square p b t)
    (in-map (move_of a b) promotions o (promotion_in o h)))

-- ---- all descriptions of them

described_on_board : (man : Kind) (m : Move) (takes : Bool) (o : Option CastlingSide) → MovesOnBoard m
    → IsOnBoard (with_castles man m takes o)
described_on_board man m takes o h = record { from_in = h.from_in; to_in = h.to_in; becomes = h.becomes }

-- each description in `all_described` is on the board
each_described : AllByRecursion IsOnBoard all_described
unfolding all_described
each_described =
    each-flat_map (Any Kind) IsOnBoard with_man kinds (tt, (tt, (tt, (tt, (tt, (tt, tt))))))
    (λ man u. each-flat_map MovesOnBoard IsOnBoard (with_move man) all_moves each_move
    (λ m h. each-flat_map (Any Bool) IsOnBoard (with_takes man m) both (tt, (tt, tt)) (λ takes v. (
      described_on_board man m takes None h,
      (
        described_on_board man m takes (Some KingSide) h,
        (described_on_board man m takes (Some QueenSide) h, tt),
      ),
    ))))

-- each description on the board is in `all_described`
described_in : (d : Described) → IsOnBoard d → IsIn Described all_described d
unfolding all_described
described_in d h =
    let m = move_of d.from d.to d.promotion in
    in-flat_map with_man kinds d.man d (kind_in d.man)
    (in-flat_map (with_move d.man) all_moves m d (move_in d.from d.to d.promotion h.from_in h.to_in h.becomes)
    (in-flat_map (with_takes d.man m) both d.captures d (both_in d.captures)
    (in-map (with_castles d.man m d.captures) sides d.castles (side_in d.castles))))

-- ---- parts that fit a move have a form

-- parts that can't be those of a move's text fit no description
pub no_form : (letter : Option Kind) (f r : Option ℕ) (takes : Bool) (to : ℕ) (promotion : Option Promotion) (d : Described)
    → is_form (of letter f r takes to promotion) ≡ false → parts_fit (of letter f r takes to promotion) d ≡ false
unfolding is_form parts_fit is_by_squares is_by_letter is_straight is_by_file
no_form (Some k) f r takes to (Some x) d e = simp (and_right)
no_form (Some k) f r takes to None d e = absurd cc
no_form None (Some n) r takes to promotion d e = absurd cc
no_form None None (Some n) takes to promotion d e = refl
no_form None None None true to promotion d e = refl
no_form None None None false to promotion d e = absurd cc

fit_form : (q : Parts) (d : Described) → parts_fit q d ≡ true → is_form q ≡ true
fit_form q d fit = by_test (is_form q) refl
  where
    by_test : (b : Bool) → is_form q ≡ b → is_form q ≡ true
    by_test true e = e
    by_test false e = absurd (both_ways (parts_fit q d)
        (no_form q.letter q.file q.rank q.takes q.end.to q.end.promotion d e) fit)

-- ---- parts of a form fit some move

abbrev kind_of : Option Promotion → Option Kind
kind_of p = option_map (λ (x : Promotion). x.kind) p

-- some description on the board that the parts q fit
record Fits (q : Parts) : Type 0 where
  d : Described
  on_board : IsOnBoard d
  fits : parts_fit q d ≡ true

-- the number, or 0 if there is none
abbrev or_zero : Option ℕ → ℕ
or_zero o = unwrap_or o 0

-- a square that has the file f and the rank r as far as they are given
abbrev start_of : Option ℕ → Option ℕ → ℕ
start_of f r = 8 * or_zero r + or_zero f

start_in : (f r : Option ℕ) → IfSome f (λ x. x < 8) → IfSome r (λ x. x < 8) → start_of f r < 64
start_in f r a b = grind arith

admits_file : (f r : Option ℕ) → IfSome f (λ x. x < 8) → IfSome r (λ x. x < 8)
    → admits f (file (start_of f r)) ≡ true
admits_file None r a b = refl
admits_file (Some x) None a b = eq-eqb x (file (8 * 0 + x)) (omega arith)
admits_file (Some x) (Some y) a b = eq-eqb x (file (8 * y + x)) (omega arith)

admits_rank : (f r : Option ℕ) → IfSome f (λ x. x < 8) → IfSome r (λ x. x < 8)
    → admits r (rank (start_of f r)) ≡ true
admits_rank f None a b = refl
admits_rank None (Some y) a b = eq-eqb y (rank (8 * y + 0)) (omega arith)
admits_rank (Some x) (Some y) a b = eq-eqb y (rank (8 * y + x)) (omega arith)

may_take : (t : Bool) → (not t || true) ≡ true
may_take t = grind arith

own_promotion : (p : Option Promotion) → promotes_so p (kind_of p) ≡ true
own_promotion None = refl
own_promotion (Some x) = same_kind-self x.kind

becomes_of : (p : Option Promotion) → IfSome p (λ x. CanPromote x.kind) → Becomes (kind_of p)
becomes_of None h = tt
becomes_of (Some x) h = h

-- possible parts that can be those of a move's text fit a description: with a letter one of its kind, otherwise a
-- pawn's, from the named start, and a capture
fits_by : (letter : Option Kind) (f r : Option ℕ) (takes : Bool) (to : ℕ) (p : Option Promotion)
    → AreParts (of letter f r takes to p) → is_form (of letter f r takes to p) ≡ true → Fits (of letter f r takes to p)
unfolding is_form
fits_by (Some k) f r takes to None h form =
    let d : Described =
    record { man = k; from = start_of f r; to = to; promotion = None; captures = true; castles = None } in
    record {
      d = d;
      on_board = record { from_in = start_in f r h.file_is h.rank_is; to_in = h.to_is; becomes = tt };
      fits = by_letter_fits d f r takes refl (admits_file f r h.file_is h.rank_is)
          (admits_rank f r h.file_is h.rank_is) (may_take takes);
    }
fits_by (Some k) f r takes to (Some x) h form = absurd cc
fits_by None (Some x) r takes to p h form =
    let d : Described =
    record { man = Pawn; from = start_of (Some x) r; to = to; promotion = kind_of p; captures = true; castles = None } in
    record {
      d = d;
      on_board = record {
        from_in = start_in (Some x) r h.file_is h.rank_is;
        to_in = h.to_is;
        becomes = becomes_of p h.promotion_is;
      };
      fits = file_fits d (Some x) r takes p refl (admits_file (Some x) r h.file_is h.rank_is)
          (admits_rank (Some x) r h.file_is h.rank_is) (may_take takes) (own_promotion p);
    }
fits_by None None (Some y) takes to p h form = absurd cc
fits_by None None None true to p h form = absurd cc
fits_by None None None false to p h form =
    let d : Described =
    record { man = Pawn; from = to; to = to; promotion = kind_of p; captures = true; castles = None } in
    record {
      d = d;
      on_board = record { from_in = h.to_is; to_in = h.to_is; becomes = becomes_of p h.promotion_is };
      fits = straight_fits d p refl (eq-eqb (file to) (file to) refl) (own_promotion p);
    }

-- ---- the shape

-- a text that names castling passes `has_form`
pub castling_has : (text : List ℕ) (w : CastlingSide) → is_castling_text text w ≡ true → has_form text ≡ true
unfolding has_form
castling_has text KingSide h = rw h refl
castling_has text QueenSide h = grind (arith, h)

-- the text of possible parts that can be those of a move's text passes `has_form`
parts_have : (text : List ℕ) (q : Parts) → AreParts q → unmarked text ≡ parts_text q → is_form q ≡ true
    → has_form text ≡ true
unfolding has_form has_parts
parts_have text q are is form =
    or_right (is_castling_text text KingSide || is_castling_text text QueenSide)
    (passes is_form (parts_at (unmarked text)))
    (ap (passes is_form) (ap parts_at is ∙ parts-denoted q are) ∙ form)

-- a text that denotes a description passes `has_form`
form_so : (text : List ℕ) (d : Described) → fits_text text d ≡ true → has_form text ≡ true
unfolding fits_text has_parts
form_so text d e =
    elim (or_cases (passes (is_castling_text text) d.castles) (passes (λ r. parts_fit r d) (parts_at (unmarked text))) e) [
      | inl h ↦ let c = passing (is_castling_text text) d.castles h in castling_has text c.0 c.2
      | inr h ↦
          let of = passing (λ r. parts_fit r d) (parts_at (unmarked text)) h in
          let is = denoted-parts (unmarked text) of.0 of.1 in
          parts_have text of.0 is.0 is.1 (fit_form of.0 d of.2)
    ]

-- a text with a move's shape passes `has_form`
has_so : (text : List ℕ) → shape text ≡ true → has_form text ≡ true
unfolding shape
has_so text e =
    let f = found IsOnBoard all_described each_described (λ d. denotes_described text d) e in
    form_so text f.0 (sym (denotes_is text f.0 f.1.from_in f.1.to_in f.1.becomes) ∙ f.2)

-- a text that denotes a description on the board has a move's shape
shaped_by : (text : List ℕ) (d : Described) → IsOnBoard d → IsDenoted text d → shape text ≡ true
unfolding shape
shaped_by text d on_board denoted =
    described_in d on_board (λ e. denotes_described text e) (denoted_so text d denoted)

-- a description of castling to side w
abbrev castling_to : CastlingSide → Described
castling_to w = record { man = King; from = 0; to = 0; promotion = None; captures = false; castles = Some w }

castling_shape : (text : List ℕ) (w : CastlingSide) → is_castling_text text w ≡ true → shape text ≡ true
castling_shape text w h =
    shaped_by text (castling_to w) (record { from_in = omega arith; to_in = omega arith; becomes = tt }) (inl (w, refl, h))

parts_shape : (text : List ℕ) (q : Parts) → AreParts q → unmarked text ≡ parts_text q → is_form q ≡ true
    → shape text ≡ true
parts_shape text q are is form =
    let f = fits_by q.letter q.file q.rank q.takes q.end.to q.end.promotion are form in
    shaped_by text f.d f.on_board (inr (q, are.letter_is, is, f.fits))

-- a text that passes `has_form` has a move's shape
shape_so : (text : List ℕ) → has_form text ≡ true → shape text ≡ true
unfolding has_form has_parts
shape_so text e =
    elim (or_cases (is_castling_text text KingSide || is_castling_text text QueenSide)
    (passes is_form (parts_at (unmarked text))) e) [
      | inl h ↦ elim (or_cases (is_castling_text text KingSide) (is_castling_text text QueenSide) h) [
        | inl g ↦ castling_shape text KingSide g
        | inr g ↦ castling_shape text QueenSide g
      ]
      | inr h ↦
          let of = passing is_form (parts_at (unmarked text)) h in
          let is = denoted-parts (unmarked text) of.0 of.1 in
          parts_shape text of.0 is.0 is.1 of.2
    ]

pub shape_is : (text : List ℕ) → shape text ≡ has_form text
shape_is text = bool_same (shape text) (has_form text) (has_so text) (shape_so text)
