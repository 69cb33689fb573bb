-- A text with a move's shape that denotes one legal move alone is read as this move (read_alone). What the text of
-- parts denotes follows from the parts (denoted_parts, shape_parts), what the text of castling denotes from its side
-- (denoted_castling, shape_castling). Last, for laws: when a text denotes a legal move (denotes_move), and when moves
-- or their promotions are the same (move_is, promotes-same).
use Rattle.std.proofs.Common.{◌≡◌, ℕ, Bool, true, false, ◌||◌, List, Option, Some, None, refl, sym, ap, ◌∙◌, IfSome, option_map}
use Rattle.std.proofs.lemmas.Bool.{false_from_ne_true}
use Rattle.chess_base.specs.{declared.man.CastlingSide.CastlingSide, declared.man.CastlingSide.TheVariants.KingSide, declared.man.CastlingSide.TheVariants.QueenSide, declared.man.Kind.Kind, declared.man.Move.Move, declared.setup.Setup.Setup, Moves.is_legal}
use Rattle.chess_text.specs.{declared.described.Described.Described, declared.parts.Parts.Parts, declared.parts.Promotion.Promotion, Parts.unmarked, laws.CastlingTexts.is_castling_text, shared.Reader.parts_at, ties.Forms.same_side}
use Rattle.chess_text.specs.declared.reading.Reading.TheVariants as reads
use Rattle.chess_text.specs.laws.Laws.{DenotesAlone, AreParts, CanPromote}
use Rattle.chess_text.specs.shared.Fitting.{passes, parts_text, has_parts, is_form, parts_fit, promotes_so, has_form, fits_text}
use Rattle.chess_text.specs.Moves.{shape, denotes_described, denotes, one_of, reading}
use Rattle.chess_text.proofs.{AllMoves.only-move, CastlingTexts.IsCastling, CastlingTexts.names_side, CastlingTexts.castling_from_name, FormFacts.has-read, FormFacts.denoted_castling as castling_denoted, ShapeByForm.shape_is, Denotations.denotes_is, Grammar.parts-denoted, Legal.IsMove, Legal.described_as, Legal.described_is}
use Rattle.chess_base.proofs.shared.Men.{same_kind-self, same_kind-true}

-- ---- what is read

-- a text that denotes a legal move alone is read as it
pub read_alone : (p : Setup) (text : List ℕ) (m : Move) → is_legal p m ≡ true → shape text ≡ true → DenotesAlone p text m
    → reading p text ≡ reads.Move m
unfolding reading
read_alone p text m legal is alone = rw is (ap one_of (only-move p (λ n. denotes p text n) m legal alone.0 alone.1))

-- ---- the text of parts

-- a text that can be read as parts doesn't name castling to any side
pub no_name : (text : List ℕ) (q : Parts) → parts_at text ≡ Some q → (w : CastlingSide) → names_side text w ≡ false
no_name text q e w = false_from_ne_true (names_side text w)
    (λ named. let none = (castling_from_name text w named).no_parts in cc)

no_side : (text : List ℕ) (q : Parts) → parts_at text ≡ Some q → (o : Option CastlingSide)
    → passes (names_side text) o ≡ false
no_side text q e None = refl
no_side text q e (Some w) = no_name text q e w

-- a text that is the text of possible parts, but for its marks, is read as these parts
read_parts : (text : List ℕ) (q : Parts) → unmarked text ≡ parts_text q → AreParts q → parts_at (unmarked text) ≡ Some q
read_parts text q e h = ap parts_at e ∙ parts-denoted q h

-- a text that is the text of possible parts q, but for its marks, denotes a described move exactly if q fit it
pub denoted_parts : (text : List ℕ) (q : Parts) (d : Described) → unmarked text ≡ parts_text q → AreParts q
    → fits_text text d ≡ parts_fit q d
unfolding fits_text is_castling_text
denoted_parts text q d e h =
    let at = read_parts text q e h in
    ap (λ t. t || has_parts (λ r. parts_fit r d) text) (no_side (unmarked text) q at d.castles)
    ∙ has-read (λ r. parts_fit r d) text ∙ ap (passes (λ r. parts_fit r d)) at

-- a text that is the text of possible parts q, but for its marks, passes `has_form` if q can be those of a move's text
form_parts : (text : List ℕ) (q : Parts) → unmarked text ≡ parts_text q → AreParts q → is_form q ≡ true
    → has_form text ≡ true
unfolding has_form is_castling_text
form_parts text q e h form =
    let at = read_parts text q e h in
    let king = no_name (unmarked text) q at KingSide in
    let queen = no_name (unmarked text) q at QueenSide in
    rw (king, queen) (has-read is_form text ∙ ap (passes is_form) at ∙ form)

pub shape_parts : (text : List ℕ) (q : Parts) → unmarked text ≡ parts_text q → AreParts q → is_form q ≡ true
    → shape text ≡ true
shape_parts text q e h form = shape_is text ∙ form_parts text q e h form

-- ---- the text of castling

-- a text of castling to side w denotes a move exactly if it castles to w
pub denoted_castling : (text : List ℕ) (w : CastlingSide) (d : Described) → IsCastling (unmarked text) w
    → fits_text text d ≡ passes (same_side w) d.castles
unfolding fits_text is_castling_text
denoted_castling text w d h = ap (λ t. passes (is_castling_text text) d.castles || t) (has-read (λ q. parts_fit q d) text)
    ∙ castling_denoted (unmarked text) w d h

form_castling : (text : List ℕ) (w : CastlingSide) → IsCastling (unmarked text) w → has_form text ≡ true
unfolding has_form is_castling_text
form_castling text KingSide h = rw (h.names KingSide) refl
form_castling text QueenSide h = rw (h.names KingSide, h.names QueenSide) refl

pub shape_castling : (text : List ℕ) (w : CastlingSide) → IsCastling (unmarked text) w → shape text ≡ true
shape_castling text w h = shape_is text ∙ form_castling text w h

-- ---- of a legal move

-- a text denotes a legal move exactly if it passes `fits_text` for the move's description
pub denotes_move : (p : Setup) (text : List ℕ) (m : Move) (h : IsMove p m)
    → denotes p text m ≡ fits_text text (described_as p m h.man)
unfolding denotes
denotes_move p text m h =
    ap (passes (denotes_described text)) (described_is p m h)
    ∙ denotes_is text (described_as p m h.man) h.from_in h.to_in h.promotion_is

-- moves with the same squares and promotion are equal
pub move_is : (n m : Move) → n.from ≡ m.from → n.to ≡ m.to → n.promotion ≡ m.promotion → n ≡ m
move_is n m a b k =
    ap (λ (s : ℕ). let v : Move = record { from = s; to = n.to; promotion = n.promotion } in v) a
    ∙ ap (λ (s : ℕ). let v : Move = record { from = m.from; to = s; promotion = n.promotion } in v) b
    ∙ ap (λ (o : Option Kind). let v : Move = record { from = m.from; to = m.to; promotion = o } in v) k

-- the promotion to o, if there is one, as a part: with `=` or not, in a small letter or not
abbrev pub written : Bool → Bool → Option Kind → Option Promotion
written equals small o = option_map (λ k. record { kind = k; equals = equals; small = small }) o

pub promotion_part : (equals small : Bool) (o : Option Kind) → IfSome o CanPromote
    → IfSome (written equals small o) (λ p. CanPromote p.kind)
promotion_part equals small None h = tt
promotion_part equals small (Some k) h = h

pub promotes-self : (equals small : Bool) (o : Option Kind) → promotes_so (written equals small o) o ≡ true
promotes-self equals small None = refl
promotes-self equals small (Some k) = same_kind-self k

-- if what is written for the promotion o agrees with the promotion n, they are the same
pub promotes-same : (equals small : Bool) (o n : Option Kind) → promotes_so (written equals small o) n ≡ true → n ≡ o
promotes-same equals small None None e = refl
promotes-same equals small None (Some k) e = absurd cc
promotes-same equals small (Some k) None e = absurd cc
promotes-same equals small (Some k) (Some l) e = ap Some (sym (same_kind-true k l e))
