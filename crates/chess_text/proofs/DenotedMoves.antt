-- All moves that a form denotes end on one square, `end_square` (denoted_ends): parts name it, and castling to a side
-- has one. So the legal moves that it denotes are found by trying, from each square, only the moves to that one
-- (all_denoted): any other move in the list of all moves isn't denoted.
use mathlib.Core.Bool.{and_comm}
use Rattle.std.proofs.Common.{◌≡◌, ◌≢◌, ℕ, ◌≤◌, Bool, true, false, ◌&&◌, Option, Some, None, map, refl, sym, ap, ◌∙◌, arith, filter, flat_map}
use Rattle.std.proofs.{lemmas.Bool.and_parts, lemmas.Bool.false_from_ne_true, lemmas.List.Elements.filter_agree, Math.Path.fun_ext}
use Rattle.chess_base.specs.{declared.man.CastlingSide.CastlingSide, declared.man.CastlingSide.TheVariants.KingSide, declared.man.CastlingSide.TheVariants.QueenSide, declared.man.Man.Man, declared.man.Move.Move, declared.setup.Setup.Setup, Men.man_at, Moves.is_legal, Castling.right_of, Squares.squares}
use Rattle.chess_base.specs.MoveList.{promotions, move_of, all_moves, moves}
use Rattle.chess_moves.proofs.shared.MovesBySquares.{filter-flat_map}
use Rattle.chess_text.specs.{shared.Fitting.passes, declared.form.Form.Form, declared.form.Form.TheVariants.Castling, declared.form.Form.TheVariants.Piece, Moves.described}
use Rattle.chess_text.specs.ties.Forms.{same_side, form_fits, is_denoted, castling_end, end_square, denoted_with}
use Rattle.chess_text.proofs.Denotations.{facts, passing}
use Rattle.chess_text.proofs.AllMoves.{filter-both, none-kept, kept, alone-square}
use Rattle.chess_text.proofs.Legal.{described_by, castling_says, names_end, legal_move}

-- ---- where a denoted move ends

pub same_side-true : (v w : CastlingSide) → same_side v w ≡ true → v ≡ w
same_side-true KingSide KingSide h = refl
same_side-true QueenSide QueenSide h = refl
same_side-true KingSide QueenSide h = cc
same_side-true QueenSide KingSide h = cc

-- a move that the form denotes ends on the form's end square, by the piece on its start square (o): parts name their
-- end square, and castling to a side ends on one
form_ends : (form : Form) (p : Setup) (m : Move) (o : Option Man) → passes (form_fits form) (described_by p m o) ≡ true
    → m.to ≡ end_square form p
form_ends form p m None h = cc
form_ends (Piece q) p m (Some x) h = sym (facts q _ h).to_is
form_ends (Castling w) p m (Some x) h =
    let c = passing (same_side w) _ h in
    names_end p.variant p.side m c.0 (right_of p.rights p.side c.0) (castling_says p m c.0 c.1).1
    ∙ ap (λ v. castling_end p.variant p.side v (right_of p.rights p.side v)) (sym (same_side-true w c.0 c.2))

-- each move that the form denotes, legal or not, ends on the form's end square
pub denoted_ends : (form : Form) (p : Setup) (m : Move) → is_denoted form p m ≡ true → m.to ≡ end_square form p
unfolding is_denoted described
denoted_ends form p m h = form_ends form p m (man_at p.men m.from) h

-- ---- all of them

-- m is legal, and the form denotes it
abbrev fit : Form → Setup → Move → Bool
fit form p m = is_denoted form p m && is_legal p m

-- a move to another square than the form's end square isn't denoted
not_fit : (form : Form) (p : Setup) (m : Move) → m.to ≢ end_square form p → fit form p m ≡ false
not_fit form p m away =
    false_from_ne_true (fit form p m)
    (λ h. away (denoted_ends form p m (and_parts (is_denoted form p m) (is_legal p m) h).0))

-- a move to a number that is no square isn't legal
not_legal : (form : Form) (p : Setup) (m : Move) → 64 ≤ m.to → fit form p m ≡ false
not_legal form p m past =
    false_from_ne_true (fit form p m)
    (λ h. let legal = legal_move p m (and_parts (is_denoted form p m) (is_legal p m) h).1 in let below = legal.to_in in
    omega (arith, below, past))

-- of all moves from square a, those that are denoted and legal are those to the form's end square
from_one : (form : Form) (p : Setup) (a : ℕ) → filter (fit form p) (flat_map (λ b. map (move_of a b) promotions) squares)
    ≡ denoted_with form p a (end_square form p) promotions
from_one form p a =
    filter-flat_map (fit form p) (λ b. map (move_of a b) promotions) squares
    ∙ alone-square (λ b. kept (fit form p) a b) (end_square form p)
    (λ b away. none-kept (fit form p) a b (λ k. not_fit form p (move_of a b k) away))
    (λ past. none-kept (fit form p) a (end_square form p) (λ k. not_legal form p (move_of a (end_square form p) k) past))

-- the denoted legal moves are found by trying, from each square, only moves to the form's end square
pub all_denoted : (form : Form) (p : Setup)
    → flat_map (λ a. denoted_with form p a (end_square form p) promotions) squares
    ≡ filter (λ m. is_denoted form p m) (moves p)
unfolding moves all_moves
all_denoted form p =
    sym (filter-both (λ m. is_legal p m) (λ m. is_denoted form p m) all_moves
    ∙ filter_agree (λ m. is_legal p m && is_denoted form p m) (fit form p)
    (λ m. and_comm (is_legal p m) (is_denoted form p m)) all_moves
    ∙ filter-flat_map (fit form p) (λ a. flat_map (λ b. map (move_of a b) promotions) squares) squares
    ∙ ap (λ f. flat_map f squares) (fun_ext (from_one form p)))
