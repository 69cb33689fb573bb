-- Of the moves from a to b that a form denotes, those that are legal all promote if a pawn would promote there
-- (all_promote), and otherwise none does (none_promotes). So the reader tries only these. Both follow from the same
-- facts of all legal moves from a to b, by lemmas in chess_moves; the denoted ones are a filter of these.
use Rattle.std.proofs.Common.{◌≡◌, ℕ, true, false, ◌&&◌, Option, Some, None, List, [], ◌∷◌, map, sym, ap, ◌∙◌, filter}
use Rattle.chess_base.specs.{declared.man.Kind.Kind, declared.setup.Setup.Setup, Moves.is_legal, MoveList.promotions, MoveList.move_of}
use Rattle.chess_base.specs.declared.man.Kind.TheVariants.{Queen, Rook, Bishop, Knight}
use Rattle.chess_moves.specs.{shared.MovesBySquares.moves_with, shared.MovesBySquares.moves_between, Promoting.would_promote}
use Rattle.chess_moves.proofs.shared.MovesBySquares as parts
use Rattle.chess_text.specs.{declared.form.Form.Form, ties.Forms.is_denoted, ties.Forms.denoted_with}
use mathlib.Core.Bool.{and_comm}
use Rattle.std.proofs.lemmas.List.Elements.{filter_agree}
use Rattle.chess_text.proofs.AllMoves.{filter-both}

-- the denoted legal moves from a to b are the legal ones, filtered by what the form denotes
of_legal : (form : Form) (p : Setup) (a b : ℕ) (ks : List (Option Kind))
    → denoted_with form p a b ks ≡ filter (λ m. is_denoted form p m) (moves_with p a b ks)
of_legal form p a b ks =
    filter_agree (λ m. is_denoted form p m && is_legal p m) (λ m. is_legal p m && is_denoted form p m)
    (λ m. and_comm (is_denoted form p m) (is_legal p m)) (map (move_of a b) ks)
    ∙ sym (filter-both (λ m. is_legal p m) (λ m. is_denoted form p m) (map (move_of a b) ks))

pub all_promote : (form : Form) (p : Setup) (a b : ℕ) → would_promote p a b ≡ true
    → denoted_with form p a b (Some Queen ∷ Some Rook ∷ Some Bishop ∷ Some Knight ∷ []) ≡ denoted_with form p a b
    promotions
unfolding moves_between
all_promote form p a b e =
    of_legal form p a b parts.promoting ∙ ap (filter (λ m. is_denoted form p m)) (sym (parts.all_promote p a b e))
    ∙ sym (of_legal form p a b promotions)

pub none_promotes : (form : Form) (p : Setup) (a b : ℕ) → would_promote p a b ≡ false
    → denoted_with form p a b (None ∷ []) ≡ denoted_with form p a b promotions
unfolding moves_between
none_promotes form p a b n =
    of_legal form p a b (None ∷ []) ∙ ap (filter (λ m. is_denoted form p m)) (sym (parts.none_promotes p a b n))
    ∙ sym (of_legal form p a b promotions)
