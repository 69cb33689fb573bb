-- A letter in a move's text names the kind of piece with that capital letter, but never the pawn (lettered): by cases
-- of the tests for the six letters, one after another.
use Rattle.std.proofs.Common.{◌≡◌, ℕ, Bool, true, false, cond, eqb, Option, Some, None, refl, sym, ap, ◌∙◌}
use Rattle.chess_base.specs.{declared.man.Kind.Kind, Letters.kind_with_letter}
use Rattle.chess_base.specs.declared.man.Kind.TheVariants.{King, Queen, Rook, Bishop, Knight, Pawn}
use Rattle.chess_text.specs.shared.Reader.{kind_from, lettered_kinds}

-- the same kind, but none for the pawn
abbrev pub without_pawn : Option Kind → Option Kind
without_pawn None = None
without_pawn (Some King) = Some King
without_pawn (Some Queen) = Some Queen
without_pawn (Some Rook) = Some Rook
without_pawn (Some Bishop) = Some Bishop
without_pawn (Some Knight) = Some Knight
without_pawn (Some Pawn) = None

-- the tests for the six letters, one after another, without the pawn's
chosen_without : (k q r b n p : Bool)
    → without_pawn (cond k (Some King) (cond q (Some Queen) (cond r (Some Rook) (cond b (Some Bishop) (cond n
    (Some Knight) (cond p (Some Pawn) None))))))
    ≡ cond k (Some King) (cond q (Some Queen) (cond r (Some Rook) (cond b (Some Bishop) (cond n (Some Knight) None))))
chosen_without true q r b n p = refl
chosen_without false true r b n p = refl
chosen_without false false true b n p = refl
chosen_without false false false true n p = refl
chosen_without false false false false true p = refl
chosen_without false false false false false true = refl
chosen_without false false false false false false = refl

-- the kind of piece that the letter c names in a move's text, from the kind with that letter
pub lettered : (c : ℕ) (o : Option Kind) → kind_with_letter c ≡ o → without_pawn o ≡ kind_from lettered_kinds c
lettered c o e =
    ap without_pawn (sym e)
    ∙ chosen_without (eqb 75 c) (eqb 81 c) (eqb 82 c) (eqb 66 c) (eqb 78 c) (eqb 80 c)
