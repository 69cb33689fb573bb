-- The move that a text denotes by coordinates, as code reads it from the front.
use Rattle.std.specs.Prelude.{ℕ, ◌==◌, List, [], ◌∷◌, Option, Some, None, find, option_and_then}
use Rattle.std.specs.Option.{option_map}
use Rattle.chess_base.specs.declared.man.Colour.TheVariants.{Black}
use Rattle.chess_base.specs.declared.man.Kind.{Kind}
use Rattle.chess_base.specs.declared.man.Kind.TheVariants.{Queen, Rook, Bishop, Knight}
use Rattle.chess_base.specs.declared.man.Move.{Move}
use Rattle.chess_base.specs.Letters.{letter_by, square_with_letters}
use Rattle.chess_base.specs.MoveList.{move_of}

-- the kind of piece that a pawn becomes by this small letter, one of `qrbn`; none for any other byte
abbrev pub promotion_with_letter : ℕ → Option Kind
promotion_with_letter c = find (λ k. letter_by Black k == c) (Queen ∷ Rook ∷ Bishop ∷ Knight ∷ [])

-- the promotion that the text after the two squares denotes: `Some None` if it is empty, a kind by its small letter;
-- `None` for any other text
abbrev pub promotion_of_text : List ℕ → Option (Option Kind)
promotion_of_text [] = Some None
promotion_of_text (c ∷ []) = option_map Some (promotion_with_letter c)
promotion_of_text (c ∷ d ∷ cs) = None

-- the move with this coordinate text, if there is one
abbrev pub move_of_text : List ℕ → Option Move
move_of_text (a ∷ b ∷ c ∷ d ∷ rest) =
    option_and_then (λ from. option_and_then (λ to. option_map (move_of from to) (promotion_of_text rest))
    (square_with_letters c d)) (square_with_letters a b)
move_of_text _ = None
