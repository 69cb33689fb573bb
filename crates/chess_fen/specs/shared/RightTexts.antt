-- The text of castling rights, put together letter by letter.
use Rattle.std.specs.Prelude.{ℕ, codes, List, [], ◌∷◌, Option}
use Rattle.std.specs.Option.{option_map_or}
use Rattle.chess_base.specs.declared.man.Colour.{Colour}
use Rattle.chess_base.specs.declared.man.CastlingSide.{CastlingSide}
use Rattle.chess_base.specs.declared.man.Variant.{Variant}
use Rattle.chess_fen.specs.RightNames.{right_letter}

-- the text, or a dash if it is empty
abbrev pub or_dash : List ℕ → List ℕ
or_dash [] = codes "-"
or_dash (c ∷ cs) = c ∷ cs

-- the letter of a castling right, given as its rook's square, as text; nothing if there is no right
abbrev pub right_text : Variant → Colour → CastlingSide → Option ℕ → List ℕ
right_text v c w right = option_map_or (λ s. right_letter v c w s ∷ []) right []
