-- Which texts are castling to a side, for a law about the parts of texts.
use Rattle.std.specs.Prelude.{ℕ, Bool, List}
use Rattle.std.specs.List.{list_any}
use Rattle.std.specs.Str.{bytes_eq}
use Rattle.chess_base.specs.declared.man.CastlingSide.{CastlingSide}
use Rattle.chess_text.specs.Moves.{castling_texts}
use Rattle.chess_text.specs.Parts.{unmarked}

-- the text, but for the marks (+ # ! ?) at its end, is castling to side w: O-O or 0-0 on the king's side, O-O-O or
-- 0-0-0 on the queen's
unfoldable pub is_castling_text : List ℕ → CastlingSide → Bool
is_castling_text text w = list_any (bytes_eq (unmarked text)) (castling_texts w)
