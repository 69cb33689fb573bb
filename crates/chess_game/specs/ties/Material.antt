-- Kinds of pieces that the code tests together.
use Rattle.std.specs.Prelude.{Bool, ◌||◌, Option}
use Rattle.chess_base.specs.declared.man.Kind.TheVariants.{Queen, Rook, Bishop, Knight, Pawn}
use Rattle.chess_base.specs.declared.man.Man.{Man}
use Rattle.chess_game.specs.Ends.{is_kind}

-- the square's content `o` is a pawn, a rook or a queen, of either colour
abbrev pub is_pawn_rook_or_queen : Option Man → Bool
is_pawn_rook_or_queen o = is_kind Pawn o || is_kind Rook o || is_kind Queen o

-- the square's content `o` is a bishop or a knight, of either colour
abbrev pub is_minor : Option Man → Bool
is_minor o = is_kind Bishop o || is_kind Knight o
