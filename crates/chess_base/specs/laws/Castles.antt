-- Castling by the squares of king and rook: which move names it.
use Rattle.std.specs.Prelude.{ℕ, ◌==◌, Bool, false, ◌&&◌, Option, [], ◌∷◌, option_and_then, find}
use Rattle.std.specs.Option.{option_map, option_map_or}
use Rattle.chess_base.specs.declared.castling.Castle.{Castle}
use Rattle.chess_base.specs.declared.man.CastlingSide.{CastlingSide}
use Rattle.chess_base.specs.declared.man.CastlingSide.TheVariants.{KingSide, QueenSide}
use Rattle.chess_base.specs.declared.man.Move.{Move}
use Rattle.chess_base.specs.declared.man.Variant.{Variant}
use Rattle.chess_base.specs.declared.man.Variant.TheVariants.{Normal, Fischerandom}
use Rattle.chess_base.specs.declared.setup.Setup.{Setup}
use Rattle.chess_base.specs.Castling.{right_of, king_square, castle_from}

-- the four squares of castling on side w, by the side on move: where its king and the rook of its right are, and where
-- they go; none without the right, or without a king
abbrev pub castling_on : Setup → CastlingSide → Option Castle
castling_on p w = option_and_then
    (λ rook. option_map (λ king. castle_from p.side w king rook) (king_square p.men p.side))
    (right_of p.rights p.side w)

-- the end square by which a move names castling k: in normal chess the king's (e1g1), in Chess960 the rook's start
-- square (e1h1)
abbrev pub named_square : Variant → Castle → ℕ
named_square Normal k = k.king_to
named_square Fischerandom k = k.rook_from

-- move m is castling k: it starts on the king's square, and its end square names k
abbrev pub is_castling_by : Variant → Move → Castle → Bool
is_castling_by v m k = (k.king_from == m.from) && (named_square v k == m.to)

-- the side on which move m castles, by the squares of king and rook (`is_castling_by`); the king side if both fit, none
-- if neither does
unfoldable pub castling_named : Setup → Move → Option CastlingSide
castling_named p m =
    find (λ w. option_map_or (is_castling_by p.variant m) (castling_on p w) false) (KingSide ∷ QueenSide ∷ [])
