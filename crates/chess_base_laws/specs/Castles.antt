-- Castling by the squares of king and rook: which move is castling, and to which side.
use Rattle.std.specs.Prelude.{◌≡◌, option_and_then}
use Rattle.chess_base.specs.declared.man.Move.{Move}
use Rattle.chess_base.specs.declared.setup.Setup.{Setup}
use Rattle.chess_base.specs.Castling.{castling, castle_of}
use Rattle.chess_base.specs.Sound.{IsSound}
use Rattle.chess_base.specs.laws.Castles.{castling_on, castling_named}

-- in position p move m castles on the side that its squares name (`castling_named`), if any, with the four squares of
-- that castling (`castling_on`)
pub record CastlesByName (p : Setup) (m : Move) : Type 0 where
  pub side : castling p m ≡ castling_named p m
  pub squares : castle_of p m ≡ option_and_then (castling_on p) (castling_named p m)

-- in each sound position each move castles on the side that its squares name, if any, with the squares of that castling
abbrev pub CastlingIsNamed : Type 0
CastlingIsNamed = (p : Setup) → (m : Move) → IsSound p → CastlesByName p m
