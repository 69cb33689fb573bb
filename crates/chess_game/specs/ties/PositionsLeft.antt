-- The positions that an iterator over a game's positions has left.
use Rattle.std.specs.Prelude.{List, ◌∷◌, map, Option, None, Some}
use Rattle.std.specs.Borrow.{Bor}
use Rattle.chess_base.specs.declared.setup.Setup.{Setup}
use Rattle.chess_game.specs.declared.game.PlayedMove.{PlayedMove}

-- the positions that the played moves reached
abbrev pub positions_reached : List PlayedMove → List Setup
positions_reached played_moves = map (λ x. x.reached.position) played_moves

-- the start, if it was not returned yet, and then the positions that the other played moves reached
abbrev pub positions_left : Option (Bor Setup) → List PlayedMove → List Setup
positions_left None played_moves = positions_reached played_moves
positions_left (Some start) played_moves = start.now ∷ positions_reached played_moves
