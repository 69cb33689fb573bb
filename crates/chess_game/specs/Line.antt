-- The positions of a game, and whether its moves are legal.
use Rattle.std.specs.Prelude.{List, [], ◌∷◌, IsTrue}
use Rattle.chess_base.specs.declared.man.Move.{Move}
use Rattle.chess_base.specs.declared.setup.Setup.{Setup}
use Rattle.chess_base.specs.Moves.{is_legal, after}

-- the positions of a game: its start, and the one after each of its moves
abbrev pub positions_of : Setup → List Move → List Setup
positions_of start [] = start ∷ []
positions_of start (m ∷ ms) = start ∷ positions_of (after start m) ms

-- the position after these moves from this start
abbrev pub position_after : Setup → List Move → Setup
position_after start [] = start
position_after start (m ∷ ms) = position_after (after start m) ms

-- from this start, each move is legal where it is made
abbrev pub IsLine : Setup → List Move → Type 0
IsLine start [] = Unit {0}
IsLine start (m ∷ ms) = IsTrue (is_legal start m) × IsLine (after start m) ms
