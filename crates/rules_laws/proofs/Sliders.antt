-- A rook, bishop and queen of either colour on d4 of the known board could capture just on the squares that the
-- diagrams mark, by computation: the test of each square is computed, with the ways between squares unfolded.
use Rattle.std.proofs.Common.{refl}
use Rattle.chess_base.specs.{Attacks.is_clear, Attacks.could_capture, Squares.each_square, Squares.squares, Squares.is_between}
use Rattle.rules_laws.specs.Sliders.{DiagramsHold}

pub diagrams_hold : DiagramsHold
unfolding could_capture is_clear each_square squares is_between
diagrams_hold c = record { rook = refl; bishop = refl; queen = refl }
