-- By definition the pieces of a text are those still to come before anything is read, so both sides compute alike.
use Rattle.std.proofs.Common.{refl}
use Rattle.pgn_pieces.specs.Stream.{pieces}
use Rattle.pgn_pieces.proofs.laws.pieces_are_cut.Goals as goal

pub returns : goal.returns
unfolding pieces
returns c ended text = refl
