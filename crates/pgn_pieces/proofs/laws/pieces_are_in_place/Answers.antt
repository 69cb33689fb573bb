-- The bytes of each piece of a text are at its offset, where a line begins, and this line's number is one more than the
-- line ends in the pieces before. The law is proved as InPlace.in_place.
use Rattle.pgn_pieces.proofs.InPlace.{in_place}
use Rattle.pgn_pieces.proofs.laws.pieces_are_in_place.Goals as goal

pub returns : goal.returns
returns c = in_place
