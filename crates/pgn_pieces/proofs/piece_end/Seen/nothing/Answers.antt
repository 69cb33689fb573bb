-- A piece without bytes has no lines, so nothing is known of them, and what comes is cut from its first line on
-- (CutLines.cut_is).
use Rattle.std.proofs.Common.{[], refl}
use Rattle.pgn_pieces.proofs.CutLines.{cut_is}
use Rattle.pgn_pieces.proofs.piece_end.Seen.nothing.Goals as goal

pub returns : goal.returns
returns c = record {
  before = [];
  line = [];
  all = refl;
  plain = refl;
  cuts = cut_is;
  are = record { belongs = refl; moves = refl; event = refl };
  inside = refl;
}
