-- The pieces of a text that is divided after a line of moves and before a tag line are those of its two parts. The law
-- is proved as Shards.shards_are_cut.
use Rattle.pgn_verifier_laws.proofs.Shards.{shards_are_cut}
use Rattle.pgn_verifier_laws.proofs.laws.shards_are_cut.Goals as goal

pub returns : goal.returns
returns c = shards_are_cut
