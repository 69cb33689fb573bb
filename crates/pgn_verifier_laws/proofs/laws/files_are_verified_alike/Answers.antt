-- A collection that is cut into files where pieces begin has the pieces of its files (by Shards), so its reports are
-- those on the files, one after another, and its counts are their sums (FilesAlike.files_alike).
use Rattle.pgn_verifier_laws.proofs.FilesAlike.{files_alike}
use Rattle.pgn_verifier_laws.proofs.laws.files_are_verified_alike.Goals as goal

pub returns : goal.returns
returns c = files_alike
