-- In Chess960 a right that is sound or absent is read exactly from the letters that the law states (rights_named of
-- NamedRooks).
use Rattle.chess_fen_laws.proofs.NamedRooks.{rights_named}
use Rattle.chess_fen_laws.proofs.laws.rights_are_named.Goals as goal

pub returns : goal.returns
returns c = rights_named
