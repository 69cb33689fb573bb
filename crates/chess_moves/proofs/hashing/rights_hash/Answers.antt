-- The exclusive or of the four rights' parts (a key, or 0 without the right) is that of the list of all rights' keys
-- (rights_apart of PositionHash).
use Rattle.std.proofs.Common.{sym}
use Rattle.chess_moves.proofs.shared.PositionHash.{rights_apart}
use Rattle.chess_moves.proofs.hashing.rights_hash.Goals as goal

pub returns : goal.returns
returns g c =
    rw (
      c.right_hash-white_king_side.ensures,
      c.right_hash-white_queen_side.ensures,
      c.right_hash-black_king_side.ensures,
      c.right_hash-black_queen_side.ensures,
    ) (sym (rights_apart c.args.rights.now))
