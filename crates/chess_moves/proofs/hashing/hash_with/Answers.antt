-- The result is the position's hash: the exclusive or of three parts, that of the pieces' keys (given as `of_men`), the
-- side's and the rights' (hash_apart of PositionHash).
use Rattle.std.proofs.Common.{sym}
use Rattle.chess_moves.proofs.shared.PositionHash.{hash_apart}
use Rattle.chess_moves.proofs.hashing.hash_with.Goals as goal

pub returns : goal.returns
returns g c =
    let p = c.args.setup.now in
    rw (c.requires, c.side_hash.ensures, c.rights_hash.ensures) (sym (hash_apart p.men p.side p.rights))
