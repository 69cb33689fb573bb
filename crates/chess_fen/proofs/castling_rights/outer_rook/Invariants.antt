-- The loop's invariant: the outermost rook among the files that are left is the outermost of all.
use Rattle.std.proofs.Common.{◌≡◌}
use Rattle.chess_fen.specs.{ties.Reader.outer_rook, ties.Loops.rook_among}
use Rattle.chess_fen.proofs.castling_rights.outer_rook.Given as goal

abbrev pub invariant-loop-left : goal.invariant-loop-left
invariant-loop-left l = rook_among l.men l.colour l.castling_side l.left ≡ outer_rook l.men l.colour l.castling_side
