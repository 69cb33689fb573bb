-- The type's invariant: the SAN of a legal move of a sound position is ASCII (san_is_ascii of SanAscii).
use Rattle.std.proofs.Common.{subst, sym, IsAscii}
use Rattle.chess_text.proofs.SanAscii.{san_is_ascii}
use Rattle.chess_text.proofs.san_text.San.of.Goals as goal

pub invariant_of-result : goal.invariant_of-result
invariant_of-result g c =
    subst IsAscii (sym c.san.ensures.text) (san_is_ascii (g.B.Board.position c.args.board.now) c.args.m c.setup-sound.ensures.sound c.requires)
