-- The FEN of a sound position is ASCII, so UTF-8 (fen_is_utf8 of FenBytes): the conversion to text can't fail, and the
-- `unreachable!` isn't reached.
use Rattle.std.proofs.Common.{subst}
use Rattle.chess_base.specs.Sound.{IsSound}
use Rattle.chess_fen.proofs.FenBytes.{fen_is_utf8}
use Rattle.chess_fen.proofs.fen.fen_text.Goals as goal

pub unreachable-requires : goal.unreachable-requires
unreachable-requires c =
    let sound : IsSound c.args.position.now = subst IsSound c.setup-sound.ensures.value c.setup-sound.ensures.sound in
    c.in-Err.ensures.cases.0
    (rw (c.as_slice.ensures.value, c.write_fen-fen.ensures.text) (fen_is_utf8 c.args.position.now sound))
