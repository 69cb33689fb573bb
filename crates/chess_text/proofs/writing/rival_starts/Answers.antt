-- The rivals begin on the squares from which a piece of this kind has a legal move to the move's end square, without
-- the move's own start (rivals of proofs/Rivals).
use Rattle.chess_text.proofs.Rivals.{rivals}
use Rattle.chess_text.proofs.writing.rival_starts.Goals as goal

pub returns : goal.returns
returns g c =
    rivals (g.B.Board.position c.args.board.now) c.args.d.now c.legal_starts-starts.result c.single.result c.without.result
    c.requires c.legal_starts-starts.ensures c.single.ensures.value c.without.ensures
