-- By the invariant the moves so far were put, and the scratch board is at the position after them. The game's next move
-- is legal there (GameTexts.legal_next), and once it is put, all moves up to it were (moves_put), with the line's
-- column and the position after them (columns_more, positions_more). If the writer fails at this move, it took a
-- beginning of the text of all moves (moves_broke).
use Rattle.std.proofs.Common.{refl, ◌∙◌}
use Rattle.pgn_writer.proofs.Added.{adds_exit}
use Rattle.pgn_writer.proofs.GameTexts.{legal_next, IsNext, moves_put, moves_broke, columns_more, positions_more}
use Rattle.pgn_writer.proofs.write.put_moves.Goals as goal

pub put_move-requires : goal.put_move-requires
put_move-requires g c =
    let s = c.args.game.now.state in
    rw c.loop-ply.invariant.position (legal_next s.start s.moves c.loop-ply.ply c.move_at.result
    c.position-playable.ensures.playable.line c.move_at.ensures)

pub returns-in_err-put_move-clause-added : goal.returns-in_err-put_move-clause-added
returns-in_err-put_move-clause-added g c =
    let l = c.loop-ply in
    let s = c.args.game.now.state in
    adds_exit _ _ c.from_residual.result _ _ _
    (moves_broke _ _ _ _ _ c.args.lines.now.prefix.now l.lines.prefix.now c.args.lines.now.column l.lines.column s.start
    (g.B.Board.position l.scratch) s.moves l.ply _ c.move_at.result
    (record {
      prefix_is = l.invariant.prefix;
      column_is = l.invariant.column;
      first = refl;
      position = l.invariant.position;
      move = c.move_at.ensures;
    })
    l.invariant.added c.in_err-put_move.ensures.added)
    c.from_residual.ensures.0

pub loop-ply-preserved : goal.loop-ply-preserved
loop-ply-preserved g c =
    let l = c.loop-ply in
    let s = c.args.game.now.state in
    let next : IsNext c.args.lines.now.prefix.now c.args.lines.now.column s.start s.moves l.ply l.lines.prefix.now
    l.lines.column _ (g.B.Board.position l.scratch) c.move_at.result =
    record {
      prefix_is = l.invariant.prefix;
      column_is = l.invariant.column;
      first = refl;
      position = l.invariant.position;
      move = c.move_at.ensures;
    } in
    record {
      added = moves_put _ _ _ _ _ _ c.args.lines.now.prefix.now l.lines.prefix.now c.args.lines.now.column
          l.lines.column s.start (g.B.Board.position l.scratch) s.moves l.ply _ c.move_at.result next l.invariant.added
          c.in_ok-put_move.ensures.added;
      column = columns_more c.args.lines.now.prefix.now l.lines.prefix.now c.args.lines.now.column l.lines.column _
          s.start (g.B.Board.position l.scratch) s.moves l.ply _ c.move_at.result next c.in_ok-put_move.ensures.column;
      prefix = c.in_ok-put_move.ensures.kept.prefix ∙ l.invariant.prefix;
      writer = c.in_ok-put_move.ensures.kept.writer ∙ l.invariant.writer;
      position = positions_more s.start (g.B.Board.position l.scratch) _ s.moves l.ply c.move_at.result
          l.invariant.position c.move_at.ensures c.in_ok-put_move.ensures.position;
    }
