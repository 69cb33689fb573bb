-- The loop's invariant: the tokens of the moves so far were put into lines (`added`), which left the line at this
-- column (`column`); prefix and writer are as before; and the scratch board is at the position after these moves.
use Rattle.std.proofs.Common.{◌≡◌, take, true}
use Rattle.chess_game.specs.Line.{position_after}
use Rattle.pgn_writer.specs.{shared.NumberedMoves.numbered_moves, shared.Lines.placed_all, shared.Lines.column_after_all, ties.Waiting.TookSome}
use Rattle.pgn_writer.proofs.write.put_moves.Given as goal

abbrev pub invariant-loop-ply : goal.invariant-loop-ply
invariant-loop-ply g l =
    let seen = g.W.Output.seen in
    let tokens = numbered_moves true l.game.state.start (take l.ply l.game.state.moves) in
    record {
      added : TookSome (seen l.fn.lines.writer.now) (seen l.lines.writer.now) l.fn.lines.waiting l.lines.waiting
          (placed_all l.fn.lines.prefix.now l.fn.lines.column tokens);
      column : l.lines.column ≡ column_after_all l.fn.lines.column tokens;
      prefix : l.lines.prefix.now ≡ l.fn.lines.prefix.now;
      writer : l.lines.writer.ghost_name ≡ l.fn.lines.writer.ghost_name;
      position : g.B.Board.position l.scratch ≡ position_after l.game.state.start (take l.ply l.game.state.moves);
    }
