-- What `put_game` added and `finish` then wrote is the game's text (GameTexts.game_written). Any text that is laid out
-- as the game's is the same text (LaidOut.only_written), so it was written too.
use Rattle.std.proofs.Common.{rules}
use Rattle.byte_devices.specs.Devices.{Puts}
use Rattle.pgn_writer.specs.GameText.{pgn}
use Rattle.pgn_writer.proofs.{GameTexts.game_written, LaidOut.only_written}
use Rattle.pgn_writer.proofs.write.write_pgn.Goals as goal

pub returns-clause-written : goal.returns-clause-written
returns-clause-written g c =
    let put : Puts (g.W.Output.seen c.new-lines.result.writer.now) (g.W.Output.seen c.finish.new.self.writer.now)
    c.finish.result (pgn c.args.prefix.now c.args.tags.now c.args.game.now.state) =
    game_written _ _ _ c.finish.result _ _ c.args.prefix.now c.new-lines.result.prefix.now c.args.tags.now
    c.args.game.now.state c.new-lines.ensures.none c.new-lines.ensures.prefix c.in_ok-put_game.ensures.added
    c.finish.ensures.put in
    search rules

pub returns-clause-laid_out : goal.returns-clause-laid_out
returns-clause-laid_out g c = λ text is.
    rw (only_written c.args.prefix.now c.args.tags.now c.args.game.now.state text is) (returns-clause-written g c)

pub returns-in_err-put_game-clause-laid_out : goal.returns-in_err-put_game-clause-laid_out
returns-in_err-put_game-clause-laid_out g c = λ text is.
    rw (only_written c.args.prefix.now c.args.tags.now c.args.game.now.state text is) (search rules)
