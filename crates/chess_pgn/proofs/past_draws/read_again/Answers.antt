-- The code's test (`is_past_draw`) says whether reading stopped at a move after one of the two draws of 2014
-- (PastDraws.is_past). If it did, `read_anew` is called as its contract asks; if not, the same answer and game are read
-- without these draws (PastDraws.alike_answer, stands_alike).
use Rattle.std.proofs.Common.{◌∙◌, Err, sym, true}
use Rattle.chess_game.specs.declared.game.TheConstants.{MOST_MOVES}
use Rattle.chess_pgn.specs.GameRead.{pgn_read}
use Rattle.chess_pgn.proofs.PastDraws.{alike_answer, is_past, stands_alike}
use Rattle.chess_pgn.proofs.past_draws.read_again.Goals as goal

pub read_anew-requires-clause-past : goal.read_anew-requires-clause-past
read_anew-requires-clause-past g c =
    is_past (pgn_read true MOST_MOVES c.args.text.now c.args.at) c.args.fault c.args.game.now.state
    c.is_past_draw.result c.requires.fault c.requires.game c.is_past_draw.ensures ∙ c.if-is_past_draw.true

pub returns-clause-answer : goal.returns-clause-answer
returns-clause-answer g c =
    sym (alike_answer c.args.text.now c.args.at (Err c.args.fault) c.args.game.now.state (sym c.requires.fault)
    c.requires.game (sym c.is_past_draw.ensures ∙ c.if-is_past_draw.false)).0

pub returns-clause-game : goal.returns-clause-game
returns-clause-game g c =
    stands_alike c.args.text.now c.args.at c.args.game.now.state
    (alike_answer c.args.text.now c.args.at (Err c.args.fault) c.args.game.now.state (sym c.requires.fault)
    c.requires.game (sym c.is_past_draw.ensures ∙ c.if-is_past_draw.false)).1
