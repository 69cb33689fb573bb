-- If `read_pgn` found a game without a fault, or none, the same answer and game are read without the two draws of 2014
-- (PastDraws.alike_answer, stands_alike). After a fault `read_again` answers, whose contract asks for what `read_pgn`
-- has read (PastDraws.read_of_most).
use Rattle.std.proofs.Common.{◌∙◌, Err, None, Ok, Some, ap, length, refl, sym}
use Rattle.chess_game.specs.Game.{State}
use Rattle.chess_pgn.proofs.PastDraws.{alike_answer, read_of_most, stands_alike}
use Rattle.chess_pgn.proofs.past_draws.read_past_draws.Goals as goal

pub returns-in-Ok-None-clause-answer : goal.returns-in-Ok-None-clause-answer
returns-in-Ok-None-clause-answer g c =
    let text = c.args.text.now in
    let read = read_of_most text c.args.at (Ok None) c.args.game.now c.read_pgn.new.game c.requires.limit
    (rw c.in-Ok-None.field-0-is at c.in-Ok-None.ensures.answer) c.in-Ok-None.ensures.game in
    sym (alike_answer text c.args.at (Ok None) c.read_pgn.new.game.state read.0 read.1 refl).0

pub returns-in-Ok-None-clause-game : goal.returns-in-Ok-None-clause-game
returns-in-Ok-None-clause-game g c =
    let text = c.args.text.now in
    let read = read_of_most text c.args.at (Ok None) c.args.game.now c.read_pgn.new.game c.requires.limit
    (rw c.in-Ok-None.field-0-is at c.in-Ok-None.ensures.answer) c.in-Ok-None.ensures.game in
    stands_alike text c.args.at c.read_pgn.new.game.state
    (alike_answer text c.args.at (Ok None) c.read_pgn.new.game.state read.0 read.1 refl).1

pub returns-in-Ok-Some-clause-answer : goal.returns-in-Ok-Some-clause-answer
returns-in-Ok-Some-clause-answer g c =
    let text = c.args.text.now in
    let read = read_of_most text c.args.at (Ok (Some c.in-Ok-Some.end)) c.args.game.now c.read_pgn.new.game
    c.requires.limit (rw c.in-Ok-Some.field-0-is at c.in-Ok-Some.ensures.answer) c.in-Ok-Some.ensures.game in
    let alike = alike_answer text c.args.at (Ok (Some c.in-Ok-Some.end)) c.read_pgn.new.game.state read.0 read.1
    refl in (
      sym alike.0,
      c.start.ensures ∙ ap (λ (s : State). s.start) alike.1,
      c.ply.ensures ∙ ap (λ (s : State). length s.moves) alike.1,
    )

pub returns-in-Ok-Some-clause-game : goal.returns-in-Ok-Some-clause-game
returns-in-Ok-Some-clause-game g c =
    let text = c.args.text.now in
    let read = read_of_most text c.args.at (Ok (Some c.in-Ok-Some.end)) c.args.game.now c.read_pgn.new.game
    c.requires.limit (rw c.in-Ok-Some.field-0-is at c.in-Ok-Some.ensures.answer) c.in-Ok-Some.ensures.game in
    stands_alike text c.args.at c.read_pgn.new.game.state
    (alike_answer text c.args.at (Ok (Some c.in-Ok-Some.end)) c.read_pgn.new.game.state read.0 read.1 refl).1

pub read_again-requires-clause-fault : goal.read_again-requires-clause-fault
read_again-requires-clause-fault g c =
    sym (read_of_most c.args.text.now c.args.at (Err c.in-Err.fault) c.args.game.now c.read_pgn.new.game
    c.requires.limit c.in-Err.ensures.answer c.in-Err.ensures.game).0

pub read_again-requires-clause-game : goal.read_again-requires-clause-game
read_again-requires-clause-game g c =
    (read_of_most c.args.text.now c.args.at (Err c.in-Err.fault) c.args.game.now c.read_pgn.new.game c.requires.limit
    c.in-Err.ensures.answer c.in-Err.ensures.game).1
