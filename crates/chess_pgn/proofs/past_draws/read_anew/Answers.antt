-- The moves are read again from where the tags end, from the same start and with the same tag Termination. If they can
-- be read, this is what is read without the two draws (PastDraws.anew_read); so is their fault, if not
-- (PastDraws.anew_failed).
use Rattle.std.proofs.Common.{◌∙◌, ap}
use Rattle.std.proofs.lemmas.Result.{err_from_is_err_and}
use Rattle.chess_game.specs.Game.{State}
use Rattle.chess_pgn.proofs.PastDraws.{anew_read, anew_failed}
use Rattle.chess_pgn.proofs.past_draws.read_anew.Goals as goal

pub returns-clause-answer : goal.returns-clause-answer
returns-clause-answer g c =
    let mark = c.after_byte_order_mark-first.ensures.offset in
    let begins = ap (λ (s : State). s.start) c.requires.game in
    (anew_read c.args.text.now c.args.at c.after_tags-moves_begin.result c.start-begin.result
    c.tagged_termination-termination.result c.requires.past (c.start-begin.ensures ∙ begins)
    (rw mark at c.after_tags-moves_begin.ensures.passed) (rw mark at c.tagged_termination-termination.ensures)
    c.in_ok-end.end c.in_ok-end.plies c.read_moves.new.game.state c.start-start.result
    (c.start-start.ensures ∙ begins) c.in_ok-end.ensures.read).0

pub returns-clause-game : goal.returns-clause-game
returns-clause-game g c =
    let mark = c.after_byte_order_mark-first.ensures.offset in
    let begins = ap (λ (s : State). s.start) c.requires.game in
    (anew_read c.args.text.now c.args.at c.after_tags-moves_begin.result c.start-begin.result
    c.tagged_termination-termination.result c.requires.past (c.start-begin.ensures ∙ begins)
    (rw mark at c.after_tags-moves_begin.ensures.passed) (rw mark at c.tagged_termination-termination.ensures)
    c.in_ok-end.end c.in_ok-end.plies c.read_moves.new.game.state c.start-start.result
    (c.start-start.ensures ∙ begins) c.in_ok-end.ensures.read).1

pub returns-in_err-end-clause-answer : goal.returns-in_err-end-clause-answer
returns-in_err-end-clause-answer g c =
    let mark = c.after_byte_order_mark-first.ensures.offset in
    let begins = ap (λ (s : State). s.start) c.requires.game in
    let p = err_from_is_err_and c.from_residual.result c.from_residual.ensures.1 in
    rw (p.1, p.2) (anew_failed c.args.text.now c.args.at c.after_tags-moves_begin.result c.start-begin.result
    c.tagged_termination-termination.result c.requires.past (c.start-begin.ensures ∙ begins)
    (rw mark at c.after_tags-moves_begin.ensures.passed) (rw mark at c.tagged_termination-termination.ensures)
    c.in_err-end.field-0.0 c.read_moves.new.game.state c.in_err-end.ensures.read).0

pub returns-in_err-end-clause-game : goal.returns-in_err-end-clause-game
returns-in_err-end-clause-game g c =
    let mark = c.after_byte_order_mark-first.ensures.offset in
    let begins = ap (λ (s : State). s.start) c.requires.game in
    (anew_failed c.args.text.now c.args.at c.after_tags-moves_begin.result c.start-begin.result
    c.tagged_termination-termination.result c.requires.past (c.start-begin.ensures ∙ begins)
    (rw mark at c.after_tags-moves_begin.ensures.passed) (rw mark at c.tagged_termination-termination.ensures)
    c.in_err-end.field-0.0 c.read_moves.new.game.state c.in_err-end.ensures.read).1
