-- `showmoves` and `showpgn` are answered apart from `obey_line`: by the table the text is the answer, nothing changes,
-- and the session continues (OwnRows.by_moves, by_pgn). All other answers are put together by `obey_line`, and then the
-- session ends just if the table says so (OwnRows.text_go). `refused` and `kept` are facts of the session that the
-- table gives (Rows.refused, Rows.tags_and_limit_stay).
use Rattle.std.proofs.{Common.◌∙◌, lemmas.Result.err_from_is_err_and}
use Rattle.chess_cecp.proofs.{OwnRows.by_moves, OwnRows.by_pgn, OwnRows.text_go, Rows.refused, Rows.tags_and_limit_stay}
use Rattle.chess_cecp.proofs.session.Session.answer.Goals as goal

pub returns-in_err-send-in-Text-clause-refused : goal.returns-in_err-send-in-Text-clause-refused
returns-in_err-send-in-Text-clause-refused g c = refused _ _ _ c.obey_line.ensures.next

pub returns-in_err-send-in-Text-clause-kept : goal.returns-in_err-send-in-Text-clause-kept
returns-in_err-send-in-Text-clause-kept g c = tags_and_limit_stay _ _ _ c.obey_line.ensures.next

pub returns-in_ok-send-in-Text-clause-refused : goal.returns-in_ok-send-in-Text-clause-refused
returns-in_ok-send-in-Text-clause-refused g c = refused _ _ _ c.obey_line.ensures.next

pub returns-in_ok-send-in-Text-clause-kept : goal.returns-in_ok-send-in-Text-clause-kept
returns-in_ok-send-in-Text-clause-kept g c = tags_and_limit_stay _ _ _ c.obey_line.ensures.next

pub returns-in_ok-send-in-Text-clause-go : goal.returns-in_ok-send-in-Text-clause-go
returns-in_ok-send-in-Text-clause-go g c = text_go c.args.self.now c.args.line.now c.in-Text.go c.in-Text.ensures.reply

pub returns-in_ok-send_moves-in-Moves-clause-written : goal.returns-in_ok-send_moves-in-Moves-clause-written
returns-in_ok-send_moves-in-Moves-clause-written g c =
    rw (by_moves c.args.self.now _ _ c.in-Moves.ensures.reply c.obey_line.ensures.next).text
    c.in_ok-send_moves-in-Moves.ensures

pub returns-in_ok-send_moves-in-Moves-clause-go : goal.returns-in_ok-send_moves-in-Moves-clause-go
returns-in_ok-send_moves-in-Moves-clause-go g c =
    rw (by_moves c.args.self.now _ _ c.in-Moves.ensures.reply c.obey_line.ensures.next).goes_on

pub returns-in_ok-send_moves-in-Moves-clause-refused : goal.returns-in_ok-send_moves-in-Moves-clause-refused
returns-in_ok-send_moves-in-Moves-clause-refused g c = refused _ _ _ c.obey_line.ensures.next

pub returns-in_ok-send_moves-in-Moves-clause-kept : goal.returns-in_ok-send_moves-in-Moves-clause-kept
returns-in_ok-send_moves-in-Moves-clause-kept g c = tags_and_limit_stay _ _ _ c.obey_line.ensures.next

pub returns-in_err-send_moves-in-Moves-clause-written : goal.returns-in_err-send_moves-in-Moves-clause-written
returns-in_err-send_moves-in-Moves-clause-written g c =
    let p = err_from_is_err_and c.from_residual-in_err-send_moves-in-Moves.result
    c.from_residual-in_err-send_moves-in-Moves.ensures.1 in
    rw p.1 (rw (by_moves c.args.self.now _ _ c.in-Moves.ensures.reply c.obey_line.ensures.next).text
    c.in_err-send_moves-in-Moves.ensures)

pub returns-in_err-send_moves-in-Moves-clause-refused : goal.returns-in_err-send_moves-in-Moves-clause-refused
returns-in_err-send_moves-in-Moves-clause-refused g c = refused _ _ _ c.obey_line.ensures.next

pub returns-in_err-send_moves-in-Moves-clause-kept : goal.returns-in_err-send_moves-in-Moves-clause-kept
returns-in_err-send_moves-in-Moves-clause-kept g c = tags_and_limit_stay _ _ _ c.obey_line.ensures.next

pub returns-in_ok-send_pgn-in-Pgn-clause-next : goal.returns-in_ok-send_pgn-in-Pgn-clause-next
returns-in_ok-send_pgn-in-Pgn-clause-next g c = c.send_pgn.ensures.same ∙ c.obey_line.ensures.next

pub returns-in_ok-send_pgn-in-Pgn-clause-written : goal.returns-in_ok-send_pgn-in-Pgn-clause-written
returns-in_ok-send_pgn-in-Pgn-clause-written g c =
    rw (by_pgn c.args.self.now _ _ c.in-Pgn.ensures.reply c.obey_line.ensures.next).text
    c.in_ok-send_pgn-in-Pgn.ensures.written

pub returns-in_ok-send_pgn-in-Pgn-clause-go : goal.returns-in_ok-send_pgn-in-Pgn-clause-go
returns-in_ok-send_pgn-in-Pgn-clause-go g c =
    rw (by_pgn c.args.self.now _ _ c.in-Pgn.ensures.reply c.obey_line.ensures.next).goes_on

pub returns-in_ok-send_pgn-in-Pgn-clause-refused : goal.returns-in_ok-send_pgn-in-Pgn-clause-refused
returns-in_ok-send_pgn-in-Pgn-clause-refused g c = refused _ _ _ (c.send_pgn.ensures.same ∙ c.obey_line.ensures.next)

pub returns-in_ok-send_pgn-in-Pgn-clause-kept : goal.returns-in_ok-send_pgn-in-Pgn-clause-kept
returns-in_ok-send_pgn-in-Pgn-clause-kept g c =
    tags_and_limit_stay _ _ _ (c.send_pgn.ensures.same ∙ c.obey_line.ensures.next)

pub returns-in_err-send_pgn-in-Pgn-clause-next : goal.returns-in_err-send_pgn-in-Pgn-clause-next
returns-in_err-send_pgn-in-Pgn-clause-next g c = c.send_pgn.ensures.same ∙ c.obey_line.ensures.next

pub returns-in_err-send_pgn-in-Pgn-clause-written : goal.returns-in_err-send_pgn-in-Pgn-clause-written
returns-in_err-send_pgn-in-Pgn-clause-written g c =
    let p = err_from_is_err_and c.from_residual-in_err-send_pgn-in-Pgn.result
    c.from_residual-in_err-send_pgn-in-Pgn.ensures.1 in
    rw p.1 (rw (by_pgn c.args.self.now _ _ c.in-Pgn.ensures.reply c.obey_line.ensures.next).text
    c.in_err-send_pgn-in-Pgn.ensures.written)

pub returns-in_err-send_pgn-in-Pgn-clause-refused : goal.returns-in_err-send_pgn-in-Pgn-clause-refused
returns-in_err-send_pgn-in-Pgn-clause-refused g c = refused _ _ _ (c.send_pgn.ensures.same ∙ c.obey_line.ensures.next)

pub returns-in_err-send_pgn-in-Pgn-clause-kept : goal.returns-in_err-send_pgn-in-Pgn-clause-kept
returns-in_err-send_pgn-in-Pgn-clause-kept g c =
    tags_and_limit_stay _ _ _ (c.send_pgn.ensures.same ∙ c.obey_line.ensures.next)
