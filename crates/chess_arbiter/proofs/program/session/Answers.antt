-- If memory ran out, nothing was read or written. Otherwise the session ran from the state in which it was opened
-- (server_ran of Serving). The status is 1 if anything failed (failed_status).
use Rattle.std.proofs.Common.{Ok, Err, inl, inr, refl}
use Rattle.chess_cecp.specs.{Held.opened_session, Session.session_response}
use Rattle.pgn_writer.specs.Tags.{default_tags}
use Rattle.chess_game.specs.declared.game.TheConstants.{MOST_MOVES}
use Rattle.chess_arbiter.proofs.Serving.{failed_status, server_ran}
use Rattle.chess_arbiter.proofs.program.session.Goals as goal

pub returns-in_err-tables : goal.returns-in_err-tables
returns-in_err-tables g c = inr (refl, failed_status c.from_residual.result c.from_residual.ensures.0)

pub returns-in_err-session : goal.returns-in_err-session
returns-in_err-session g c =
    inr (refl, failed_status c.from_residual-in_err-session.result c.from_residual-in_err-session.ensures.0)

pub returns-in_err-run_session : goal.returns-in_err-run_session
returns-in_err-run_session g c =
    inl (server_ran session_response (opened_session default_tags MOST_MOVES) _ _ _ c.run_session.new.session
    (Err c.in_err-run_session.field-0.0) _ c.in_ok-session.ensures c.in_err-run_session.ensures
    (failed_status c.from_residual-in_err-run_session.result c.from_residual-in_err-run_session.ensures.0))

pub returns : goal.returns
returns g c =
    inl (server_ran session_response (opened_session default_tags MOST_MOVES) _ _ _ c.run_session.new.session
    (Ok c.in_ok-run_session.field-0) 0 c.in_ok-session.ensures c.in_ok-run_session.ensures refl)
