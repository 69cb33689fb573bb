-- The stub ran from the state that its arguments give; the exit status is 0, or 1 if a call of a device failed
-- (Serving.server_ran, failed_status).
use Rattle.std.proofs.Common.{Ok, Err, refl}
use Rattle.stub_engine.specs.Stub.{waiting, stub_response}
use Rattle.chess_arbiter.proofs.Serving.{failed_status, server_ran}
use Rattle.chess_arbiter.proofs.program.stub.Goals as goal

pub returns-in_err-serve_lines : goal.returns-in_err-serve_lines
returns-in_err-serve_lines g c =
    server_ran stub_response (waiting c.args.arguments.now) _ _ _ c.serve_lines.new.server
    (Err c.in_err-serve_lines.field-0.0) _ c.new-stub.ensures c.in_err-serve_lines.ensures
    (failed_status c.from_residual.result c.from_residual.ensures.0)

pub returns : goal.returns
returns g c =
    server_ran stub_response (waiting c.args.arguments.now) _ _ _ c.serve_lines.new.server
    (Ok c.in_ok-serve_lines.field-0) 0 c.new-stub.ensures c.in_ok-serve_lines.ensures refl
