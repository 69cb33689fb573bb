-- The argument's line was written, and then the lines of the remarks; where a write failed, a beginning of both was
-- written (puts_more and puts_exit of Devices).
use Rattle.byte_devices.proofs.shared.Devices.{breaks_longer, puts_exit, puts_more}
use Rattle.stub_engine.proofs.stub.say_played.Goals as goal

pub returns-in_err-say_argument : goal.returns-in_err-say_argument
returns-in_err-say_argument g c =
    puts_exit _ _ c.from_residual.result _ (breaks_longer _ _ _ _ c.in_err-say_argument.ensures)
    c.from_residual.ensures.0

pub returns : goal.returns
returns g c = puts_more _ _ _ c.say_remarks.result _ _ c.in_ok-say_argument.ensures c.say_remarks.ensures
