-- A write of the first bytes of a text is a write of the text, of which not all bytes need be taken (FirstBytes).
use Rattle.std.proofs.Common.{arith}
use Rattle.match_runner.proofs.FirstBytes.{first_written}
use Rattle.match_runner.proofs.pipes.EngineInputOutput.write.Goals as goal

pub returns-then-is_ready : goal.returns-then-is_ready
returns-then-is_ready g c =
    first_written _ _ c.write-then-is_ready.result 4096 c.args.buf.now c.first_bytes.result.now (omega arith)
    c.first_bytes.ensures c.write-then-is_ready.ensures
