-- Each answer of a stub is computed (StubLines).
use Rattle.arbiter_laws.proofs.StubLines.{stub_lines_are_answered}
use Rattle.arbiter_laws.proofs.program.stub_lines_are_answered.Goals as goal

pub returns : goal.returns
returns c = stub_lines_are_answered
