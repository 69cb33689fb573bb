-- The table agrees with the definition at each of the 256 bytes (ByteClasses.passed_class).
use Rattle.std.proofs.Common.{arith}
use Rattle.pgn_tokens.proofs.ByteClasses.{passed_class}
use Rattle.pgn_tokens.proofs.bytes.is_passed.Goals as goal

pub returns : goal.returns
returns c = passed_class c.args.next (omega arith)
