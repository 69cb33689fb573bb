-- The table agrees with the definition at each of the 256 bytes (ByteNames.name_class).
use Rattle.std.proofs.Common.{arith}
use Rattle.byte_devices.proofs.ByteNames.{name_class}
use Rattle.byte_devices.proofs.bytes.is_name_byte.Goals as goal

pub returns : goal.returns
returns c = name_class c.args.byte (omega arith)
