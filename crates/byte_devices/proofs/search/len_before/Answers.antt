-- Searching for a byte is searching for any of three that are all this byte (Blocks.before_one).
use Rattle.std.proofs.Common.{◌∙◌}
use Rattle.byte_devices.proofs.Blocks.{before_one}
use Rattle.byte_devices.proofs.search.len_before.Goals as goal

pub returns-clause-count : goal.returns-clause-count
returns-clause-count c = c.len_before_any.ensures.count ∙ before_one c.args.wanted c.args.bytes.now
