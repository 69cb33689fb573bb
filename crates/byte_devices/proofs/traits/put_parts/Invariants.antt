-- The loop's invariant: the writer took all of the texts before the one at `part-index`.
use Rattle.std.proofs.Common.{take}
use Rattle.byte_devices.specs.Devices.{Took, joined}
use Rattle.byte_devices.proofs.traits.put_parts.Given as goal

abbrev pub invariant-loop-part : goal.invariant-loop-part
invariant-loop-part g l = let seen = g.W.Output.seen in
    Took (seen l.fn.writer) (seen l.writer) (joined (take l.part-index l.parts))
