-- The loop's invariant: the parts before this one were added, as one text.
use Rattle.std.proofs.Common.{take}
use Rattle.byte_devices.specs.Devices.{joined}
use Rattle.pgn_writer.specs.ties.Waiting.{TookSome}
use Rattle.pgn_writer.proofs.buffer.TextBuffer.add_parts.Given as goal

abbrev pub invariant-loop-part : goal.invariant-loop-part
invariant-loop-part g l = let seen = g.W.Output.seen in TookSome (seen l.fn.writer) (seen l.writer) l.fn.self l.self
    (joined (take l.part-index l.parts))
