-- The bytes that the wrapped writer took are counted as unflushed, or its failure is counted, just as `WriteStep` asks
-- (Unflushed.counted_write).
use Rattle.byte_devices.proofs.Unflushed.{counted_write}
use Rattle.byte_devices.proofs.counted.CountedOutput.write.Goals as goal

pub returns : goal.returns
returns g c =
    counted_write (record {}) (g.W.Write.contents c.args.self.now.device) (g.W.Write.contents c.write-answered.new.self)
    c.args.self.now.counts c.end_write.new.self c.write-answered.result c.end_write.result c.args.buf.now
    c.write-answered.ensures.bound c.write-answered.ensures.bytes c.end_write.ensures.answer c.end_write.ensures.counts
