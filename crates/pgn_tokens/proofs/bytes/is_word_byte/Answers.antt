-- The table agrees with the definition at each of the 256 bytes (ByteClasses.word_class).
use Rattle.std.proofs.Common.{arith}
use Rattle.pgn_tokens.proofs.ByteClasses.{word_class}
use Rattle.pgn_tokens.proofs.bytes.is_word_byte.Goals as goal

pub returns : goal.returns
returns c = word_class c.args.byte (omega arith)
