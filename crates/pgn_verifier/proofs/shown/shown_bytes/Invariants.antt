-- The loop's invariant: the bytes so far were put, each as it is shown, one byte for each.
use Rattle.std.proofs.Common.{◌≡◌, length, map, take}
use Rattle.byte_devices.specs.Bytes.{shown_byte}
use Rattle.pgn_verifier.proofs.shown.shown_bytes.Given as goal

abbrev pub invariant-loop-byte : goal.invariant-loop-byte
invariant-loop-byte l = record {
  text : l.shown.items ≡ map shown_byte (take l.byte-index l.word);
  len : length l.shown.items ≡ l.byte-index;
}
