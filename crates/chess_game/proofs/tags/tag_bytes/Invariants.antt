-- The loop's invariant: what was kept are the bytes so far, each put through `shown_byte` (`?` if it isn't printable).
use Rattle.std.proofs.Common.{◌≡◌, length, map, take}
use Rattle.byte_devices.specs.Bytes.{shown_byte}
use Rattle.chess_game.proofs.tags.tag_bytes.Given as goal

abbrev pub invariant-loop-byte : goal.invariant-loop-byte
invariant-loop-byte l = record {
  text : l.kept.items ≡ map shown_byte (take l.byte-index l.bytes);
  len : length l.kept.items ≡ l.byte-index;
}
