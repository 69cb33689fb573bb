-- The loop's invariant: what was kept are the bytes so far, each put through `comment_byte`.
use Rattle.std.proofs.Common.{◌≡◌, length, map, take}
use Rattle.chess_game.specs.ties.CommentBytes.{comment_byte}
use Rattle.chess_game.proofs.results.comment_bytes.Given as goal

abbrev pub invariant-loop-byte : goal.invariant-loop-byte
invariant-loop-byte l = record {
  text : l.kept.items ≡ map comment_byte (take l.byte-index l.bytes);
  len : length l.kept.items ≡ l.byte-index;
}
