-- The loop's invariant: the string that continues at `offset`, with the bytes before it, is the whole string; `is_kept`
-- says whether a backslash keeps the byte at `offset`. What decreases is the number of bytes from `offset` on.
use Rattle.std.proofs.Common.{◌≡◌, ◌-◌, length, drop, take}
use Rattle.pgn_tokens.specs.Tokens.{onto, string_at}
use Rattle.pgn_tokens.proofs.Strings.{string_after}
use Rattle.pgn_tokens.proofs.tag.split_string.Given as goal

abbrev pub invariant-loop-offset : goal.invariant-loop-offset
invariant-loop-offset l = onto (take l.offset l.text) (string_after l.is_kept (drop l.offset l.text)) ≡ string_at l.text

abbrev pub decreases-loop-offset : goal.decreases-loop-offset
decreases-loop-offset l = length l.text - l.offset
