-- The short cut, for a text that begins with the byte that is looked for: that byte is no white space, so no gap comes
-- before it, and the definition finds it there too (Gaps.next_at_once).
use Rattle.pgn_tokens.proofs.Gaps.{next_at_once}
use Rattle.pgn_tokens.proofs.tag.after_next.Goals as goal

pub returns-then-first-byte : goal.returns-then-first-byte
returns-then-first-byte c =
    next_at_once c.args.byte c.args.text.now c.in-len1-up.len_at_least c.if-first-byte.true c.requires
