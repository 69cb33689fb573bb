-- A comment with its `}` is the next token (GameReads.commented), and as it is skipped, it changes nothing
-- (GameReads.skipped_alike).
use Rattle.std.proofs.Common.{refl, sym, arith}
use Rattle.chess_pgn.proofs.GameReads.{commented, skipped_alike}
use Rattle.chess_pgn.proofs.words.after_comment.Goals as goal

pub returns-in-Some : goal.returns-in-Some
returns-in-Some c =
    let t = commented c.args.text.now c.args.at _ c.in-Some.tail.now c.requires refl c.in-len1-up.len_at_least
    c.if-first-ne123.false (sym c.in-Some.ensures.rest) in
    (skipped_alike c.args.text.now c.args.at _ t.tokens, t.nearer, omega arith)
