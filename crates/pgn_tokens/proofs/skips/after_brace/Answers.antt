-- If no `}` was found, the number of bytes before it is the text's length, and the definition finds none either
-- (Skipped.no_brace); else the text after it is the definition's (Skipped.brace_found).
use Rattle.std.proofs.Common.{arith}
use Rattle.pgn_tokens.proofs.Skipped.{no_brace, brace_found}
use Rattle.pgn_tokens.proofs.skips.after_brace.Goals as goal

pub returns-then-len-text-clause-rest : goal.returns-then-len-text-clause-rest
returns-then-len-text-clause-rest c =
    no_brace c.args.text.now c.len_before-len.result c.len_before-len.ensures.count c.if-len-text.true

pub returns-clause-rest : goal.returns-clause-rest
returns-clause-rest c =
    brace_found c.args.text.now c.len_before-len.result c.len_before-len.ensures.count
    (omega (arith, c.len_before-len.ensures.within, c.if-len-text.false))
