-- By the invariant the bytes before `offset`, put before the string that the rest gives, are the string of the whole
-- text. The plain bytes at the front come first, all at once (PlainBytes.plain_first); then each byte goes over from
-- the rest (Strings.place_kept, place_other), up to the closing quote (Strings.place_quote) or the end of the line
-- (Strings.place_line).
use Rattle.std.proofs.Common.{take, drop, sym, ap, ◌∙◌}
use Rattle.pgn_tokens.specs.Tokens.{onto, string_at}
use Rattle.pgn_tokens.proofs.PlainBytes.{plain_first}
use Rattle.pgn_tokens.proofs.Strings.{place_line, place_quote, place_kept, place_other}
use Rattle.pgn_tokens.proofs.tag.split_string.Goals as goal
use Rattle.pgn_tokens.proofs.tag.split_string.Goals.{then-is_kept, else-is_kept+else-byte-eq34}

pub loop-offset-init : goal.loop-offset-init
loop-offset-init c =
    let text = c.args.text.now in
    ap (λ n. onto (take n text) (string_at (drop n text))) c.len_before_any-offset.ensures.count ∙ plain_first text

pub returns-then-byte-eq10 : goal.returns-then-byte-eq10
returns-then-byte-eq10 c =
    let text = c.args.text.now in
    sym (place_line text c.loop-offset.offset c.loop-offset.is_kept c.loop-offset-test.true c.if-byte-eq10.true)
    ∙ c.loop-offset.invariant

pub returns-then-byte-eq34 : goal.returns-then-byte-eq34
returns-then-byte-eq34 c =
    let text = c.args.text.now in
    sym (place_quote text c.loop-offset.offset c.loop-offset.is_kept c.loop-offset-test.true c.if-is_kept.false
    c.if-byte-eq34.true) ∙ c.loop-offset.invariant

pub loop-offset-preserved : goal.loop-offset-preserved
loop-offset-preserved c =
    let text = c.args.text.now in
    elim c.if-is_kept.branch [
      | then-is_kept w ↦ place_kept text c.loop-offset.offset c.loop-offset.is_kept c.if-is_kept.is_kept
          c.loop-offset-test.true w.if-is_kept.true w.is_kept-is c.if-byte-eq10.false ∙ c.loop-offset.invariant
      | else-is_kept+else-byte-eq34 w ↦ place_other text c.loop-offset.offset c.loop-offset.is_kept c.if-is_kept.is_kept
          c.loop-offset-test.true w.if-is_kept.false w.is_kept-is c.if-byte-eq10.false w.if-byte-eq34.false
          ∙ c.loop-offset.invariant
    ]
