-- The exit where no `]` follows: the name and the string were read, and by the definition too this is no tag
-- (Strings.tag_unclosed). The check finds the other exits by itself.
use Rattle.std.proofs.Common.{sym, ap, ◌∙◌}
use Rattle.pgn_tokens.specs.ties.FirstSeen.{tag_seen}
use Rattle.pgn_tokens.proofs.Strings.{tag_unclosed}
use Rattle.pgn_tokens.proofs.tag.read_tag.Goals as goal

pub returns-in_err-rest : goal.returns-in_err-rest
returns-in_err-rest c =
    let name = c.split_name.ensures in
    ap tag_seen c.from_residual-in_err-rest.ensures
    ∙ sym (tag_unclosed c.args.text.now c.after_gap.result.now c.split_name.result.0.now c.split_name.result.1.now
    c.in_ok-string.string.now c.in_ok-text.text.now c.in_ok-text.rest.now c.after_gap.ensures name.name name.rest
    c.in_ok-string.ensures c.in_ok-text.ensures c.in_err-rest.ensures)
