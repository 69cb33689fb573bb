-- By the invariant the gap that is left ends where the whole gap ends. A round skips what the definition skips there: a
-- `%` line up to its end, or a byte of white space (Skipped.gap_line_more, gap_blank_more).
use Rattle.std.proofs.Common.{sym, ap, ◌∙◌, false}
use Rattle.pgn_tokens.specs.shared.Gaps.{gap_left}
use Rattle.pgn_tokens.proofs.{Gaps.gap_same, Skipped.gap_line_more, Skipped.gap_blank_more}
use Rattle.pgn_tokens.proofs.skips.after_gap.Goals as goal
use Rattle.pgn_tokens.proofs.skips.after_gap.Goals.{then-line_begins+then-byte-eq37, else-line_begins+then-is_white_space}

pub loop-rest-init : goal.loop-rest-init
loop-rest-init c = gap_same c.args.text.now

pub loop-rest-preserved : goal.loop-rest-preserved
loop-rest-preserved c =
    let rest = c.loop-rest.rest.now in
    elim c.if-line_begins.branch [
      | then-line_begins+then-byte-eq37 w ↦
          let tail = gap_line_more rest c.if-line_begins.rest.now c.in-len1-up.len_at_least w.if-byte-eq37.true
          (ap (λ r. r.now) w.rest-is ∙ w.line_end-rest.ensures.rest) in
          tail ∙ ap (λ b. gap_left false b rest) (sym w.if-line_begins.true) ∙ c.loop-rest.invariant
      | else-line_begins+then-is_white_space w ↦
          let tail = gap_blank_more c.loop-rest.line_begins rest c.if-line_begins.rest.now c.in-len1-up.len_at_least
          (sym w.is_white_space.ensures ∙ w.if-is_white_space.true) (ap (λ r. r.now) w.rest-is) in
          tail ∙ c.loop-rest.invariant
    ]
