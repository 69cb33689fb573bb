-- The exit for a fault whose wrong part isn't at the game's beginning: this part begins as many bytes after the fault's
-- offset as the definition says (`part_on`), which is within the text.
use Rattle.std.proofs.Common.{◌≤◌, ◌+◌, length, drop, sym, ap, subst, ◌∙◌, length-drop, arith, if◌then◌else◌}
use Rattle.pgn_verifier.specs.ties.Explaining.{part_on}
use Rattle.byte_devices.proofs.shared.Devices.{rest_is}
use Rattle.pgn_verifier.proofs.explanation.explained_at.Goals as goal

pub returns-clause-value : goal.returns-clause-value
returns-clause-value c =
    let at = c.args.fault.offset in
    let text = c.args.text.now in
    let kind = c.args.fault.kind in
    let part = c.part_offset.ensures.value ∙ ap (λ t. (part_on kind t).0) (rest_is at text) in
    ap (λ n. at + n) part
    ∙ sym (ap (λ b. if b then c.args.begin else at + (part_on kind (drop at text)).0)
    (sym c.is_at_begin.ensures ∙ c.if-is_at_begin.false))

pub returns-clause-within : goal.returns-clause-within
returns-clause-within c =
    let at = c.args.fault.offset in
    let text = c.args.text.now in
    let few = subst (λ xs. c.part_offset.result ≤ length xs) (rest_is at text) c.part_offset.ensures.within in
    let short = length-drop at text in
    let known = c.requires.offset in omega (arith, few, short, known)
