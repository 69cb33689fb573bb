-- If the first tag isn't closed, nothing is passed over (Parts.stays). Otherwise 255 more parts may be
-- (Parts.one_fewer), and where none begins what is left stays (Parts.no_part).
use Rattle.std.proofs.Common.{◌≡◌, Some, None, refl, sym, ap, ◌∙◌}
use Rattle.pgn_pieces.specs.{Pieces.after_part, ties.Fronts.after_value}
use Rattle.pgn_pieces.proofs.Parts.{at_tag, no_part, one_fewer, stays}
use Rattle.pgn_pieces.proofs.line_kinds.after_parts.Goals as goal

pub returns-in_default : goal.returns-in_default
returns-in_default c =
    let none : None ≡ after_part c.args.front.now =
    c.in_default.ensures ∙ ap after_value c.requires.value ∙ at_tag c.args.front.now c.requires.tag in
    sym (stays 256 c.args.front.now none)

pub returns-then-not-begins_like_part : goal.returns-then-not-begins_like_part
returns-then-not-begins_like_part c =
    let some : Some c.in-Some.rest.now ≡ after_part c.args.front.now =
    c.in-Some.ensures ∙ ap after_value c.requires.value ∙ at_tag c.args.front.now c.requires.tag in
    sym (stays 255 c.in-Some.rest.now (no_part c.in-Some.rest.now (sym c.if-not-begins_like_part.ensures)))
    ∙ one_fewer 256 255 c.args.front.now c.in-Some.rest.now refl some

pub returns : goal.returns
returns c =
    let some : Some c.in-Some.rest.now ≡ after_part c.args.front.now =
    c.in-Some.ensures ∙ ap after_value c.requires.value ∙ at_tag c.args.front.now c.requires.tag in
    c.after_more_parts.ensures ∙ one_fewer 256 255 c.args.front.now c.in-Some.rest.now refl some
