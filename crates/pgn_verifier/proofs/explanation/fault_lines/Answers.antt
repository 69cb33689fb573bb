-- The exit where faults are explained. The line and the column shown are the input's at the part that is wrong
-- (Placed.either_moved says where that is). The code appends the parts one by one, so `++` groups them to the left, and
-- the definition groups them to the right: the text is the same.
use Rattle.std.proofs.Common.{◌≡◌, ◌+◌, [], ◌++◌, drop, sym, ap, ◌∙◌, append_assoc, if◌then◌else◌}
use Rattle.pgn_pieces.specs.Places.{line_of, column_of}
use Rattle.pgn_verifier.specs.{Explanations.shown, Explanations.explanation_line, laws.Reported.is_at_begin, ties.Explaining.explanation_of, ties.Explaining.part_on, ties.OnTheWay.fault_line, ties.OnTheWay.span_written}
use Rattle.pgn_verifier.proofs.Placed.{either_moved}
use Rattle.byte_devices.proofs.shared.Devices.{rest_is}
use Rattle.pgn_verifier.proofs.explanation.fault_lines.Goals as goal

pub returns-then-options : goal.returns-then-options
unfolding explanation_line
returns-then-options g c input stands =
    let here = stands c.if-options.true in
    let start = c.args.place.start.offset in
    let text = c.args.text.now in
    let at = c.args.fault.offset in
    let kind = c.args.fault.kind in
    let s = c.args.game.now.state in
    let draws = c.args.options.strict.draws_of_2014 in
    let rest = drop at text in
    let label = c.args.label.now in
    let first = c.append_fault_line.ensures.text
    ∙ ap (λ f. c.new-lines.result.items
    ++ fault_line label.game.number f (span_written label.game.span) label.names.items) c.moved.ensures in
    let there : start + c.args.place.offset
    ≡ (if is_at_begin kind then start + label.begin else start + at + (part_on kind rest).0) =
    ap (λ n. start + n) (c.requires.there c.if-options.true)
    ∙ either_moved (is_at_begin kind) start label.begin at (part_on kind rest).0 in
    let line = sym here.line ∙ ap (line_of input) there in
    let column = sym here.column ∙ ap (column_of input) there in
    let word = c.append_first.ensures.text
    ∙ ap (λ t. c.append_place.new.lines.items ++ (if is_at_begin kind then shown t else []))
    (rest_is label.begin text) in
    let why = c.append_explanation.ensures.text
    ∙ ap (λ t. c.append_first.new.lines.items ++ explanation_of draws s t kind) (rest_is at text) in
    rw (
      c.if-options.true,
      c.push.ensures.items,
      c.append_unread.ensures.text,
      why,
      word,
      c.append_place.ensures.text,
      line,
      column,
      first,
      c.new-lines.ensures,
    ) (simp append_assoc)
