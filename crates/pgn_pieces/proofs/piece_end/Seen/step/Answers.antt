-- Either the text's first line has its end (PlainLengths.line_of), and what `see_whole` says of this line is so of the
-- text; or all of the text is a line without its end (PlainLengths.none_in), as `see_open` requires.
use Rattle.std.proofs.Common.{◌+◌, drop, sym, subst, ◌∙◌, arith, length-take-le, take-append-drop}
use Rattle.pgn_pieces.specs.ties.Held.{Ends}
use Rattle.pgn_pieces.proofs.PlainLengths.{none_in, line_of}
use Rattle.pgn_pieces.proofs.piece_end.Seen.step.Goals as goal

pub see_open-requires : goal.see_open-requires
see_open-requires c =
    record { plain = (c.requires, none_in c.args.text.now (sym c.len_before_end-len.ensures.count ∙ c.if-len-text.true)) }

pub slice_bounds-see_whole-end : goal.slice_bounds-see_whole-end
slice_bounds-see_whole-end c =
    let few = c.len_before_end-len.ensures.within in
    let not_all = c.if-len-text.false in
    sym (length-take-le (c.len_before_end-len.result + 1) c.args.text.now (omega (arith, few, not_all)))

pub see_whole-requires : goal.see_whole-requires
see_whole-requires c =
    let few = c.len_before_end-len.ensures.within in
    let not_all = c.if-len-text.false in record {
      whole = line_of c.len_before_end-len.result c.args.text.now c.len_before_end-len.ensures.count (omega (arith, few, not_all));
    }

pub returns-then-see_whole : goal.returns-then-see_whole
returns-then-see_whole c piece h =
    subst (λ xs. Ends piece xs) (take-append-drop (c.len_before_end-len.result + 1) c.args.text.now)
    (c.if-see_whole.ensures piece (drop (c.len_before_end-len.result + 1) c.args.text.now) h)

pub returns : goal.returns
returns c =
    let few = c.len_before_end-len.ensures.within in
    let not_all = c.if-len-text.false in (omega arith, omega (arith, few, not_all), c.if-see_whole.ensures)
