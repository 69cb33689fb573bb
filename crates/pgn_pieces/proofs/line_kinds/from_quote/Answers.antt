-- From mark to mark, a mark being a quote or a backslash, by lemmas of StringEnds: the first mark is found
-- (quote_after_mark), a backslash keeps the byte after it from closing the string (kept_on) and leaves a shorter text
-- (shorter_on), and a quote, or the text's end, ends the loop (closed).
use Rattle.std.proofs.Common.{◌≡◌, ◌∙◌, false, drop, ap, sym}
use Rattle.pgn_pieces.specs.{Pieces.from_quote, ties.Fronts.from_mark}
use Rattle.pgn_pieces.proofs.StringEnds.{begins_with_mark, closed, kept_on, mark_first, quote_after_mark, shorter_on}
use Rattle.pgn_pieces.proofs.line_kinds.from_quote.Goals as goal

pub loop-rest-init : goal.loop-rest-init
loop-rest-init c = record {
  mark = ap begins_with_mark c.from_mark-rest.ensures ∙ mark_first c.args.text.now;
  same = ap (from_quote false) c.from_mark-rest.ensures ∙ quote_after_mark c.args.text.now;
}

pub loop-rest-smaller : goal.loop-rest-smaller
loop-rest-smaller c =
    rw c.from_mark-rest-in-loop-rest.ensures (rw c.without_first-in-loop-rest.ensures (rw c.without_first.ensures
    (shorter_on c.loop-rest.rest.now (sym c.loop-rest-test.ensures))))

pub loop-rest-preserved : goal.loop-rest-preserved
loop-rest-preserved c =
    let rest' = drop 1 (drop 1 c.loop-rest.rest.now) in
    let next : c.from_mark-rest-in-loop-rest.result.now ≡ from_mark rest' =
    c.from_mark-rest-in-loop-rest.ensures ∙ ap from_mark c.without_first-in-loop-rest.ensures
    ∙ ap (λ t. from_mark (drop 1 t)) c.without_first.ensures in record {
      mark = ap begins_with_mark next ∙ mark_first rest';
      same = ap (from_quote false) next ∙ kept_on c.loop-rest.rest.now (sym c.loop-rest-test.ensures) ∙ c.loop-rest.invariant.same;
    }

pub returns : goal.returns
returns c =
    closed c.loop-rest.rest.now c.loop-rest.invariant.mark (sym c.loop-rest-test.ensures) ∙ c.loop-rest.invariant.same
