-- At first no token was looked at, and no `(` comes before the first one (VariationsSought.none_before). A token that
-- is no variation keeps the invariant (sought_on), as the next `(` is found from after it on. The search ends at a
-- variation, after the last `(`, at the text's end and at what can't be read, each by one lemma of VariationsSought.
use Rattle.std.proofs.Common.{refl, sym, ◌∙◌, arith}
use Rattle.pgn_tokens.specs.Seen.{token_seen}
use Rattle.pgn_tokens.proofs.VariationsSought.{none_before, none_left, none_to_end, none_readable, found, sought_on}
use Rattle.pgn_tokens.proofs.variations.has_variation.Goals as goal

pub loop-place-init : goal.loop-place-init
loop-place-init c = record {
  offset = c.requires;
  whole = refl;
  none = none_before c.args.text.now c.args.at c.next_parenthesis-place.result c.next_parenthesis-place.ensures;
}

pub is_variation-requires : goal.is_variation-requires
is_variation-requires c =
    let next = rw c.in-Ok-Some.field-0-is at c.in-Ok-Some.ensures in
    omega (arith, next.1, next.2)

pub parenthesis_from-place-requires : goal.parenthesis_from-place-requires
parenthesis_from-place-requires c =
    let next = rw c.in-Ok-Some.field-0-is at c.in-Ok-Some.ensures in next.2

pub loop-place-preserved : goal.loop-place-preserved
loop-place-preserved c =
    let next = rw c.in-Ok-Some.field-0-is at c.in-Ok-Some.ensures in
    sought_on c.args.text.now c.args.at c.loop-place.offset c.loop-place.place c.loop-place.invariant
    c.in-Ok-Some.token_end (token_seen c.in-Ok-Some.token) next.0 c.parenthesis_from-place.result next.2
    (sym c.is_variation.ensures ∙ c.if-is_variation.false)
    (c.parenthesis_from-place.ensures c.loop-place.offset (omega (arith, next.1)) c.loop-place.invariant.none)

pub returns-then-is_variation : goal.returns-then-is_variation
returns-then-is_variation c =
    let next = rw c.in-Ok-Some.field-0-is at c.in-Ok-Some.ensures in
    found c.args.text.now c.args.at c.loop-place.offset c.loop-place.place c.loop-place.invariant
    c.in-Ok-Some.token_end (token_seen c.in-Ok-Some.token) next.0
    (sym c.is_variation.ensures ∙ c.if-is_variation.true)

pub returns-in-Ok-None : goal.returns-in-Ok-None
returns-in-Ok-None c =
    none_to_end c.args.text.now c.args.at c.loop-place.offset c.loop-place.place c.loop-place.invariant
    (rw c.in-Ok-None.field-0-is at c.in-Ok-None.ensures)

pub returns-in-Err : goal.returns-in-Err
returns-in-Err c =
    none_readable c.args.text.now c.args.at c.loop-place.offset c.loop-place.place c.loop-place.invariant
    c.in-Err.field-0 c.in-Err.ensures

pub returns : goal.returns
returns c =
    none_left c.args.text.now c.args.at c.loop-place.offset c.loop-place.place c.loop-place.invariant
    c.loop-place-test.false
