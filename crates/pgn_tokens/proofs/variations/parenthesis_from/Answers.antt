-- No `(` comes before the offset returned: if the text was searched from `at` on, that is the first `(`
-- (VariationsSought.none_before); else it is the one known, and what holds from an earlier offset on holds from `at` on
-- (none_later).
use Rattle.pgn_tokens.proofs.VariationsSought.{none_before, none_later}
use Rattle.pgn_tokens.proofs.variations.parenthesis_from.Goals as goal

pub returns-then-known-at : goal.returns-then-known-at
returns-then-known-at c from h none =
    none_before c.args.text.now c.args.at c.next_parenthesis.result c.next_parenthesis.ensures

pub returns-else-known-at : goal.returns-else-known-at
returns-else-known-at c from h none = none_later c.args.text.now from c.args.at c.args.known h none
