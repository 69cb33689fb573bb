-- If this side is still to be sent the last move, `add_last` puts it, and it is the one line that is due
-- (Sends.unsent_own). Where the other side is, or nobody, no line is due and none is put, which the check finds itself.
use Rattle.std.proofs.Common.{◌++◌, List, sym, ap, ◌∙◌}
use Rattle.chess_match.specs.Lines.{SentLine, bytes_of}
use Rattle.chess_match.proofs.Sends.{unsent_own}
use Rattle.chess_match.proofs.compose.add_unsent.Goals as goal

pub returns-then-same_colour-clause-text : goal.returns-then-same_colour-clause-text
returns-then-same_colour-clause-text c r played m s =
    c.add_last.ensures.text r played m s
    ∙ ap (λ (ls : List SentLine). c.args.block.now.items ++ bytes_of ls)
    (unsent_own r c.args.core.now played m c.args.side c.in-Some.unsent_to s (sym c.in-Some.ensures)
    (sym c.same_colour.ensures ∙ c.if-same_colour.true))
