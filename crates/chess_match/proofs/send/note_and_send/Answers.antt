-- The text that is sent has the answers that wait in the block, and after them the rest that `given` asks for: together
-- the bytes of the effect's lines for this side (Sends.given_bytes). If sending failed, the text was not empty, so
-- there are lines (Due.some_lines).
use Rattle.std.proofs.Common.{◌++◌, List, ℕ, ap, sym, ◌∙◌}
use Rattle.chess_match.specs.{Lines.bytes_of, ties.Represents.after_answers}
use Rattle.chess_match.proofs.{Due.some_lines, Sends.given_bytes}
use Rattle.chess_match.proofs.send.note_and_send.Goals as goal

pub returns-clause-sends : goal.returns-clause-sends
returns-clause-sends g c r items e p goes own =
    let text = c.as_slice.ensures.value ∙ c.add_rest.ensures r e.after p goes.stands
    ∙ ap (λ (l : List ℕ). l ++ bytes_of (after_answers r c.args.core.now c.args.given e.after c.args.side)) own
    ∙ given_bytes r _ _ c.args.given items e c.args.side goes in (
      c.note_and_put-failed.ensures.passes (e.to c.args.side) (sym text),
      λ fails. some_lines (e.to c.args.side) (λ none. c.note_and_put-failed.ensures.due fails (text ∙ none)),
    )
