-- An empty text is neither noted nor sent: it has no lines, so no step is due (Passings.given_nothing). Any other is
-- noted first, and then sent, or cannot be (Passings.given_lines).
use Rattle.std.proofs.Common.{◌∷◌, [], Bool, false, subst, sym}
use Rattle.chess_match.specs.Table.{Does, Passes, sending}
use Rattle.chess_match.proofs.{Due.is_nil, Due.is_some_text, Passings.given_lines, Passings.given_nothing}
use Rattle.chess_match.proofs.send.note_and_put.Goals as goal

pub returns-then-is_empty-clause-passes : goal.returns-then-is_empty-clause-passes
returns-then-is_empty-clause-passes g c lines e =
    given_nothing (g.T.MatchTable.passed c.args.table.now) false c.args.side lines c.args.text.now e
    (is_nil c.args.text.now _ c.is_empty.ensures c.if-is_empty.true)

pub returns-clause-passes : goal.returns-clause-passes
returns-clause-passes g c lines e =
    given_lines _ _ _ c.is_err.result c.args.side lines c.args.text.now e
    (is_some_text c.args.text.now _ c.is_empty.ensures c.if-is_empty.false) c.note.ensures.passes
    (subst (λ (b : Bool). Passes (g.T.MatchTable.passed c.note.new.self) (g.T.MatchTable.passed c.send.new.self)
    (Does (sending b (record { to = c.args.side; lines = lines })) ∷ [])) (sym c.is_err.ensures.value)
    (c.send.ensures.passes lines e))
