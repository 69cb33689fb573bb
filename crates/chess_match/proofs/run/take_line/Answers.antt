-- The clock is read and the line noted, which are two steps of the table; then the core goes on by the line
-- (`MatchState::line`), and only this side is sent answers (Sends.none_to_other).
use Rattle.std.proofs.Common.{◌∷◌, [], List, ℕ, Option, ap, sym, subst, ◌∙◌}
use Rattle.cecp_engine.specs.Seen.{seen}
use Rattle.chess_match.specs.{Events.Line, Notes.Happened, Run.text_read, Table.Passes, Table.ReadsClock, Table.Notes, ties.Represents.items_in, Acts.awaits_line, Effects.Phase}
use Rattle.chess_match.proofs.{Sends.none_to_other, Passings.passed_more}
use Rattle.chess_match.proofs.run.take_line.Goals as goal

pub returns-clause-taken : goal.returns-clause-taken
returns-clause-taken g c =
    let q = c.requires.sane in
    let awaits = ap (λ (p : Phase). awaits_line p c.args.side) (sym q.3.phase) ∙ q.5 in (
      c.moment-moment.result,
      items_in c.args.core.now.phase (seen c.said.result),
      passed_more _ _ _ (ReadsClock c.args.side c.moment-moment.result ∷ [])
          (Notes (Happened (Line c.args.side (text_read c.args.line.now) c.moment-moment.result)) ∷ [])
          c.moment-moment.ensures.passes
          (subst (λ (t : Option (List ℕ)). Passes (g.T.MatchTable.passed c.moment-moment.new.self)
          (g.T.MatchTable.passed c.note.new.self)
          (Notes (Happened (Line c.args.side t c.moment-moment.result)) ∷ [])) c.text_read-text.ensures
          c.note.ensures.passes),
      c.line.ensures.answers c.args.side awaits,
      none_to_other c.args.core.now.phase _ (seen c.said.result) c.args.side awaits,
      λ r m p aw s.
          c.line.ensures.goes r m c.args.side (text_read c.args.line.now) p aw (sym c.said.ensures.said) s,
    )
