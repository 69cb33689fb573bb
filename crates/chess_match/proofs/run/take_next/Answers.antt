-- The clause `taken`, by the result of the read: it failed, no line had come, the output ended (without a line, or with
-- bytes after the last `\n`), or a line was read. For each: the event taken, its steps at the table (Takings), and that
-- after a line or a silence less is to come. What the core then does is a clause of the method called.
use Rattle.std.proofs.Common.{◌∷◌, [], ℕ, Bool, Option, Ok, Some, refl, ap, sym, subst, ◌∙◌, ◌<◌, is_some}
use Rattle.chess_base.proofs.shared.Men.{same_colour-self}
use Rattle.chess_match.specs.{Acts.Happens, Notes.Happened, Run.text_read, ties.Driving.after_line, ties.Driving.after_silence, ties.Represents.nothing_said}
use Rattle.chess_match.specs.Events.{FailsToRead, Line, OutputEnds, Silent}
use Rattle.chess_match.specs.Table.{Does, FindsNoLine, LooksFor, ReadsLine, Notes}
use Rattle.chess_match.proofs.{Passings.passed_more, Sends.no_answers, shared.MatchCases.on_when_read}
use Rattle.chess_match.proofs.Takings.{as_fault, as_last, as_line, as_none, as_silence, line_falls, without_items}
use Rattle.chess_match.proofs.run.take_next.Goals as goal

pub returns-in-Err-clause-taken : goal.returns-in-Err-clause-taken
returns-in-Err-clause-taken g c =
    without_items (g.G.MatchGame.plays c.args.game.now) _ _ c.args.core.now (g.G.MatchGame.played c.args.game.now) _ _ _
    c.args.side _ _ _ (FailsToRead c.args.side) (same_colour-self c.args.side) refl refl c.requires.empty
    (passed_more _ _ _ (LooksFor c.args.side _ ∷ Does (Happens (FailsToRead c.args.side)) ∷ [])
    (Notes (Happened (FailsToRead c.args.side)) ∷ [])
    (as_fault _ _ c.args.side _ c.read_next.new.line _ c.until.result _ c.until.ensures c.in-Err.is
    c.read_next.ensures.passes)
    c.note.ensures.passes)
    (λ r m p h s. c.read_fails.ensures r _ m (on_when_read m.phase c.args.side h) s)

pub returns-in-Ok-None-clause-taken : goal.returns-in-Ok-None-clause-taken
returns-in-Ok-None-clause-taken g c =
    let h = c.take_silence.ensures.taken in
    let found = c.in-Ok-None.is ∙ ap (λ o. Ok o) c.in-Ok-None.field-0-is in
    let falls = c.read_next.ensures.silent found in (
      Silent c.args.side h.0,  -- the event
      nothing_said,  -- it has no items
      same_colour-self c.args.side,  -- it is of this side
      passed_more _ _ _ (LooksFor c.args.side _ ∷ FindsNoLine c.args.side ∷ []) (after_silence c.args.side h.0)
          (as_silence _ _ c.args.side _ c.read_next.new.line c.until.result _ c.until.ensures found
          c.read_next.ensures.passes) h.1,  -- its steps passed at the table
      λ is. absurd cc,  -- it is no line
      λ is. (
        subst (λ (n : ℕ). n < g.T.MatchTable.left c.args.table.now) (sym c.take_silence.ensures.left) falls.0,
        ap (λ (u : Option ℕ). is_some u) (sym c.until.ensures) ∙ falls.1,
      ),  -- less is to come, and the look was limited
      no_answers _ c.requires.empty,  -- nothing is answered
      refl,  -- the other side said nothing
      h.2,  -- the core follows the rules
    )

pub returns-in-Ok-Some-false-clause-taken : goal.returns-in-Ok-Some-false-clause-taken
returns-in-Ok-Some-false-clause-taken g c =
    let found = c.in-Ok-Some-false.is
    ∙ ap (λ o. Ok o) (c.in-Ok-Some-false.field-0-is ∙ ap (λ (b : Bool). Some b) c.in-Ok-Some-false.field-0-0-test) in
    without_items (g.G.MatchGame.plays c.args.game.now) _ _ c.args.core.now (g.G.MatchGame.played c.args.game.now) _ _ _
    c.args.side _ _ _ (OutputEnds c.args.side) (same_colour-self c.args.side) refl refl c.requires.empty
    (passed_more _ _ _ (LooksFor c.args.side _ ∷ Does (Happens (OutputEnds c.args.side)) ∷ [])
    (Notes (Happened (OutputEnds c.args.side)) ∷ [])
    (as_none _ _ c.args.side _ c.read_next.new.line c.until.result _ c.until.ensures found c.read_next.ensures.passes)
    c.note-in-Ok-Some-false.ensures.passes)
    (λ r m p h s. c.output_ends-in-Ok-Some-false.ensures r _ m (on_when_read m.phase c.args.side h) s)

pub returns-else-is_parsed-clause-taken : goal.returns-else-is_parsed-clause-taken
returns-else-is_parsed-clause-taken g c =
    let found = c.in-Ok-Some-true.is
    ∙ ap (λ o. Ok o) (c.in-Ok-Some-true.field-0-is ∙ ap (λ (b : Bool). Some b) c.in-Ok-Some-true.field-0-0-test) in
    without_items (g.G.MatchGame.plays c.args.game.now) _ _ c.args.core.now (g.G.MatchGame.played c.args.game.now) _ _ _
    c.args.side _ _ _ (OutputEnds c.args.side) (same_colour-self c.args.side) refl refl c.requires.empty
    (passed_more _ _ _ (LooksFor c.args.side _ ∷ Does (Happens (OutputEnds c.args.side)) ∷ [])
    (Notes (Happened (OutputEnds c.args.side)) ∷ [])
    (as_last _ _ c.args.side _ c.read_next.new.line c.until.result _ c.until.ensures found (sym c.is_parsed.ensures ∙ c.if-is_parsed.false)
    c.read_next.ensures.passes) c.note-else-is_parsed.ensures.passes)
    (λ r m p h s. c.output_ends.ensures r _ m (on_when_read m.phase c.args.side h) s)

pub returns-then-is_parsed-clause-taken : goal.returns-then-is_parsed-clause-taken
returns-then-is_parsed-clause-taken g c =
    let h = c.take_line.ensures.taken in
    let found = c.in-Ok-Some-true.is
    ∙ ap (λ o. Ok o) (c.in-Ok-Some-true.field-0-is ∙ ap (λ (b : Bool). Some b) c.in-Ok-Some-true.field-0-0-test) in
    let whole = sym c.is_parsed.ensures ∙ c.if-is_parsed.true in (
      Line c.args.side (text_read c.read_next.new.line) h.0,  -- the event
      h.1,  -- its items
      same_colour-self c.args.side,  -- it is of this side
      passed_more _ _ _ (LooksFor c.args.side _ ∷ ReadsLine c.args.side (text_read c.read_next.new.line) ∷ [])
          (after_line c.args.side (text_read c.read_next.new.line) h.0)
          (as_line _ _ c.args.side _ c.read_next.new.line c.until.result _ c.until.ensures found whole
          c.read_next.ensures.passes) h.2,  -- its steps passed at the table
      λ is. subst (λ (n : ℕ). n < g.T.MatchTable.left c.args.table.now) (sym c.take_line.ensures.left)
          (line_falls c.args.side _ c.read_next.new.line _ _ found whole c.read_next.ensures.less),  -- less is to come
      λ is. absurd cc,  -- it is no silence
      h.3,  -- the block has the answers to its items
      h.4,  -- the other side said nothing
      h.5,  -- the core follows the rules
    )
