-- The notes of a match have all lines sent (all_lines) and read (all_lines_read), all moments (all_moments) and all
-- events (in_order), in order; so the events in them lead from the beginning to the final state (all_events). By
-- induction over the acts; for events from any state on, since a failed write is noted exactly if the match ended by
-- it.
use Rattle.std.proofs.Common.{◌≡◌, ℕ, Bool, true, false, List, [], ◌∷◌, ◌++◌, refl, ap, sym, subst, ◌∙◌, if◌then◌else◌}
use Rattle.chess_base.specs.{declared.man.Colour.Colour, declared.man.Colour.TheVariants.White, declared.man.Colour.TheVariants.Black, Men.same_colour, Options.list_if}
use Rattle.chess_match.specs.Acts.{Act, Block, Sends, SendFails, Happens, blocks_from, is_over}
use Rattle.chess_match.specs.Effects.{Match, Phase, Over, beginning, effect}
use Rattle.chess_match.specs.{shared.Parts.farewell, Lines.SentLine, Lines.bytes_of, Notes.Note, Notes.Happened, Reasons.is_write_fault_of, Rules.Rules, declared.reason.MatchFault.TheVariants.Write, declared.reason.Reason.Reason, declared.reason.Reason.TheVariants.Faulted}
use Rattle.chess_match.specs.Events.{Event, Line, Opened, Silent, OutputEnds, FailsToRead, FailsToWrite}
use Rattle.chess_match.specs.laws.Laws.{events_in, lines_read, notes_given, lines_given, match_after}
use Rattle.chess_match_laws.specs.Streams.{given_in, lines_noted, moments_noted}
use Rattle.chess_match_laws.specs.OfActs.{NotesAreInOrder, NotesHaveAllLines, NotesHaveLinesRead, NotesHaveMoments, NotesHaveTheEvents, after_events, ended_by_write_to, events_of}
use Rattle.chess_match.proofs.{shared.Reasons.unwritten, shared.MatchCases.both_not, shared.MatchCases.by_cases, shared.MatchCases.on_when_read, shared.Lines.bytes_of-append}
use Rattle.chess_match_laws.proofs.{MoveLaw.line_written, MoveLaw.silent_written, Points.end_after_acts}

-- ---- lines

-- a block in front, which is for S (`x`) or not: its bytes come first, or none
block_bytes : (x : Bool) (lines more : List SentLine) (given : List ℕ) → given ≡ bytes_of more
    → list_if x (bytes_of lines) ++ given ≡ bytes_of (list_if x lines ++ more)
block_bytes true lines more given e = ap (λ (l : List ℕ). bytes_of lines ++ l) e ∙ sym (bytes_of-append lines more)
block_bytes false lines more given e = e

-- the note of an event has no bytes for an engine
no_bytes : (x : Bool) (S : Colour) (e : Event) (notes : List Note)
    → given_in S (list_if x (Happened e ∷ []) ++ notes) ≡ given_in S notes
no_bytes true S e notes = refl
no_bytes false S e notes = refl

pub all_lines : NotesHaveAllLines
unfolding bytes_of
all_lines reason [] S = refl
all_lines reason (Sends b ∷ H) S = block_bytes (same_colour b.to S) b.lines (lines_given S H) _ (all_lines reason H S)
all_lines reason (SendFails b ∷ H) S = block_bytes (same_colour b.to S) b.lines (lines_given S H) _
    (no_bytes (is_write_fault_of reason b.to) S (FailsToWrite b.to) (notes_given reason H) ∙ all_lines reason H S)
all_lines reason (Happens e ∷ H) S = all_lines reason H S

-- ---- lines that are read, and moments

-- a failed write is noted as neither
no_readings : (x : Bool) (S c : Colour) (notes : List Note)
    → (lines_noted S (list_if x (Happened (FailsToWrite c) ∷ []) ++ notes) ≡ lines_noted S notes)
    × (moments_noted (list_if x (Happened (FailsToWrite c) ∷ []) ++ notes) ≡ moments_noted notes)
no_readings true S c notes = (refl, refl)
no_readings false S c notes = (refl, refl)

pub all_lines_read : NotesHaveLinesRead
all_lines_read r reason H final S g = by_cases r final
    (λ m due H. lines_noted S (notes_given reason H) ≡ lines_read S H) (record {
      sends = λ m end b due H p. p;
      fails = λ m end b due H on p. failed b H ∙ p;
      fails_late = λ m end b due H o p. failed b H ∙ p;
      reads = λ m end c t n H aw p. ap (λ ls. list_if (same_colour c S) (t ∷ []) ++ ls) p;
      opens = λ m end c n H o p. p;
      silent = λ m end c n H aw limited p. p;
      ends = λ m end c H aw p. p;
      read_fails = λ m end c H aw p. p;
    }) (λ o. refl) beginning.after (blocks_from White beginning.to) H g
  where
    failed : (b : Block) (H : List Act)
        → lines_noted S (notes_given reason (SendFails b ∷ H)) ≡ lines_noted S (notes_given reason H)
    failed b H = (no_readings (is_write_fault_of reason b.to) S b.to (notes_given reason H)).0

pub all_moments : NotesHaveMoments
all_moments reason [] = refl
all_moments reason (Sends b ∷ H) = all_moments reason H
all_moments reason (SendFails b ∷ H) =
    (no_readings (is_write_fault_of reason b.to) b.to b.to (notes_given reason H)).1 ∙ all_moments reason H
all_moments reason (Happens (Line c t n) ∷ H) = ap (λ ns. n ∷ ns) (all_moments reason H)
all_moments reason (Happens (Opened c n) ∷ H) = ap (λ ns. n ∷ ns) (all_moments reason H)
all_moments reason (Happens (Silent c n) ∷ H) = ap (λ ns. n ∷ ns) (all_moments reason H)
all_moments reason (Happens (OutputEnds c) ∷ H) = all_moments reason H
all_moments reason (Happens (FailsToRead c) ∷ H) = all_moments reason H
all_moments reason (Happens (FailsToWrite c) ∷ H) = all_moments reason H

-- ---- events

-- none of these blocks is for a side to which a write ended the match
abbrev AreWritten : Reason → List Block → Type 0
AreWritten reason [] = Unit {0}
AreWritten reason (b ∷ due) = (is_write_fault_of reason b.to ≡ false) × AreWritten reason due

-- if no side's failed write was the end, no block is for such a side
all_written : (reason : Reason) (due : List Block) → ((O : Colour) → is_write_fault_of reason O ≡ false) → AreWritten reason
    due
all_written reason [] w = tt
all_written reason (b ∷ due) w = (w b.to, all_written reason due w)

-- after a failed write to `c` no block is due for `c`
failed_written : (r : Rules) (m : Match) (c : Colour)
    → AreWritten (Faulted c Write) (blocks_from White (effect r m (FailsToWrite c)).to)
failed_written r m White = at (farewell r m (Faulted White Write) Black)
  where
    at : (ls : List SentLine) → AreWritten (Faulted White Write)
        (blocks_from White (λ S. if is_write_fault_of (Faulted White Write) S then [] else ls))
    at [] = tt
    at (l ∷ ls) = (refl, tt)
failed_written r m Black = at (farewell r m (Faulted Black Write) White)
  where
    at : (ls : List SentLine) → AreWritten (Faulted Black Write)
        (blocks_from White (λ S. if is_write_fault_of (Faulted Black Write) S then [] else ls))
    at [] = tt
    at (l ∷ ls) = (refl, tt)

module _ (r : Rules) (reason : Reason) (final : Match) (over : final.phase ≡ Over reason) where
  -- the events in the notes are those of the acts, if no block due is for a side to which a write ended the match; and
  -- a match that is over stays so
  abbrev Ordered : Match → List Block → List Act → Type 0
  Ordered m due H = (is_over m.phase ≡ true → m.phase ≡ final.phase)
      × ((is_over m.phase ≡ true → AreWritten reason due) → events_in (notes_given reason H) ≡ events_of r m H)

  -- a match that is on is not over
  on_not_over : {A : Type 0} (m : Match) → is_over m.phase ≡ false → is_over m.phase ≡ true → A
  on_not_over m on o = both_not (is_over m.phase) on o

  -- the blocks due after a line or a silence that ended the match are for sides to which no write failed
  due_written : (m : Match) (due : List Block) → ((O : Colour) → ended_by_write_to O m.phase ≡ false)
      → m.phase ≡ final.phase → AreWritten reason due
  due_written m due w e = all_written reason due
      (λ O. subst (λ (p : Phase). ended_by_write_to O p ≡ false) (e ∙ over) (w O))

  -- a failed write that ends the match is noted, and is an event
  broken : (m : Match) (b : Block) (H : List Act) → is_over m.phase ≡ false
      → Ordered (effect r m (FailsToWrite b.to)).after (blocks_from White (effect r m (FailsToWrite b.to)).to) H
      → events_in (list_if (is_write_fault_of reason b.to) (Happened (FailsToWrite b.to) ∷ []) ++ notes_given reason H)
      ≡ (if is_over m.phase then events_of r m H
      else FailsToWrite b.to ∷ events_of r (effect r m (FailsToWrite b.to)).after H)
  broken m b H on p =
      let same : Over (Faulted b.to Write) ≡ Over reason = p.0 refl ∙ over in
      let is : Faulted b.to Write ≡ reason = cc in
      rw (unwritten b.to reason same, on) (ap (λ es. FailsToWrite b.to ∷ es) (p.1 (λ o. subst
      (λ (x : Reason). AreWritten x (blocks_from White (effect r m (FailsToWrite b.to)).to)) is
      (failed_written r m b.to))))

  -- a failed write after the end is neither noted nor an event
  late : (m : Match) (b : Block) (H : List Act) → is_over m.phase ≡ true → is_write_fault_of reason b.to ≡ false
      → events_in (notes_given reason H) ≡ events_of r m H
      → events_in (list_if (is_write_fault_of reason b.to) (Happened (FailsToWrite b.to) ∷ []) ++ notes_given reason H)
      ≡ (if is_over m.phase then events_of r m H
      else FailsToWrite b.to ∷ events_of r (effect r m (FailsToWrite b.to)).after H)
  late m b H o w e = rw (w, o) e

pub in_order : NotesAreInOrder
in_order r reason H final g over = (by_cases r final (Ordered r reason final over) (record {
  sends = λ m end b due H p. (p.0, λ w. p.1 (λ o. (w o).1));
  fails = λ m end b due H on p. (on_not_over r reason final over m on, λ w. broken r reason final over m b H on p);
  fails_late = λ m end b due H o p. (p.0, λ w. late r reason final over m b H o (w o).0 (p.1 (λ o. (w o).1)));
  reads = λ m end S t n H aw p. (
    on_not_over r reason final over m (on_when_read m.phase S aw),
    λ w. ap (λ es. Line S t n ∷ es) (p.1 (λ o. due_written r reason final over (effect r m (Line S t n)).after _
        (λ O. line_written r O S t n m aw) (p.0 o))),
  );
  opens = λ m end S n H o p. (
    on_not_over r reason final over m (ap is_over o),
    λ w. ap (λ es. Opened S n ∷ es) (p.1 (λ o. absurd cc)),
  );
  silent = λ m end S n H aw limited p. (
    on_not_over r reason final over m (on_when_read m.phase S aw),
    λ w. ap (λ es. Silent S n ∷ es) (p.1 (λ o. due_written r reason final over (effect r m (Silent S n)).after _
        (λ O. silent_written r O S n m aw) (p.0 o))),
  );
  ends = λ m end S H aw p. (
    on_not_over r reason final over m (on_when_read m.phase S aw),
    λ w. ap (λ es. OutputEnds S ∷ es)
        (p.1 (λ o. due_written r reason final over (effect r m (OutputEnds S)).after _ (λ O. refl) (p.0 o))),
  );
  read_fails = λ m end S H aw p. (
    on_not_over r reason final over m (on_when_read m.phase S aw),
    λ w. ap (λ es. FailsToRead S ∷ es)
        (p.1 (λ o. due_written r reason final over (effect r m (FailsToRead S)).after _ (λ O. refl) (p.0 o))),
  );
}) (λ o. (λ x. refl, λ w. refl)) beginning.after (blocks_from White beginning.to) H g).1 (λ o. absurd cc)

-- the events of acts lead where the acts do
events_lead : (r : Rules) (m : Match) (H : List Act) → after_events r m (events_of r m H) ≡ match_after r m H
events_lead r m [] = refl
events_lead r m (Sends b ∷ H) = events_lead r m H
events_lead r m (SendFails b ∷ H) =
    at (is_over m.phase) (events_lead r m H) (events_lead r (effect r m (FailsToWrite b.to)).after H)
  where
    at : (x : Bool) → after_events r m (events_of r m H) ≡ match_after r m H
        → after_events r (effect r m (FailsToWrite b.to)).after
        (events_of r (effect r m (FailsToWrite b.to)).after H)
        ≡ match_after r (effect r m (FailsToWrite b.to)).after H
        → after_events r m (if x then events_of r m H else FailsToWrite b.to
        ∷ events_of r (effect r m (FailsToWrite b.to)).after H)
        ≡ match_after r (if x then m else (effect r m (FailsToWrite b.to)).after) H
    at true late on = late
    at false late on = on
events_lead r m (Happens e ∷ H) = events_lead r (effect r m e).after H

pub all_events : NotesHaveTheEvents
all_events r reason H final g over = sym (ap (λ es. after_events r beginning.after es) (in_order r reason H final g over)
    ∙ events_lead r beginning.after H ∙ end_after_acts r H final g)
