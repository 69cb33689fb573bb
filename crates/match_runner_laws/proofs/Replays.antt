-- What a log shows of a match is enough to play it again: from the events that it shows, in a match where no move takes
-- time (`again` of PlayedAgain), follow the moves, what engines said, and the reason for the end (Goes, match_goes). Of
-- a match that ended because a flag fell the last event is left out, since no flag falls where no time is used.
use Rattle.std.proofs.Common.{◌≡◌, ◌⊎◌, ℕ, Bool, true, false, List, [], ◌∷◌, ◌++◌, map, refl, ap, sym, ◌∙◌, subst, append_assoc, inl, inr, arith, if◌then◌else◌, fold}
use Rattle.std.specs.List.{AllByRecursion}
use Rattle.std.proofs.{lemmas.Bool.and_parts, lemmas.List.map-append}
use Rattle.chess_base.specs.{declared.man.Colour.Colour, declared.man.Colour.TheVariants.White, declared.man.Colour.TheVariants.Black, Men.other, Options.list_if}
use Rattle.chess_match.specs.Acts.{Act, Block, Sends, SendFails, Happens, IsMatch, IsMatchFrom, awaits_line, block_of, blocks_from, is_limited, is_over}
use Rattle.chess_match.specs.{shared.Parts.blocks_after, Lines.SentLine, Lines.bytes_of, Notes.Note, Notes.Happened, Notes.Gives, Reasons.is_write_fault_of, Rules.Rules, declared.reason.MatchFault.TheVariants.Ended, declared.reason.MatchFault.TheVariants.Read, declared.reason.MatchFault.TheVariants.Write, declared.reason.Reason.Reason, declared.reason.Reason.TheVariants.Faulted, laws.Laws.events_in, laws.Laws.line_kind, laws.Laws.notes_given}
use Rattle.chess_match.specs.Effects.{Match, Phase, Opening, Over, beginning, effect, ends, is_owed_move, move_line}
use Rattle.chess_match.specs.Events.{Event, Line, Opened, Silent, OutputEnds, FailsToRead, FailsToWrite}
use Rattle.match_runner_laws.specs.ReadBack.{events_shown}
use Rattle.match_runner_laws.proofs.PlayedAgain.{Again, Falls, Stops, again, anew, ends_by_flag, last_lines, line_again, opened, over_again, reopen, shown_reason, silence_again, waits}
use Rattle.chess_match.proofs.shared.MatchCases.{on_when_read}

-- ---- the last notes are those of a block that ends with `result ..` and `quit`

-- the last of these notes is of a block with the last lines at its end
abbrev pub EndsAs : Reason → List Note → Type 0
EndsAs reason notes = (before : List Note) × (S : Colour) × (lines : List SentLine)
    × (notes ≡ before ++ Gives S (bytes_of (lines ++ last_lines reason)) ∷ [])

-- notes before them change nothing
more_before : (reason : Reason) (more notes : List Note) → EndsAs reason notes → EndsAs reason (more ++ notes)
more_before reason more notes (before, S, lines, e) = (
  more ++ before,
  S,
  lines,
  ap (λ (l : List Note). more ++ l) e
      ∙ sym (append_assoc more before (Gives S (bytes_of (lines ++ last_lines reason)) ∷ [])),
)

-- the note of a block that was sent
abbrev give : Block → Note
give b = Gives b.to (bytes_of b.lines)

-- notes of blocks are no events
no_events : (due : List Block) → events_in (map give due) ≡ []
no_events [] = refl
no_events (b ∷ due) = no_events due

-- a block with the end lines is not empty, so it is sent
block_is : (S : Colour) (before : List SentLine) (reason : Reason)
    → block_of S (before ++ last_lines reason) ≡ record { to = S; lines = before ++ last_lines reason } ∷ []
block_is S [] reason = refl
block_is S (l ∷ ls) reason = refl

-- the blocks that are sent when a match stops end with the end lines
blocks_end : (shown reason : Reason) (first : Colour) (to : Colour → List SentLine) → Stops shown reason to
    → EndsAs shown (map give (blocks_from first to))
blocks_end shown reason first to h =
    let (before, e) = h.last (other first) in
    let last : Block = record { to = other first; lines = before ++ last_lines shown } in (
      map give (block_of first (to first)),
      other first,
      before,
      ap (λ (ls : List SentLine). map give (block_of first (to first) ++ block_of (other first) ls)) e
          ∙ ap (λ (bs : List Block). map give (block_of first (to first) ++ bs)) (block_is (other first) before shown)
          ∙ map-append give (block_of first (to first)) (last ∷ []),
    )

-- no block goes to a side to which a failed write ended the match
abbrev AreWritten : Reason → List Block → Type 0
AreWritten reason due = AllByRecursion (λ b. is_write_fault_of reason b.to ≡ false) due

all_written : (reason : Reason) (due : List Block) → ((S : Colour) → is_write_fault_of reason S ≡ false)
    → AreWritten reason due
all_written reason [] w = tt
all_written reason (b ∷ due) w = (w b.to, all_written reason due w)

-- after a failed write only the other side is sent the end
other_block : (r : Rules) (m : Match) (c : Colour)
    → blocks_from White (ends r (Faulted c Write) m).to ≡ record {
      to = other c;
      lines = list_if (is_owed_move m.phase (other c)) (move_line r m (other c) ∷ [])
          ++ last_lines (shown_reason r m (Faulted c Write));
    } ∷ []
other_block r m White =
    block_is Black (list_if (is_owed_move m.phase Black) (move_line r m Black ∷ []))
    (shown_reason r m (Faulted White Write))
other_block r m Black = ap (λ (bs : List Block). bs ++ [])
    (block_is White (list_if (is_owed_move m.phase White) (move_line r m White ∷ []))
    (shown_reason r m (Faulted Black Write)))

other_written : (c : Colour) → is_write_fault_of (Faulted c Write) (other c) ≡ false
other_written c = grind arith

-- and the side to which the write failed is the one that `is_write_fault_of` names
own_unwritten : (c : Colour) → is_write_fault_of (Faulted c Write) c ≡ true
own_unwritten c = grind arith

-- ---- a match that is over

-- a match is not both over and not over
not_over : {A : Type 0} (b : Bool) → b ≡ true → b ≡ false → A
not_over true e h = absurd cc
not_over false e h = absurd cc

-- a phase that is over has a reason
which : (p : Phase) → is_over p ≡ true → (reason : Reason) × (p ≡ Over reason)
which (Over reason) h = (reason, refl)
which _ h = absurd cc

-- a match that is over stays so, and what is due is given
abbrev Rests : Reason → Match → Match → List Block → List Note → Type 0
Rests reason final m due notes = (final ≡ m) × (AreWritten reason due → notes ≡ map give due)

-- the notes of the blocks that are due, with one block more that was sent
sent_more : (b s : Block) (l l' : List Note) → b ≡ s → l ≡ l' → Gives s.to (bytes_of s.lines) ∷ l ≡ give b ∷ l'
sent_more b s l l' q e = ap (λ (x : Block). give x ∷ l) (sym q) ∙ ap (λ (l : List Note). give b ∷ l) e

-- likewise with a block that could not be sent to a side whose write didn't end the match: no failure is noted
unsent_more : (reason : Reason) (b s : Block) (l l' : List Note) → b ≡ s → is_write_fault_of reason b.to ≡ false → l ≡ l'
    → Gives s.to (bytes_of s.lines)
    ∷ (list_if (is_write_fault_of reason s.to) (Happened (FailsToWrite s.to) ∷ []) ++ l) ≡ give b ∷ l'
unsent_more reason b s l l' q w e =
    ap (λ (x : Block). give x ∷ (list_if (is_write_fault_of reason x.to) (Happened (FailsToWrite x.to) ∷ []) ++ l)) (sym q)
    ∙ ap (λ (x : Bool). give b ∷ (list_if x (Happened (FailsToWrite b.to) ∷ []) ++ l)) w
    ∙ ap (λ (l : List Note). give b ∷ l) e

-- ---- a match that is on

-- the moment of an event that is shown
abbrev moment_of : Event → ℕ
moment_of (Line S text moment) = moment
moment_of (Silent S moment) = moment
moment_of e = 0

-- the match after an event that is shown, at whose moment its turn was opened
abbrev step : Rules → Match → Event → Match
step r m e = opened (effect r (reopen (moment_of e) m) e).after

-- these events, but without the last one if a flag fell at it (`late`)
abbrev in_time : Bool → List Event → List Event
in_time late [] = []
in_time late (e ∷ []) = if late then [] else e ∷ []
in_time late (e ∷ f ∷ es) = e ∷ in_time late (f ∷ es)

-- the match after these events, played again from `m`; without the last one if a flag fell at it (`late`)
abbrev pub replayed : Rules → Bool → Match → List Event → Match
replayed r late m es = fold (step r) m (in_time late es)

-- the match `n` has the moves and the items of `final`, and also its phase, unless a flag fell (`late`)
abbrev Same : Bool → Match → Match → Type 0
Same late final n = (final.played ≡ n.played) × ((S : Colour) → (final.seat S).items ≡ (n.seat S).items)
    × (late ≡ false → final.phase ≡ n.phase)

-- what the notes of a match from `m` on, which ended as `final` for `reason`, show: the last of them is a block with
-- the end lines, at least one event is shown, and playing the shown events again from `m` leads to `final`'s moves and
-- items, and to its phase unless a flag fell
pub record Goes (r : Rules) (reason : Reason) (final m : Match) (notes : List Note) : Type 0 where
  pub last : EndsAs (shown_reason r final reason) notes
  pub some : (e : Event) × (es : List Event) × (events_shown (events_in notes) ≡ e ∷ es)
  pub same : Same (ends_by_flag reason) final
      (replayed r (ends_by_flag reason) (again m) (events_shown (events_in notes)))

-- what a match and its notes lead to, if it is over, and if it is not
abbrev Leads : Rules → Reason → Match → Match → List Block → List Note → Type 0
Leads r reason final m due notes =
    (is_over m.phase ≡ true → Rests reason final m due notes) × (is_over m.phase ≡ false → Goes r reason final m notes)

module _ (r : Rules) (reason : Reason) (final : Match) (over : final.phase ≡ Over reason) where
  -- whether a flag fell
  abbrev late : Bool
  late = ends_by_flag reason

  -- the match ended for this event
  ended : (m : Match) (e : Event) (first : Colour) (x : Reason) (notes : List Note)
      → ((es : List Event) → events_shown (e ∷ es) ≡ e ∷ events_shown es) → (effect r m e).after.phase ≡ Over x
      → Stops (shown_reason r (effect r m e).after x) x (effect r m e).to
      → Rests reason final (effect r m e).after (blocks_from first (effect r m e).to) notes
      → (x ≡ reason → final ≡ (effect r m e).after
      → Same (ends_by_flag reason) final (replayed r (ends_by_flag reason) (again m) (e ∷ [])))
      → Goes r reason final m (Happened e ∷ notes)
  ended m e first x notes shown p stops (is, given) same =
      let both : Over x ≡ Over reason = sym p ∙ ap (λ (n : Match). n.phase) (sym is) ∙ over in
      let same_reason : x ≡ reason = cc in
      let stops' = subst (λ (y : Reason). Stops (shown_reason r (effect r m e).after y) y (effect r m e).to) same_reason
      stops in
      let due = blocks_from first (effect r m e).to in
      let all = given (all_written reason due stops'.written) in
      let only : events_shown (events_in (Happened e ∷ notes)) ≡ e ∷ [] =
      shown (events_in notes) ∙ ap (λ (es : List Event). e ∷ events_shown es) (ap events_in all ∙ no_events due) in
      record {
        last = more_before (shown_reason r final reason) (Happened e ∷ []) notes
            (subst (EndsAs (shown_reason r final reason)) (sym all)
            (subst (λ (n : Match). EndsAs (shown_reason r n reason) (map give due)) (sym is)
            (blocks_end (shown_reason r (effect r m e).after reason) reason first (effect r m e).to stops')));
        some = (e, [], only);
        same = subst (λ (es : List Event). Same late final (replayed r late (again m) es)) (sym only)
            (same same_reason is);
      }

  -- it did not
  went_on : (m : Match) (e : Event) (notes : List Note)
      → ((es : List Event) → events_shown (e ∷ es) ≡ e ∷ events_shown es)
      → again (effect r m e).after ≡ step r (again m) e → Goes r reason final (effect r m e).after notes
      → Goes r reason final m (Happened e ∷ notes)
  went_on m e notes shown is g =
      let (f, es, more) = g.some in
      let all : events_shown (events_in (Happened e ∷ notes)) ≡ e ∷ f ∷ es =
      shown (events_in notes) ∙ ap (λ (l : List Event). e ∷ l) more in
      record {
        last = more_before (shown_reason r final reason) (Happened e ∷ []) notes g.last;
        some = (e, f ∷ es, all);
        same = subst (λ (l : List Event). Same late final (replayed r late (again m) l)) (sym all)
            (subst (λ (n : Match). Same late final (replayed r late n (f ∷ es))) is
            (subst (λ (l : List Event). Same late final (replayed r late (again (effect r m e).after) l)) more g.same));
      }

  -- an event that is shown either lets a flag fall (Falls), or does the same when it is played again (Again); so the
  -- match ends there or goes on
  shown_event : (m : Match) (e : Event) (first : Colour) (notes : List Note)
      → ((es : List Event) → events_shown (e ∷ es) ≡ e ∷ events_shown es)
      → Falls r m (effect r m e) ⊎ Again r (effect r m e) (effect r (anew (moment_of e) m) e)
      → Leads r reason final (effect r m e).after (blocks_from first (effect r m e).to) notes
      → Goes r reason final m (Happened e ∷ notes)
  shown_event m e first notes shown (inl (x, flag, is, stops)) g =
      let p : (effect r m e).after.phase ≡ Over x = ap (λ (n : Match). n.phase) is in
      ended m e first x notes shown p (subst (λ (n : Match). Stops (shown_reason r n x) x (effect r m e).to) (sym is) stops)
      (g.0 (ap is_over p)) (λ q end.
      subst (λ (b : Bool). Same b final (replayed r b (again m) (e ∷ []))) (sym (ap ends_by_flag (sym q) ∙ flag)) (
        ap (λ (n : Match). n.played) (end ∙ is),
        λ S. ap (λ (n : Match). (n.seat S).items) (end ∙ is),
        λ off. absurd cc,
      ))
  shown_event m e first notes shown (inr h) g = at (is_over (effect r m e).after.phase) refl
    where
      at : (b : Bool) → is_over (effect r m e).after.phase ≡ b → Goes r reason final m (Happened e ∷ notes)
      at true o =
          let (x, p) = which (effect r m e).after.phase o in
          let (plain, stops) = h.stops x p in
          ended m e first x notes shown p stops (g.0 o) (λ q end.
          subst (λ (b : Bool). Same b final (replayed r b (again m) (e ∷ []))) (sym (ap ends_by_flag (sym q) ∙ plain))
          (subst (λ (n : Match). Same false final n) (ap (λ (n : Match). again n) end ∙ h.same)
          (refl, (λ S. refl), (λ plain. over ∙ sym (ap waits over)))))
      at false on = went_on m e notes shown h.same (g.1 on)

  -- a write failed
  unwritten : (m : Match) (s : Block) (notes : List Note)
      → Rests reason final (effect r m (FailsToWrite s.to)).after
      (blocks_from White (effect r m (FailsToWrite s.to)).to) notes
      → Goes r reason final m
      (give s ∷ (list_if (is_write_fault_of reason s.to) (Happened (FailsToWrite s.to) ∷ []) ++ notes))
  unwritten m s notes (is, given) =
      let both : Over (Faulted s.to Write) ≡ Over reason = ap (λ (n : Match). n.phase) (sym is) ∙ over in
      let same : Faulted s.to Write ≡ reason = cc in
      let mine : is_write_fault_of reason s.to ≡ true =
      ap (λ (x : Reason). is_write_fault_of x s.to) (sym same) ∙ own_unwritten s.to in
      let timely : ends_by_flag reason ≡ false = ap ends_by_flag (sym same) in
      let before = list_if (is_owed_move m.phase (other s.to)) (move_line r m (other s.to) ∷ []) in
      let all : notes
      ≡ Gives (other s.to) (bytes_of (before ++ last_lines (shown_reason r final reason))) ∷ [] =
      given (subst (AreWritten reason) (sym (other_block r m s.to))
      (ap (λ (x : Reason). is_write_fault_of x (other s.to)) (sym same) ∙ other_written s.to, tt))
      ∙ ap (λ (l : List Block). map give l) (other_block r m s.to)
      ∙ ap (λ (x : Reason). Gives (other s.to) (bytes_of (before ++ last_lines (shown_reason r m x))) ∷ []) same
      ∙ ap (λ (n : Match). Gives (other s.to) (bytes_of (before ++ last_lines (shown_reason r n reason))) ∷ []) (sym is) in
      rw (mine, all) (record {
        last = (give s ∷ Happened (FailsToWrite s.to) ∷ [], other s.to, before, refl);
        some = (FailsToWrite s.to, [], refl);
        same = subst (λ (x : Bool). Same x final (replayed r x (again m) (FailsToWrite s.to ∷ []))) (sym timely) (
          ap (λ (n : Match). n.played) is,
          (λ S. ap (λ (n : Match). (n.seat S).items) is),
          (λ plain. ap (λ (n : Match). n.phase) is),
        );
      })

  -- an event that opens a turn changes nothing in the match that is played again
  on_opened : (m : Match) (S : Colour) (k : ℕ) → m.phase ≡ Opening S
      → again (effect r m (Opened S k)).after ≡ again m
  on_opened m S k o = ap (λ (p : Phase). let x : Match = record (again m) { phase = p } in x) (sym (ap waits o))

  -- after a block could not be sent
  abbrev Broken : Match → List Block → Block → List Act → Bool → Type 0
  Broken m due s H x =
      let n : Match × List Block = if x then (m, due)
      else ((effect r m (FailsToWrite s.to)).after, blocks_from White (effect r m (FailsToWrite s.to)).to) in
      IsMatchFrom r n.0 n.1 H final

  -- a match that still waits for a line isn't over
  awaiting : (m : Match) (S : Colour) (due : List Block) (notes : List Note) → awaits_line m.phase S ≡ true
      → is_over m.phase ≡ true → Rests reason final m due notes
  awaiting m S due notes aw o = not_over (is_over m.phase) o (on_when_read m.phase S aw)

  -- by induction over the acts: blocks sent or not, and each kind of event
  leads : (m : Match) (due : List Block) (H : List Act) → IsMatchFrom r m due H final
      → Leads r reason final m due (notes_given reason H)
  leads m (b ∷ due) (Sends s ∷ H) (q, g) = let p = leads m due H g in (
    λ o. let (e, n) = p.0 o in (e, λ w. sent_more b s _ _ q (n w.1)),
    λ on. record {
      last = more_before (shown_reason r final reason) (give s ∷ []) (notes_given reason H) (p.1 on).last;
      some = (p.1 on).some;
      same = (p.1 on).same;
    },
  )
  leads m (b ∷ due) (SendFails s ∷ H) (q, g) = (
    λ o. let (e, n) = (leads m due H (subst (Broken m due s H) o g)).0 o in
        (e, λ w. unsent_more reason b s _ _ q w.0 (n w.1)),
    λ on. unwritten m s (notes_given reason H) ((leads (effect r m (FailsToWrite s.to)).after
        (blocks_from White (effect r m (FailsToWrite s.to)).to) H (subst (Broken m due s H) on g)).0 refl),
  )
  leads m [] (Happens (Line S t k) ∷ H) (aw, g) = (
    awaiting m S [] _ aw,
    λ on. shown_event m (Line S t k) (if is_over (effect r m (Line S t k)).after.phase then White else S)
        (notes_given reason H) (λ es. refl) (line_again r S (line_kind t) k m m.phase aw on)
        (leads (effect r m (Line S t k)).after (blocks_after S (effect r m (Line S t k))) H g),
  )
  leads m [] (Happens (Opened S k) ∷ H) (o, g) = let p = (leads (effect r m (Opened S k)).after [] H g).1 refl in (
    λ over. not_over (is_over m.phase) over (ap is_over o),
    λ on. record {
      last = more_before (shown_reason r final reason) (Happened (Opened S k) ∷ []) (notes_given reason H) p.last;
      some = p.some;
      same = let es : List Event = events_shown (events_in (notes_given reason H)) in
          subst (λ (n : Match). Same late final (replayed r late n es)) (on_opened m S k o) p.same;
    },
  )
  leads m [] (Happens (Silent S k) ∷ H) (may, g) =
      let aw = (and_parts (awaits_line m.phase S) (is_limited r.patience m.phase) may).0 in (
        awaiting m S [] _ aw,
        λ on. shown_event m (Silent S k) White (notes_given reason H) (λ es. refl)
            (silence_again r S k m m.phase aw on)
            (leads (effect r m (Silent S k)).after (blocks_from White (effect r m (Silent S k)).to) H g),
      )
  leads m [] (Happens (OutputEnds S) ∷ H) (aw, g) = (
    awaiting m S [] _ aw,
    λ on. shown_event m (OutputEnds S) White (notes_given reason H) (λ es. refl)
        (inr (over_again r (Faulted S Ended) 0 m (refl, λ O. refl)))
        (leads (effect r m (OutputEnds S)).after (blocks_from White (effect r m (OutputEnds S)).to) H g),
  )
  leads m [] (Happens (FailsToRead S) ∷ H) (aw, g) = (
    awaiting m S [] _ aw,
    λ on. shown_event m (FailsToRead S) White (notes_given reason H) (λ es. refl)
        (inr (over_again r (Faulted S Read) 0 m (refl, λ O. refl)))
        (leads (effect r m (FailsToRead S)).after (blocks_from White (effect r m (FailsToRead S)).to) H g),
  )
  leads m [] (Happens (FailsToWrite S) ∷ H) (never, g) = absurd never
  leads m [] [] (o, e) = (λ over. (e, λ w. refl), λ on. not_over (is_over m.phase) o on)
  leads m due H g = absurd g

-- the whole match, from its beginning
pub match_goes : (r : Rules) (reason : Reason) (H : List Act) (final : Match) → IsMatch r H final
    → final.phase ≡ Over reason → Goes r reason final beginning.after (notes_given reason H)
match_goes r reason H final g over =
    (leads r reason final over beginning.after (blocks_from White beginning.to) H g).1 refl
