-- What passes at a desk, the table made of each engine's two pipes, a clock and a witness (src/desk.rt). First for each
-- call of the desk: from what it did to its device follows which steps passed (`note_moves` to `until_moves`). Then for
-- a whole match, by induction over its acts: what its steps (`watched`) did to each device, its acts did. Last: acts
-- that look for no line leave all outputs (`tail_same`).
use Rattle.std.proofs.Common.{◌≡◌, ℕ, Bool, true, false, List, [], ◌∷◌, ◌++◌, refl, ap, sym, ◌∙◌, subst, append_assoc, append-nil, Option, None, Some, Result, Ok, Err, arith, if◌then◌else◌}
use Rattle.byte_devices.specs.{Devices.InputState, Devices.OutputState, Transfers.Devices}
use Rattle.chess_base.specs.{declared.man.Colour.Colour, Men.other, Options.list_if}
use Rattle.text_lines.specs.{Lines.Held, Lines.LineSeen, Lines.nothing_held, Next.NextLine, Next.NextLineUntil}
use Rattle.chess_match.specs.Acts.{Act, Block, Sends, SendFails, Happens, is_over}
use Rattle.chess_match.specs.{Effects.Match, Effects.effect, Rules.Rules, laws.Laws.moments_shown, laws.Laws.notes_given, Lines.SentLine, Lines.bytes_of, Reasons.is_write_fault_of, Run.ClockReadings, Run.text_read, declared.reason.Reason.Reason, declared.run.TheConstants.ENGINE_LINE_LEN, ties.EngineOutput.OutputAt, ties.Reported.SendsIf}
use Rattle.chess_match.specs.Events.{Line, Opened, Silent, OutputEnds, FailsToRead, FailsToWrite}
use Rattle.chess_match.specs.Notes.{Note, Noted, Happened, Gives, WasNoted}
use Rattle.chess_match.specs.Table.{Does, LooksFor, ReadsLine, FindsNoLine, ReadsClock, Notes, Passes, Step, reading_of, reading_until, sending, watched}
use Rattle.chess_match.specs.ties.AtDesk.{Did, NotedSince, ReadsOf, WritesAt, WritesOf, acts_in, moments_in, notes_in}
use Rattle.chess_match.proofs.{ClockAsked.asked_more, ClockAsked.asked_none, shared.MatchCases.unread}
use Rattle.chess_match.proofs.LinesRead.{act_read, other_read, other_silent, own_read, own_silent}

-- ---- one step more

acts_in-append : (K J : List Step) → acts_in (K ++ J) ≡ acts_in K ++ acts_in J
acts_in-append [] J = refl
acts_in-append (Does a ∷ K) J = ap (λ (l : List Act). a ∷ l) (acts_in-append K J)
acts_in-append (ReadsLine c t ∷ K) J = ap (λ (l : List Act). Happens (Line c t 0) ∷ l) (acts_in-append K J)
acts_in-append (FindsNoLine c ∷ K) J = ap (λ (l : List Act). Happens (Silent c 0) ∷ l) (acts_in-append K J)
acts_in-append (LooksFor c u ∷ K) J = acts_in-append K J
acts_in-append (ReadsClock c n ∷ K) J = acts_in-append K J
acts_in-append (Notes n ∷ K) J = acts_in-append K J

notes_in-append : (K J : List Step) → notes_in (K ++ J) ≡ notes_in K ++ notes_in J
notes_in-append [] J = refl
notes_in-append (Does a ∷ K) J = notes_in-append K J
notes_in-append (ReadsLine c t ∷ K) J = notes_in-append K J
notes_in-append (FindsNoLine c ∷ K) J = notes_in-append K J
notes_in-append (LooksFor c u ∷ K) J = notes_in-append K J
notes_in-append (ReadsClock c n ∷ K) J = notes_in-append K J
notes_in-append (Notes n ∷ K) J = ap (λ (l : List Note). n ∷ l) (notes_in-append K J)

moments_in-append : (K J : List Step) → moments_in (K ++ J) ≡ moments_in K ++ moments_in J
moments_in-append [] J = refl
moments_in-append (ReadsClock c n ∷ K) J = ap (λ (l : List ℕ). n ∷ l) (moments_in-append K J)
moments_in-append (Does a ∷ K) J = moments_in-append K J
moments_in-append (LooksFor c u ∷ K) J = moments_in-append K J
moments_in-append (ReadsLine c t ∷ K) J = moments_in-append K J
moments_in-append (FindsNoLine c ∷ K) J = moments_in-append K J
moments_in-append (Notes n ∷ K) J = moments_in-append K J

reads-append : (S : Colour) (H G : List Act) (r r' r'' : InputState) (h h' h'' : Held) → ReadsOf S H r r' h h'
    → ReadsOf S G r' r'' h' h'' → ReadsOf S (H ++ G) r r'' h h''
reads-append S [] G r r' r'' h h' h'' (e, k) q =
    subst (λ (x : InputState). ReadsOf S G x r'' h h'') e (subst (λ (x : Held). ReadsOf S G r' r'' x h'') k q)
reads-append S (a ∷ H) G r r' r'' h h' h'' (v, k, o, p) q = (v, k, o, reads-append S H G v r' r'' k h' h'' p q)

writes-append : (S : Colour) (H G : List Act) (w w' w'' : OutputState) → WritesOf S H w w' → WritesOf S G w' w''
    → WritesOf S (H ++ G) w w''
writes-append S [] G w w' w'' e q = subst (λ (x : OutputState). WritesOf S G x w'') e q
writes-append S (a ∷ H) G w w' w'' (v, o, p) q = (v, o, writes-append S H G v w' w'' p q)

-- the steps `J` took a desk from one state (each engine's pipes, what is held of its output, the clock, the witness,
-- the references) to another (the names with `'`)
pub record Moves (engines engines' : Colour → Devices) (held held' : Colour → Held) (coming coming' : ℕ → Option ℕ)
    (witness witness' : Noted) (names names' : List ℕ) (J : List Step) : Type 0 where
  pub named : names' ≡ names
  pub read : (S : Colour) → ReadsOf S (acts_in J) (engines S).input (engines' S).input (held S) (held' S)
  pub written : (S : Colour) → WritesOf S (acts_in J) (engines S).output (engines' S).output
  pub moments : ClockReadings coming coming' (moments_in J)
  pub noted : WasNoted witness witness' (notes_in J)

-- a witness that was given the notes `M` since the desk's beginning, and then `N`, was given `M ++ N` since then
since_more : (a b : Noted) (first : Option (List ℕ × List Note)) (M N all : List Note) → all ≡ M ++ N
    → WasNoted a b N → NotedSince a first M → NotedSince b first all
since_more a b None M N all e p h = tt
since_more a b (Some (text, notes)) M N all e p h =
    subst (λ (ns : List Note). b text ns)
    (append_assoc notes M N ∙ ap (λ (l : List Note). notes ++ l) (sym e)) (p.extends text (notes ++ M) h)

-- if the steps `J` took the desk from one state to another, then after any steps that may have passed up to the first,
-- `J` passed up to the second
pub moved : (engines engines' : Colour → Devices) (held held' : Colour → Held) (coming coming' : ℕ → Option ℕ)
    (witness witness' : Noted) (names names' : List ℕ) (J : List Step)
    → Moves engines engines' held held' coming coming' witness witness' names names' J
    → Passes (λ begun K. Did begun engines held coming witness names K)
    (λ begun K. Did begun engines' held' coming' witness' names' K) J
moved engines engines' held held' coming coming' witness witness' names names' J m = record {
  extends = λ begun K d. record {
    named = m.named ∙ d.named;
    read = λ S. subst (λ (H : List Act).
        ReadsOf S H (begun.engines S).input (engines' S).input nothing_held (held' S)) (sym (acts_in-append K J))
        (reads-append S (acts_in K) (acts_in J) _ (engines S).input _ _ (held S) _ (d.read S) (m.read S));
    written = λ S. subst (λ (H : List Act). WritesOf S H (begun.engines S).output (engines' S).output)
        (sym (acts_in-append K J))
        (writes-append S (acts_in K) (acts_in J) _ (engines S).output _ (d.written S) (m.written S));
    moments = subst (λ (ms : List ℕ). ClockReadings begun.coming coming' ms) (sym (moments_in-append K J))
        (asked_more begun.coming coming coming' (moments_in K) (moments_in J) d.moments m.moments);
    noted = since_more witness witness' begun.noted (notes_in K) (notes_in J) (notes_in (K ++ J)) (notes_in-append K J)
        m.noted d.noted;
  };
}

-- ---- the calls

-- a witness that was given nothing stays as it was
same_noted : (a : Noted) → WasNoted a a []
same_noted a = record { extends = λ before notes h. subst (λ (l : List Note). a before l) (sym (append-nil notes)) h }

-- the call `note`: the witness was given a note, and all else stays
pub note_moves : (engines : Colour → Devices) (held : Colour → Held) (coming : ℕ → Option ℕ) (witness witness' : Noted)
    (names : List ℕ) (n : Note) → WasNoted witness witness' (n ∷ [])
    → Passes (λ begun K. Did begun engines held coming witness names K)
    (λ begun K. Did begun engines held coming witness' names K) (Notes n ∷ [])
note_moves engines held coming witness witness' names n h =
    moved engines engines held held coming coming witness witness' names names (Notes n ∷ []) (record {
      named = refl;
      read = λ S. (refl, refl);
      written = λ S. refl;
      moments = asked_none coming;
      noted = h;
    })

-- the call `moment`: the clock was read, and all else stays
pub clock_moves : (engines : Colour → Devices) (held : Colour → Held) (coming coming' : ℕ → Option ℕ) (witness : Noted)
    (names : List ℕ) (c : Colour) (n : ℕ) → ClockReadings coming coming' (n ∷ [])
    → Passes (λ begun K. Did begun engines held coming witness names K)
    (λ begun K. Did begun engines held coming' witness names K) (ReadsClock c n ∷ [])
clock_moves engines held coming coming' witness names c n h =
    moved engines engines held held coming coming' witness witness names names (ReadsClock c n ∷ []) (record {
      named = refl;
      read = λ S. (refl, refl);
      written = λ S. refl;
      moments = h;
      noted = same_noted witness;
    })

-- ---- an engine's pipe

-- what holds of S and of the other side holds of each side
either : (P : Colour → Type 0) (S : Colour) → P S → P (other S) → (X : Colour) → P X
either P S h1 h2 X = grind arith

-- sending a block to S, whether it fails or not, does to the input of its engine what the act says
writes_own : (S : Colour) (failed : Bool) (lines : List SentLine) (w w' : OutputState)
    → SendsIf failed w w' (bytes_of lines) → WritesAt S (sending failed (record { to = S; lines = lines })) w w'
writes_own S failed lines w w' h1 = grind arith

-- sending a block to S leaves the input of the other engine as it is
writes_other : (S : Colour) (failed : Bool) (lines : List SentLine) (w w' : OutputState) → w' ≡ w
    → WritesAt (other S) (sending failed (record { to = S; lines = lines })) w w'
writes_other S failed lines w w' h1 = grind arith

-- sending a block reads no engine's output
reads_nothing : (S X : Colour) (failed : Bool) (lines : List SentLine) (r r' : InputState) (h : Held) → r' ≡ r
    → OutputAt X (sending failed (record { to = S; lines = lines })) r r' h h
reads_nothing S X true lines r r' h e = (e, refl)
reads_nothing S X false lines r r' h e = (e, refl)

-- the call `send`: a block was sent, or a write of it failed
pub send_moves : (engines engines' : Colour → Devices) (held : Colour → Held) (coming : ℕ → Option ℕ) (witness : Noted)
    (names : List ℕ) (S : Colour) (failed : Bool) (lines : List SentLine)
    → SendsIf failed (engines S).output (engines' S).output (bytes_of lines)
    → (engines' S).input ≡ (engines S).input → engines' (other S) ≡ engines (other S)
    → Passes (λ begun K. Did begun engines held coming witness names K)
    (λ begun K. Did begun engines' held coming witness names K)
    (Does (sending failed (record { to = S; lines = lines })) ∷ [])
send_moves engines engines' held coming witness names S failed lines h same others =
    moved engines engines' held held coming coming witness witness names names
    (Does (sending failed (record { to = S; lines = lines })) ∷ []) (record {
      named = refl;
      read = λ X. (
        (engines' X).input,
        held X,
        reads_nothing S X failed lines (engines X).input (engines' X).input (held X)
            (either (λ Y. (engines' Y).input ≡ (engines Y).input) S same (ap (λ d. d.input) others) X),
        (refl, refl),
      );
      written = either (λ X. WritesOf X (sending failed (record { to = S; lines = lines }) ∷ []) (engines X).output
          (engines' X).output) S
          ((engines' S).output, writes_own S failed lines (engines S).output (engines' S).output h, refl) (
            (engines' (other S)).output,
            writes_other S failed lines (engines (other S)).output (engines' (other S)).output
                (ap (λ d. d.output) others),
            refl,
          );
      moments = asked_none coming;
      noted = same_noted witness;
    })

-- the act of a read writes to no engine
read_writes : {E : Type 0} (S X : Colour) (result : Result (Option LineSeen) E) (w : OutputState)
    → WritesAt X (act_read S result) w w
read_writes S X (Err x) w = refl
read_writes S X (Ok None) w = refl
read_writes S X (Ok (Some line)) w = at line.ended
  where
    at : (b : Bool) → WritesAt X (if b then Happens (Line S (text_read line) 0) else Happens (OutputEnds S)) w w
    at true = refl
    at false = refl

-- the step of a read has one act (`act_read`), no moment and no note
read_step : {E : Type 0} (S : Colour) (result : Result (Option LineSeen) E)
    → (acts_in (reading_of S result ∷ []) ≡ act_read S result ∷ []) × (moments_in (reading_of S result ∷ []) ≡ [])
    × (notes_in (reading_of S result ∷ []) ≡ [])
read_step S (Err x) = (refl, refl, refl)
read_step S (Ok None) = (refl, refl, refl)
read_step S (Ok (Some line)) = at line.ended
  where
    step : Bool → Step
    step b = if b then ReadsLine S (text_read line) else Does (Happens (OutputEnds S))

    at : (b : Bool) → (acts_in (step b ∷ [])
        ≡ (if b then Happens (Line S (text_read line) 0) else Happens (OutputEnds S)) ∷ [])
        × (moments_in (step b ∷ []) ≡ []) × (notes_in (step b ∷ []) ≡ [])
    at true = (refl, refl, refl)
    at false = (refl, refl, refl)

-- a look for a line of S, and the step that says what it found: if the step has just this act, and the act did to both
-- outputs what is said here, then these two steps passed
found_moves : (engines engines' : Colour → Devices) (held held' : Colour → Held) (coming : ℕ → Option ℕ)
    (witness : Noted) (names : List ℕ) (S : Colour) (until : Option ℕ) (step : Step) (act : Act)
    → (acts_in (step ∷ []) ≡ act ∷ []) × (moments_in (step ∷ []) ≡ []) × (notes_in (step ∷ []) ≡ [])
    → OutputAt S act (engines S).input (engines' S).input (held S) (held' S)
    → OutputAt (other S) act (engines (other S)).input (engines' (other S)).input (held (other S)) (held' (other S))
    → ((X : Colour) (w : OutputState) → WritesAt X act w w)
    → (engines' S).output ≡ (engines S).output → engines' (other S) ≡ engines (other S)
    → Passes (λ begun K. Did begun engines held coming witness names K)
    (λ begun K. Did begun engines' held' coming witness names K) (LooksFor S until ∷ step ∷ [])
found_moves engines engines' held held' coming witness names S until step act e own_at other_at writes same others =
    moved engines engines' held held' coming coming witness witness names names (LooksFor S until ∷ step ∷ []) (record {
      named = refl;
      read = λ X. subst (λ (H : List Act). ReadsOf X H (engines X).input (engines' X).input (held X) (held' X))
          (sym e.0) (
            (engines' X).input,
            held' X,
            either (λ Y. OutputAt Y act (engines Y).input (engines' Y).input (held Y) (held' Y)) S own_at other_at X,
            (refl, refl),
          );
      written = λ X. subst (λ (H : List Act). WritesOf X H (engines X).output (engines' X).output) (sym e.0) (
        (engines X).output,
        writes X (engines X).output,
        either (λ Y. (engines' Y).output ≡ (engines Y).output) S same (ap (λ d. d.output) others) X,
      );
      moments = subst (λ (ms : List ℕ). ClockReadings coming coming ms) (sym e.1) (asked_none coming);
      noted = subst (λ (ns : List Note). WasNoted witness witness ns) (sym e.2) (same_noted witness);
    })

-- the call `read_line`: after the look a line was read, or an end or a failure came
pub read_moves : {E : Type 0} (engines engines' : Colour → Devices) (held held' : Colour → Held) (coming : ℕ → Option ℕ)
    (witness : Noted) (names : List ℕ) (S : Colour) (until : Option ℕ) (result : Result (Option LineSeen) E)
    → NextLine ENGINE_LINE_LEN (engines S).input (engines' S).input (held S) (held' S) result
    → (engines' S).output ≡ (engines S).output → engines' (other S) ≡ engines (other S)
    → held' (other S) ≡ held (other S)
    → Passes (λ begun K. Did begun engines held coming witness names K)
    (λ begun K. Did begun engines' held' coming witness names K) (LooksFor S until ∷ reading_of S result ∷ [])
read_moves engines engines' held held' coming witness names S until result next same others kept =
    found_moves engines engines' held held' coming witness names S until (reading_of S result) (act_read S result)
    (read_step S result) (own_read S (engines S).input (engines' S).input (held S) (held' S) result next)
    (other_read S (engines (other S)).input (engines' (other S)).input (held (other S)) (held' (other S)) result
    (ap (λ d. d.input) others) kept) (λ X w. read_writes S X result w) same others

-- the call `read_line_until`: after the look a line was read, or an end or a failure came, or no line had come in time
pub until_moves : {E : Type 0} (engines engines' : Colour → Devices) (held held' : Colour → Held)
    (coming : ℕ → Option ℕ) (witness : Noted) (names : List ℕ) (S : Colour) (until : Option ℕ)
    (result : Result (Option Bool) E) (line : LineSeen)
    → NextLineUntil ENGINE_LINE_LEN (engines S).input (engines' S).input (held S) (held' S) result line
    → (engines' S).output ≡ (engines S).output → engines' (other S) ≡ engines (other S)
    → held' (other S) ≡ held (other S)
    → Passes (λ begun K. Did begun engines held coming witness names K)
    (λ begun K. Did begun engines' held' coming witness names K) (LooksFor S until ∷ reading_until S result line ∷ [])
until_moves {E = E} engines engines' held held' coming witness names S until (Ok None) line next same others kept =
    found_moves engines engines' held held' coming witness names S until (FindsNoLine S) (Happens (Silent S 0))
    (refl, refl, refl) (own_silent E S (engines S).input (engines' S).input (held S) (held' S) line next)
    (other_silent S (engines (other S)).input (engines' (other S)).input (held (other S)) (held' (other S))
    (ap (λ d. d.input) others) kept) (λ X w. refl) same others
until_moves {E = E} engines engines' held held' coming witness names S until (Ok (Some true)) line next same others kept =
    read_moves {E = E} engines engines' held held' coming witness names S until (Ok (Some line)) next same others kept
until_moves {E = E} engines engines' held held' coming witness names S until (Ok (Some false)) line next same others kept =
    read_moves {E = E} engines engines' held held' coming witness names S until (Ok None) next same others kept
until_moves engines engines' held held' coming witness names S until (Err e) line next same others kept =
    read_moves engines engines' held held' coming witness names S until (Err e) next same others kept

-- ---- a whole match

-- the note of a failed write, whether it is given (`x`) or not, has no act and no moment
no_more : (to : Colour) (K : List Step) (x : Bool)
    → (acts_in (list_if x (Notes (Happened (FailsToWrite to)) ∷ []) ++ K) ≡ acts_in K)
    × (moments_in (list_if x (Notes (Happened (FailsToWrite to)) ∷ []) ++ K) ≡ moments_in K)
no_more to K true = (refl, refl)
no_more to K false = (refl, refl)

-- the match after a block could not be sent
abbrev after_failure : Rules → Match → Block → Match
after_failure rules m b = if is_over m.phase then m else (effect rules m (FailsToWrite b.to)).after

-- what the steps of a match did to the output of an engine, its acts did: they differ only in the moments of lines and
-- silences, which no output shows
pub reads_watched : (rules : Rules) (reason : Reason) (m : Match) (S : Colour) (H : List Act) (r r' : InputState)
    (h h' : Held) → ReadsOf S (acts_in (watched rules reason m H)) r r' h h' → ReadsOf S H r r' h h'
reads_watched rules reason m S [] r r' h h' p = p
reads_watched rules reason m S (Sends b ∷ H) r r' h h' (v, k, o, p) =
    (v, k, o, reads_watched rules reason m S H v r' k h' p)
reads_watched rules reason m S (SendFails b ∷ H) r r' h h' (v, k, o, p) =
    let m' : Match = after_failure rules m b in
    let e = (no_more b.to (watched rules reason m' H) (is_write_fault_of reason b.to)).0 in
    (v, k, o, reads_watched rules reason m' S H v r' k h' (subst (λ (G : List Act). ReadsOf S G v r' k h') e p))
reads_watched rules reason m S (Happens (Line c t n) ∷ H) r r' h h' (v, k, o, p) =
    (v, k, o, reads_watched rules reason (effect rules m (Line c t n)).after S H v r' k h' p)
reads_watched rules reason m S (Happens (Silent c n) ∷ H) r r' h h' (v, k, o, p) =
    (v, k, o, reads_watched rules reason (effect rules m (Silent c n)).after S H v r' k h' p)
reads_watched rules reason m S (Happens (Opened c n) ∷ H) r r' h h' p =
    (r, h, (refl, refl), reads_watched rules reason (effect rules m (Opened c n)).after S H r r' h h' p)
reads_watched rules reason m S (Happens (OutputEnds c) ∷ H) r r' h h' (v, k, o, p) =
    (v, k, o, reads_watched rules reason (effect rules m (OutputEnds c)).after S H v r' k h' p)
reads_watched rules reason m S (Happens (FailsToRead c) ∷ H) r r' h h' (v, k, o, p) =
    (v, k, o, reads_watched rules reason (effect rules m (FailsToRead c)).after S H v r' k h' p)
reads_watched rules reason m S (Happens (FailsToWrite c) ∷ H) r r' h h' (v, k, o, p) =
    (v, k, o, reads_watched rules reason (effect rules m (FailsToWrite c)).after S H v r' k h' p)

-- what the steps of a match did to the input of an engine, its acts did
pub writes_watched : (rules : Rules) (reason : Reason) (m : Match) (S : Colour) (H : List Act) (w w' : OutputState)
    → WritesOf S (acts_in (watched rules reason m H)) w w' → WritesOf S H w w'
writes_watched rules reason m S [] w w' p = p
writes_watched rules reason m S (Sends b ∷ H) w w' (v, o, p) = (v, o, writes_watched rules reason m S H v w' p)
writes_watched rules reason m S (SendFails b ∷ H) w w' (v, o, p) =
    let m' : Match = after_failure rules m b in
    let e = (no_more b.to (watched rules reason m' H) (is_write_fault_of reason b.to)).0 in
    (v, o, writes_watched rules reason m' S H v w' (subst (λ (G : List Act). WritesOf S G v w') e p))
writes_watched rules reason m S (Happens (Line c t n) ∷ H) w w' (v, o, p) =
    (v, o, writes_watched rules reason (effect rules m (Line c t n)).after S H v w' p)
writes_watched rules reason m S (Happens (Silent c n) ∷ H) w w' (v, o, p) =
    (v, o, writes_watched rules reason (effect rules m (Silent c n)).after S H v w' p)
writes_watched rules reason m S (Happens (Opened c n) ∷ H) w w' p =
    (w, refl, writes_watched rules reason (effect rules m (Opened c n)).after S H w w' p)
writes_watched rules reason m S (Happens (OutputEnds c) ∷ H) w w' (v, o, p) =
    (v, o, writes_watched rules reason (effect rules m (OutputEnds c)).after S H v w' p)
writes_watched rules reason m S (Happens (FailsToRead c) ∷ H) w w' (v, o, p) =
    (v, o, writes_watched rules reason (effect rules m (FailsToRead c)).after S H v w' p)
writes_watched rules reason m S (Happens (FailsToWrite c) ∷ H) w w' (v, o, p) =
    (v, o, writes_watched rules reason (effect rules m (FailsToWrite c)).after S H v w' p)

-- the moments of the steps are those of the acts
pub moments_watched : (rules : Rules) (reason : Reason) (m : Match) (H : List Act)
    → moments_in (watched rules reason m H) ≡ moments_shown H
moments_watched rules reason m [] = refl
moments_watched rules reason m (Sends b ∷ H) = moments_watched rules reason m H
moments_watched rules reason m (SendFails b ∷ H) =
    let m' : Match = after_failure rules m b in
    (no_more b.to (watched rules reason m' H) (is_write_fault_of reason b.to)).1 ∙ moments_watched rules reason m' H
moments_watched rules reason m (Happens (Line c t n) ∷ H) =
    ap (λ (l : List ℕ). n ∷ l) (moments_watched rules reason (effect rules m (Line c t n)).after H)
moments_watched rules reason m (Happens (Silent c n) ∷ H) =
    ap (λ (l : List ℕ). n ∷ l) (moments_watched rules reason (effect rules m (Silent c n)).after H)
moments_watched rules reason m (Happens (Opened c n) ∷ H) =
    ap (λ (l : List ℕ). n ∷ l) (moments_watched rules reason (effect rules m (Opened c n)).after H)
moments_watched rules reason m (Happens (OutputEnds c) ∷ H) = moments_watched rules reason (effect rules m (OutputEnds c)).after H
moments_watched rules reason m (Happens (FailsToRead c) ∷ H) = moments_watched rules reason (effect rules m (FailsToRead c)).after H
moments_watched rules reason m (Happens (FailsToWrite c) ∷ H) = moments_watched rules reason (effect rules m (FailsToWrite c)).after H

-- the notes of the steps are those that a witness is given of the acts
pub notes_watched : (rules : Rules) (reason : Reason) (m : Match) (H : List Act)
    → notes_in (watched rules reason m H) ≡ notes_given reason H
notes_watched rules reason m [] = refl
notes_watched rules reason m (Sends b ∷ H) =
    ap (λ (l : List Note). Gives b.to (bytes_of b.lines) ∷ l) (notes_watched rules reason m H)
notes_watched rules reason m (SendFails b ∷ H) = ap (λ (l : List Note). Gives b.to (bytes_of b.lines) ∷ l)
    (at (is_write_fault_of reason b.to) ∙ ap (λ (l : List Note).
    list_if (is_write_fault_of reason b.to) (Happened (FailsToWrite b.to) ∷ []) ++ l) (notes_watched rules reason m' H))
  where
    m' : Match
    m' = after_failure rules m b

    at : (x : Bool) → notes_in (list_if x (Notes (Happened (FailsToWrite b.to)) ∷ []) ++ watched rules reason m' H)
        ≡ list_if x (Happened (FailsToWrite b.to) ∷ []) ++ notes_in (watched rules reason m' H)
    at true = refl
    at false = refl
notes_watched rules reason m (Happens (Line c t n) ∷ H) =
    ap (λ (l : List Note). Happened (Line c t n) ∷ l) (notes_watched rules reason (effect rules m (Line c t n)).after H)
notes_watched rules reason m (Happens (Silent c n) ∷ H) =
    ap (λ (l : List Note). Happened (Silent c n) ∷ l) (notes_watched rules reason (effect rules m (Silent c n)).after H)
notes_watched rules reason m (Happens (Opened c n) ∷ H) =
    ap (λ (l : List Note). Happened (Opened c n) ∷ l) (notes_watched rules reason (effect rules m (Opened c n)).after H)
notes_watched rules reason m (Happens (OutputEnds c) ∷ H) =
    ap (λ (l : List Note). Happened (OutputEnds c) ∷ l) (notes_watched rules reason (effect rules m (OutputEnds c)).after H)
notes_watched rules reason m (Happens (FailsToRead c) ∷ H) =
    ap (λ (l : List Note). Happened (FailsToRead c) ∷ l) (notes_watched rules reason (effect rules m (FailsToRead c)).after H)
notes_watched rules reason m (Happens (FailsToWrite c) ∷ H) =
    ap (λ (l : List Note). Happened (FailsToWrite c) ∷ l) (notes_watched rules reason (effect rules m (FailsToWrite c)).after H)

-- ---- what was read

-- acts that look for no line (`unread`) leave each engine's output as it is
pub tail_same : (S : Colour) (H : List Act) (r r' : InputState) (h h' : Held) → unread H ≡ true → ReadsOf S H r r' h h'
    → r' ≡ r
tail_same S [] r r' h h' u (e, k) = e
tail_same S (Sends b ∷ H) r r' h h' u (v, k, (e, f), p) = tail_same S H v r' k h' u p ∙ e
tail_same S (SendFails b ∷ H) r r' h h' u (v, k, (e, f), p) = tail_same S H v r' k h' u p ∙ e
tail_same S (Happens (Opened c n) ∷ H) r r' h h' u (v, k, (e, f), p) = tail_same S H v r' k h' u p ∙ e
tail_same S (Happens (FailsToWrite c) ∷ H) r r' h h' u (v, k, (e, f), p) = tail_same S H v r' k h' u p ∙ e
tail_same S (Happens (Line c t n) ∷ H) r r' h h' u p = absurd cc
tail_same S (Happens (Silent c n) ∷ H) r r' h h' u p = absurd cc
tail_same S (Happens (OutputEnds c) ∷ H) r r' h h' u p = absurd cc
tail_same S (Happens (FailsToRead c) ∷ H) r r' h h' u p = absurd cc
