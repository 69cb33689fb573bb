-- What serve_lines does, as the claim `Served` says it. The loop's invariant (SoFar): all lines reached were answered,
-- and the server ended with none of them. It holds at the start (start), and an answer more keeps it (go_on). Each way
-- out gives `Served`: a line that ends the server (by_line), a failed write (by_write), a last line without `\n`
-- (by_last), the input's end (by_end), a failed read (by_read).
use Rattle.std.proofs.Common.{◌≡◌, ℕ, ◌+◌, ◌-◌, ◌≤◌, inl, inr, Bool, true, false, List, [], ◌∷◌, ◌++◌, length, Some, None, Ok, Err, refl, sym, ap, ◌∙◌, arith, append_assoc, append-nil, length-append, if◌then◌else◌, subst, slice_get, MatchBool}
use Rattle.std.proofs.{Math.Seq.take-append-add, Math.Seq.take-append_seam, lemmas.Grind.common_steps}
use Rattle.std.specs.Io.KnownBytes.{Consumes, IsAtEnd}
use Rattle.byte_devices.specs.Devices.{InputState, OutputState, Sent, CutShort, saturating_increment}
use Rattle.byte_devices.specs.Transfers.{InputGave, OutputTook, Ran}
use Rattle.byte_devices.proofs.shared.Devices.{consumes_more, consumes_none}
use Rattle.byte_devices.proofs.shared.Transfers.{saturating_increment_if, came, broke, all_for, some_for, took_nothing, took_last, took_one_more, took_some_more}
use Rattle.text_lines.specs.Lines.{LineSeen, Held, nothing_held, stream_lines, lines_held}
use Rattle.text_lines.specs.Next.{before_piece, Waits, GotLine, GotLast, NextLine}
use Rattle.text_lines.proofs.shared.Lines.{nothing_left}
use Rattle.chess_cecp.specs.{Serving.Server, Serving.responses, Served.Served, declared.session.Go.Go, declared.run.End.TheVariants.Quit, declared.run.End.TheVariants.InputEnded, declared.run.Fault.TheVariants.Read, declared.run.Fault.TheVariants.Write, declared.session.TheConstants.COMMAND_LEN}
use Rattle.chess_cecp.specs.declared.session.Go.TheVariants as goes
use Rattle.chess_cecp.proofs.LinesOn.{early_goes_on}
use Rattle.chess_cecp.proofs.Responses.{with_front, stops, alone, responses_on}

-- ---- the lines so far

-- the invariant: from the input `r`, the output `w` and the server `s` the loop has come to `r'`, `w'` and `s'`. The
-- bytes `given` were read, their lines `done` were answered, the server ended with none of them, and the bytes `held`
-- are left, with no line of them returned yet
pub record SoFar {S : Type 0} (respond : Server S) (r r' : InputState) (w w' : OutputState) (s s' : S) (held : Held)
    (given : List ℕ) (done : List LineSeen) : Type 0 where
  pub bytes : Consumes r.known_bytes r'.known_bytes given
  -- the answers to `done` were written and flushed
  pub took : OutputTook w w' (all_for done (responses respond s done).text)
  pub state : s' ≡ (responses respond s done).state
  pub goes_on : (responses respond s done).ends ≡ false
  -- whatever bytes follow (`rest`), and whether or not the end is reported then: the lines of all are `done`, and then
  -- those of the bytes held and of `rest`
  pub lines : (reported : Bool) (rest : List ℕ)
      → stream_lines COMMAND_LEN reported (given ++ rest) ≡ done ++ lines_held COMMAND_LEN reported held rest
  -- the lines that were complete before the last read were all answered, so that read was needed
  pub on_demand : length (stream_lines COMMAND_LEN false (before_piece r'.last_len given)) ≤ length done
  -- no failure, end or silence is counted
  pub failures : r'.failure_count ≡ r.failure_count
  pub ends : r'.end_count ≡ r.end_count
  pub silences : r'.silence_count ≡ r.silence_count

-- the invariant before the first line: nothing was read, answered or held
pub start : {S : Type 0} (respond : Server S) (r : InputState) (w : OutputState) (s : S)
    → SoFar respond r r w w s s nothing_held [] []
start respond r w s = record {
  bytes = consumes_none r.known_bytes;
  took = took_nothing w;
  state = refl;
  goes_on = refl;
  lines = λ reported rest. refl;
  on_demand = (let none : before_piece r.last_len [] ≡ [] = grind (arith, common_steps) in
      rw (none, nothing_left COMMAND_LEN false) (omega arith));
  failures = refl;
  ends = refl;
  silences = refl;
}

-- `line` was read, after the lines `done`: the bytes `given` have the lines `done`, then `line`, then `after`.
-- `reported`: the input's end was reported after these bytes, as it is if no `\n` ended the line
pub record Reached (r r' : InputState) (given : List ℕ) (reported : Bool) (done : List LineSeen) (line : LineSeen)
    (after : List LineSeen) : Type 0 where
  pub bytes : Consumes r.known_bytes r'.known_bytes given
  pub lines : stream_lines COMMAND_LEN reported given ≡ done ++ line ∷ after
  pub on_demand : length (stream_lines COMMAND_LEN false (before_piece r'.last_len given)) ≤ length done
  pub failures : r'.failure_count ≡ r.failure_count
  pub ends : r'.end_count ≡ saturating_increment_if reported r.end_count
  pub silences : r'.silence_count ≡ r.silence_count
  pub at_end : reported ≡ true → IsAtEnd r'.known_bytes

-- `MatchBool b P Q` is `P` if `b` is true, and otherwise `Q`
of_true : (b : Bool) (P Q : Type 0) → b ≡ true → MatchBool b P Q → P
of_true true P Q e p = p
of_true false P Q e p = cc

of_false : (b : Bool) (P Q : Type 0) → b ≡ false → MatchBool b P Q → Q
of_false true P Q e p = cc
of_false false P Q e p = p

-- `line` was read after the lines `done`, for some bytes and some lines after it
abbrev pub IsReached : InputState → InputState → List LineSeen → LineSeen → Type 0
IsReached r r' done line = (given : List ℕ) × (reported : Bool) × (after : List LineSeen)
    × Reached r r' given reported done line after

-- what the input gave up to a line that was reached, as `InputGave` says it
gave : {r r' : InputState} {given : List ℕ} {reported : Bool} {done : List LineSeen} {line : LineSeen}
    {after : List LineSeen} → Reached r r' given reported done line after
    → InputGave r r' (came r' given reported false)
gave at = record {
  bytes = at.bytes;
  early = refl;
  at_end = at.at_end;
  ends = at.ends;
  failures = at.failures;
  silences = at.silences;
}

-- of the lines `done`, `line` and `after`, `line` is the one at the index `length done`
line_there : (done : List LineSeen) (line : LineSeen) (after : List LineSeen)
    → slice_get (done ++ line ∷ after) (length done) ≡ Some line
line_there [] line after = refl
line_there (x ∷ done) line after = line_there done line after

-- what the next call for a line leads to, where the invariant (`f`) holds
module _ {S : Type 0} {respond : Server S} {r r' : InputState} {w w' : OutputState} {s s' : S} {held : Held}
    {given : List ℕ} {done : List LineSeen} (f : SoFar respond r r' w w' s s' held given done) where
  -- the answers so far
  abbrev front : List ℕ
  front = (responses respond s done).text

  -- the lines that were complete before the last read are still no more than `done`, since a call for a line reads on
  -- only if no whole line is held
  waited : (r'' : InputState) (more : List ℕ) → Waits COMMAND_LEN r' r'' held more
      → length (stream_lines COMMAND_LEN false (before_piece r''.last_len (given ++ more))) ≤ length done
  waited r'' more (inl (none, same)) = rw (none, append-nil given, same) f.on_demand
  waited r'' more (inr (few, none)) =
      let at : length (given ++ more) - r''.last_len ≡ length given + (length more - r''.last_len) =
      omega (arith, length-append given more) in
      rw (at, take-append-add given more (length more - r''.last_len)) (
      rw (f.lines false (before_piece r''.last_len more), none, append-nil done) (omega arith))

  -- the line that was read is the last one, which the input's end ended
  reached_last : {r'' : InputState} {held' : Held} {more : List ℕ} {line : LineSeen}
      → Consumes r'.known_bytes r''.known_bytes more → Waits COMMAND_LEN r' r'' held more
      → GotLast COMMAND_LEN r' r'' held held' more line → Reached r r'' (given ++ more) true done line []
  reached_last {r''} {held'} {more} bytes waits got = record {
    bytes = consumes_more r.known_bytes r'.known_bytes r''.known_bytes given more f.bytes bytes;
    lines = f.lines true more ∙ ap (λ v. done ++ v) got.lines;
    on_demand = waited r'' more waits;
    failures = got.failures ∙ f.failures;
    ends = got.ends ∙ ap saturating_increment f.ends;
    silences = got.silences ∙ f.silences;
    at_end = λ e. got.at_end;
  }

  -- the line that was read is reached: either `\n` ended it (`line.ended`), or the input's end
  reached_by : (E : Type 0) (r'' : InputState) (held' : Held) (line : LineSeen) (b : Bool) → line.ended ≡ b
      → NextLine {E = E} COMMAND_LEN r' r'' held held' (Ok (Some line)) → IsReached r r'' done line
  reached_by E r'' held' line true e (more, bytes, waits, got) =
      let g : GotLine COMMAND_LEN r' r'' held held' more line = of_true line.ended _ _ e got in (
        given ++ more,
        false,
        lines_held COMMAND_LEN false held' [],
        record {
          bytes = consumes_more r.known_bytes r'.known_bytes r''.known_bytes given more f.bytes bytes;
          lines = f.lines false more ∙ ap (λ v. done ++ lines_held COMMAND_LEN false held v) (sym (append-nil more))
              ∙ ap (λ v. done ++ v) (g.lines false []);
          on_demand = waited r'' more waits;
          failures = g.failures ∙ f.failures;
          ends = g.ends ∙ f.ends;
          silences = g.silences ∙ f.silences;
          at_end = λ e. cc;
        },
      )
  reached_by E r'' held' line false e (more, bytes, waits, got) =
      (given ++ more, true, [], reached_last {held' = held'} bytes waits (of_false line.ended _ _ e got))

  -- a call for the next line that returned one has reached it
  pub reached : (E : Type 0) {r'' : InputState} (held' : Held) (line : LineSeen)
      → NextLine {E = E} COMMAND_LEN r' r'' held held' (Ok (Some line)) → IsReached r r'' done line
  reached E {r''} held' line n = reached_by E r'' held' line line.ended refl n

  -- the response to `done` and one line more: the text so far, and then the response to that line from the state `s'`
  one_more : (line : LineSeen) → responses respond s (done ++ line ∷ []) ≡ with_front front (respond s' line)
  one_more line =
      responses_on respond s done (line ∷ []) f.goes_on
      ∙ ap (with_front front)
      (alone respond (responses respond s done).state line ∙ ap (λ v. respond v line) (sym f.state))

  -- the same with any lines after that line, if the server ends with it
  one_last : (line : LineSeen) (later : List LineSeen) → (respond s' line).ends ≡ true
      → responses respond s (done ++ line ∷ later) ≡ with_front front (respond s' line)
  one_last line later over =
      responses_on respond s done (line ∷ later) f.goes_on
      ∙ ap (λ v. with_front front (responses respond v (line ∷ later))) (sym f.state)
      ∙ ap (with_front front) (stops (respond s' line) (responses respond (respond s' line).state later) over)

  -- the invariant is kept: the line after `done` was read and answered, and the server goes on
  pub go_on : (E : Type 0) {r'' : InputState} {w'' : OutputState} {s'' : S} {held' : Held} (line : LineSeen)
      → NextLine {E = E} COMMAND_LEN r' r'' held held' (Ok (Some line)) → line.ended ≡ true
      → Sent w' w'' (respond s' line).text → s'' ≡ (respond s' line).state → (respond s' line).ends ≡ false
      → (given' : List ℕ) × SoFar respond r r'' w w'' s s'' held' given' (done ++ line ∷ [])
  go_on E {r''} {w''} {s''} {held'} line (more, bytes, waits, got) ended took next on =
      let g : GotLine COMMAND_LEN r' r'' held held' more line = of_true line.ended _ _ ended got in
      let all = one_more line in (
        given ++ more,
        record {
          bytes = consumes_more r.known_bytes r'.known_bytes r''.known_bytes given more f.bytes bytes;
          took = rw all (took_one_more w w' w'' done line front (respond s' line).text f.took took);
          state = rw all next;
          goes_on = rw all on;
          lines = λ reported rest. ap (stream_lines COMMAND_LEN reported) (append_assoc given more rest)
              ∙ f.lines reported (more ++ rest) ∙ ap (λ v. done ++ v) (g.lines reported rest)
              ∙ sym (append_assoc done (line ∷ []) (lines_held COMMAND_LEN reported held' rest));
          on_demand = (let a = waited r'' more waits in omega (arith, length-append done (line ∷ [])));
          failures = g.failures ∙ f.failures;
          ends = g.ends ∙ f.ends;
          silences = g.silences ∙ f.silences;
        },
      )

  -- a run that ends by the line that was reached
  pub by_line : {r'' : InputState} {w'' : OutputState} {s'' : S} (line : LineSeen) → IsReached r r'' done line
      → Sent w' w'' (respond s' line).text → s'' ≡ (respond s' line).state → (respond s' line).ends ≡ true
      → Ran (Served respond s s'' (Ok Quit)) (record { input = r; output = w }) (record { input = r''; output = w'' })
  by_line {r''} {w''} line (all, reported, after, at) took next over = (
    came r'' all reported false,
    all_for (done ++ line ∷ after) (front ++ (respond s' line).text),
    gave at,
    subst (OutputTook w w'') (some_for done line after (front ++ (respond s' line).text))
        (took_last w w' w'' done front (respond s' line).text f.took took),
    (
      refl,
      (
        refl,
        rw (at.lines, one_last line after over) (refl, next, over),
        early_goes_on respond s reported r''.last_len all done line after at.lines f.goes_on at.on_demand,
      ),
    ),
  )

  -- a run that ends at a write that failed
  pub by_write : {r'' : InputState} {w'' : OutputState} {s'' : S} (line : LineSeen) → IsReached r r'' done line
      → CutShort w' w'' (respond s' line).text → s'' ≡ (respond s' line).state
      → Ran (Served respond s s'' (Err Write)) (record { input = r; output = w }) (record { input = r''; output = w'' })
  by_write {r''} {w''} line (all, reported, after, at) (begun, (rest, is), broke_off) next = (
    came r'' all reported false,
    broke (all_for done front) begun,
    gave at,
    took_some_more w w' w'' done front begun f.took broke_off,
    (
      refl,
      (
        refl,
        (
          length done,
          line,
          rw at.lines (line_there done line after),
          at.on_demand,
          rw (at.lines, take-append_seam done (line ∷ after)) (
            f.goes_on,
            (begun, (rest, is ∙ ap (λ v. (respond v line).text) f.state), refl),
            next ∙ ap (λ v. (respond v line).state) f.state,
          ),
        ),
      ),
    ),
  )

  -- a run that ends with the input, whose last line has no `\n` and was answered
  pub by_last : (E : Type 0) {r'' : InputState} {w'' : OutputState} {s'' : S} (held' : Held) (line : LineSeen)
      → NextLine {E = E} COMMAND_LEN r' r'' held held' (Ok (Some line)) → line.ended ≡ false
      → Sent w' w'' (respond s' line).text → s'' ≡ (respond s' line).state → (respond s' line).ends ≡ false
      → Ran (Served respond s s'' (Ok InputEnded)) (record { input = r; output = w })
      (record { input = r''; output = w'' })
  by_last E {r''} {w''} held' line (more, bytes, waits, got) ended took next on =
      let at : Reached r r'' (given ++ more) true done line [] =
      reached_last {held' = held'} bytes waits (of_false line.ended _ _ ended got) in (
        came r'' (given ++ more) true false,
        all_for (done ++ line ∷ []) (front ++ (respond s' line).text),
        gave at,
        took_one_more w w' w'' done line front (respond s' line).text f.took took,
        (refl, ((refl, refl), rw (at.lines, one_more line) (refl, next, on))),
      )

  -- a run that ends with the input, of which no line is left
  pub by_end : (E : Type 0) {r'' : InputState} {held' : Held} → NextLine {E = E} COMMAND_LEN r' r'' held held' (Ok None)
      → Ran (Served respond s s' (Ok InputEnded)) (record { input = r; output = w }) (record { input = r''; output = w' })
  by_end E {r''} (more, bytes, waits, got) = (
    came r'' (given ++ more) true false,
    all_for done front,
    record {
      bytes = consumes_more r.known_bytes r'.known_bytes r''.known_bytes given more f.bytes bytes;
      early = refl;
      at_end = λ e. got.at_end;
      ends = got.ends ∙ ap saturating_increment f.ends;
      failures = got.failures ∙ f.failures;
      silences = got.silences ∙ f.silences;
    },
    f.took,
    (refl, ((refl, refl), rw (f.lines true more, got.lines true, append-nil done) (refl, f.state, f.goes_on))),
  )

  -- a run that ends at a read that failed
  pub by_read : {E : Type 0} (e : E) {r'' : InputState} {held' : Held}
      → NextLine {E = E} COMMAND_LEN r' r'' held held' (Err e)
      → Ran (Served respond s s' (Err Read)) (record { input = r; output = w }) (record { input = r''; output = w' })
  by_read e {r''} (more, bytes, waits, got) = (
    came r'' (given ++ more) false true,
    all_for done front,
    record {
      bytes = consumes_more r.known_bytes r'.known_bytes r''.known_bytes given more f.bytes bytes;
      early = refl;
      at_end = λ e. cc;
      ends = got.ends ∙ f.ends;
      failures = got.failures ∙ ap saturating_increment f.failures;
      silences = got.silences ∙ f.silences;
    },
    f.took,
    (refl, (refl, refl, rw (f.lines false more, got.whole, append-nil done) (refl, f.state, f.goes_on))),
  )

-- what the returned `Go` says of the response's end `b`: `Quit` that the server ended, `On` that it didn't
pub over_said : (b : Bool) (go : Go) → go ≡ (if b then goes.Quit else goes.On) → go ≡ goes.Quit → b ≡ true
over_said b go h k = grind arith

pub on_said : (b : Bool) (go : Go) → go ≡ (if b then goes.Quit else goes.On) → go ≡ goes.On → b ≡ false
on_said b go h k = grind arith
