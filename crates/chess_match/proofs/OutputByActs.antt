-- What came from an engine in the acts of a match (`SaidBy`): the lines that were read are the first lines of what it
-- gave; they are all of them after its output ended, after a failed read, and if the last look for a line found none.
-- By induction over the acts.
use mathlib.Core.Bool.{or-false}
use Rattle.std.proofs.Common.{◌≡◌, ℕ, Bool, true, false, ◌||◌, ◌⊎◌, inl, inr, List, [], ◌∷◌, ◌++◌, map, refl, ap, sym, ◌∙◌, subst, append_assoc, append-nil, Option, None, Some, MatchBool}
use Rattle.std.specs.{List.count_by, List.flat_map, List.last_or, Io.KnownBytes.Consumes, Io.KnownBytes.IsAtEnd}
use Rattle.chess_base.specs.{declared.man.Colour.Colour, Men.same_colour, Options.list_if}
use Rattle.byte_devices.specs.{Devices.InputState, Devices.saturating_increment, Transfers.FromInput, Transfers.InputGave}
use Rattle.text_lines.specs.Lines.{LineSeen, Held, nothing_held, stream_lines, lines_held}
use Rattle.text_lines.specs.Next.{GotLine, GotLast, GotNone, GotFault, GotSilence}
use Rattle.byte_devices.proofs.shared.Transfers.{came, saturating_increment_if}
use Rattle.chess_match.specs.Acts.{Act, Sends, SendFails, Happens}
use Rattle.chess_match.specs.{ByDevice.is_silence_of, ByDevice.look, laws.Laws.has_ended, laws.Laws.has_failed_read, laws.Laws.lines_read, Played.SaidBy, Run.text_read, Run.engine_lines, declared.run.TheConstants.ENGINE_LINE_LEN, ties.AtDesk.ReadsOf, ties.EngineOutput.OutputSoFar, ties.EngineOutput.OutputEnded}
use Rattle.chess_match.specs.Events.{Line, Opened, Silent, OutputEnds, FailsToRead, FailsToWrite}
use Rattle.chess_match.proofs.{shared.MatchCases.quiet_read, shared.MatchCases.reads_end, shared.MatchCases.unread, AtDesk.tail_same, SilencesCounted.silences_counted}
use Rattle.chess_match.proofs.OutputByCalls.{output_all, output_more, output_last, output_none, output_fault, output_silent, output_start}

map_both : (xs ys : List LineSeen) → map text_read (xs ++ ys) ≡ map text_read xs ++ map text_read ys
map_both [] ys = refl
map_both (x ∷ xs) ys = ap (λ ls. text_read x ∷ ls) (map_both xs ys)

-- what the last look for a line of this side found in these acts (true: no line), if `last` is what the last one before
-- them found; `None`: there was none
abbrev last_look : Option Bool → Colour → List Act → Option Bool
last_look last S H = last_or last (flat_map (look S) H)

-- if the last look found none, no whole line is held
abbrev NoneHeld : Option Bool → Held → Type 0
NoneHeld last h = last ≡ Some true → lines_held ENGINE_LINE_LEN false h [] ≡ []

-- the bytes `given` took the engine's output from `old` to `new`, and of their lines `texts` were read; `ended` and
-- `failed`: its output ended, a read of it failed; `last` is what the last look for a line found (true: no line)
record ReadTo (texts : List (Option (List ℕ))) (ended failed : Bool) (last : Option Bool) (old new : InputState)
    (given : List ℕ) : Type 0 where
  bytes : Consumes old.known_bytes new.known_bytes given
  lines : (rest : List (Option (List ℕ))) × (engine_lines given ≡ texts ++ rest)
  ends : new.end_count ≡ saturating_increment_if ended old.end_count
  failures : new.failure_count ≡ saturating_increment_if failed old.failure_count
  at_end : ended ≡ true → IsAtEnd new.known_bytes
  all : (ended || failed) ≡ true → engine_lines given ≡ texts
  all_if_silent : last ≡ Some true → engine_lines given ≡ texts

-- while an engine is read, its lines so far are the first of all
still_read : (r r' : InputState) (h : Held) (given : List ℕ) (texts : List (Option (List ℕ))) (last : Option Bool)
    → NoneHeld last h → OutputSoFar r r' h given texts → ReadTo texts false false last r r' given
still_read r r' h given texts last none s = record {
  bytes = s.bytes;
  lines = (
    map text_read (lines_held ENGINE_LINE_LEN false h []),
    ap (λ bytes. map text_read (stream_lines ENGINE_LINE_LEN false bytes)) (sym (append-nil given))
        ∙ ap (λ ls. map text_read ls) (s.lines.2 false [])
        ∙ map_both s.lines.0 (lines_held ENGINE_LINE_LEN false h [])
        ∙ ap (λ ls. ls ++ map text_read (lines_held ENGINE_LINE_LEN false h [])) s.lines.1,
  );
  ends = s.ends;
  failures = s.failures;
  at_end = λ e. absurd cc;
  all = λ e. absurd cc;
  all_if_silent = λ e. ap (λ bytes. map text_read (stream_lines ENGINE_LINE_LEN false bytes)) (sym (append-nil given))
      ∙ ap (λ ls. map text_read ls) (output_all r r' h given [] texts s (none e)) ∙ s.lines.1;
}

-- after an end or a failed read the lines that were returned are all lines that came
all_lines : (r r' : InputState) (given : List ℕ) (texts : List (Option (List ℕ))) → OutputEnded r r' given texts
    → engine_lines given ≡ texts
all_lines r r' given texts s = ap (λ ls. map text_read ls) s.lines.2 ∙ s.lines.1

-- an output that ended: all that came of it was read
read_to_end : (r r' : InputState) (given : List ℕ) (texts : List (Option (List ℕ))) (last : Option Bool)
    → OutputEnded r r' given texts × (r'.end_count ≡ saturating_increment r.end_count) × (r'.failure_count ≡ r.failure_count)
    × IsAtEnd r'.known_bytes → ReadTo texts true false last r r' given
read_to_end r r' given texts last (s, ends, failures, at_end) = record {
  bytes = s.bytes;
  lines = ([], all_lines r r' given texts s ∙ sym (append-nil texts));
  ends = ends;
  failures = failures;
  at_end = λ h. at_end;
  all = λ h. all_lines r r' given texts s;
  all_if_silent = λ h. all_lines r r' given texts s;
}

-- an output of which a read failed: all that came of it was read
read_to_fault : (r r' : InputState) (given : List ℕ) (texts : List (Option (List ℕ))) (last : Option Bool)
    → OutputEnded r r' given texts × (r'.end_count ≡ r.end_count) × (r'.failure_count ≡ saturating_increment r.failure_count)
    → ReadTo texts false true last r r' given
read_to_fault r r' given texts last (s, ends, failures) = record {
  bytes = s.bytes;
  lines = ([], all_lines r r' given texts s ∙ sym (append-nil texts));
  ends = ends;
  failures = failures;
  at_end = λ h. absurd cc;
  all = λ h. all_lines r r' given texts s;
  all_if_silent = λ h. all_lines r r' given texts s;
}

-- an act that reads nothing of this output leaves what came of it so far
still : (r v v' : InputState) (h k : Held) (given : List ℕ) (texts : List (Option (List ℕ))) → (v' ≡ v) × (k ≡ h)
    → OutputSoFar r v h given texts → OutputSoFar r v' k given texts
still r v v' h k given texts (same, kept) s = rw (same, kept) s

-- if what is held stays the same, there is still no whole line in it
still_none : (last : Option Bool) (h k : Held) → k ≡ h → NoneHeld last h → NoneHeld last k
still_none last h k kept none e = ap (λ (x : Held). lines_held ENGINE_LINE_LEN false x []) kept ∙ none e

-- after a look that found none, no whole line is held
silent_none : (v v' : InputState) (h k : Held) (more : List ℕ) → GotSilence ENGINE_LINE_LEN v v' h k more
    → NoneHeld (Some true) k
silent_none v v' h k more got e =
    sym (got.lines false []) ∙ ap (λ (l : List ℕ). lines_held ENGINE_LINE_LEN false h l) (append-nil more) ∙ got.whole

-- what was read (`ReadTo`), with each part replaced by an equal one
as_read : (r v v' : InputState) (given : List ℕ) (texts texts' : List (Option (List ℕ))) (a a' b b' : Bool)
    (last last' : Option Bool) → texts' ≡ texts → a' ≡ a → b' ≡ b → last' ≡ last → v' ≡ v
    → ReadTo texts a b last r v given → ReadTo texts' a' b' last' r v' given
as_read r v v' given texts texts' a a' b b' last last' t x y l z q = rw (t, x, y, l, z) q

-- texts with none after them are the same texts
no_more : (texts more : List (Option (List ℕ))) → more ≡ [] → texts ++ more ≡ texts
no_more texts more e = ap (λ (l : List (Option (List ℕ))). texts ++ l) e ∙ append-nil texts

-- nor is a line looked for
no_look : (S : Colour) (H : List Act) → unread H ≡ true → flat_map (look S) H ≡ []
no_look S [] u = refl
no_look S (Sends b ∷ H) u = no_look S H u
no_look S (SendFails b ∷ H) u = no_look S H u
no_look S (Happens (Opened c n) ∷ H) u = no_look S H u
no_look S (Happens (FailsToWrite c) ∷ H) u = no_look S H u
no_look S (Happens (Line c t n) ∷ H) u = absurd cc
no_look S (Happens (Silent c n) ∷ H) u = absurd cc
no_look S (Happens (OutputEnds c) ∷ H) u = absurd cc
no_look S (Happens (FailsToRead c) ∷ H) u = absurd cc

-- acts without a look leave what the last look found
no_look_more : (last : Option Bool) (found more : List Bool) → more ≡ []
    → last_or last (found ++ more) ≡ last_or last found
no_look_more last found more e = ap (λ (l : List Bool). last_or last (found ++ l)) e
    ∙ ap (λ (l : List Bool). last_or last l) (append-nil found)

or_none : (a b : Bool) → b ≡ false → (a || b) ≡ a
or_none a b e = ap (λ (x : Bool). a || x) e ∙ or-false a

-- by induction on the acts `H`: what was read after them, if `texts` were read before them, `h` is held then, and the
-- output is at `v`
reads_all : (S : Colour) (texts : List (Option (List ℕ))) (last : Option Bool) (H : List Act) (r v r' : InputState)
    (h h' : Held) (given : List ℕ) → reads_end H ≡ true → NoneHeld last h → OutputSoFar r v h given texts
    → ReadsOf S H v r' h h'
    → (all : List ℕ) × ReadTo (texts ++ lines_read S H) (has_ended S H) (has_failed_read S H) (last_look last S H) r r'
    all
reads_all S texts last [] r v r' h h' given end none s (e, k) = (
  given,
  as_read r v r' given texts (texts ++ []) false false false false last last (append-nil texts) refl refl refl e
      (still_read r v h given texts last none s),
)
reads_all S texts last (Sends b ∷ H) r v r' h h' given end none s (v', k, o, p) =
    reads_all S texts last H r v' r' k h' given end (still_none last h k o.1 none) (still r v v' h k given texts o s) p
reads_all S texts last (SendFails b ∷ H) r v r' h h' given end none s (v', k, o, p) =
    reads_all S texts last H r v' r' k h' given end (still_none last h k o.1 none) (still r v v' h k given texts o s) p
reads_all S texts last (Happens (Opened c n) ∷ H) r v r' h h' given end none s (v', k, o, p) =
    reads_all S texts last H r v' r' k h' given end (still_none last h k o.1 none) (still r v v' h k given texts o s) p
reads_all S texts last (Happens (FailsToWrite c) ∷ H) r v r' h h' given end none s (v', k, o, p) =
    reads_all S texts last H r v' r' k h' given end (still_none last h k o.1 none) (still r v v' h k given texts o s) p
reads_all S texts last (Happens (Line c t n) ∷ H) r v r' h h' given end none s (v', k, o, p) =
    at (same_colour c S) o
    (λ texts' last' given' none' s'. reads_all S texts' last' H r v' r' k h' given' end none' s' p)
  where
    at : (x : Bool) → MatchBool x ((more : List ℕ) × Consumes v.known_bytes v'.known_bytes more
        × (line : LineSeen) × GotLine ENGINE_LINE_LEN v v' h k more line × (t ≡ text_read line))
        ((v' ≡ v) × (k ≡ h))
        → ((texts' : List (Option (List ℕ))) (last' : Option Bool) (given' : List ℕ) → NoneHeld last' k
        → OutputSoFar r v' k given' texts'
        → (all : List ℕ) × ReadTo (texts' ++ lines_read S H) (has_ended S H) (has_failed_read S H)
        (last_look last' S H) r r' all)
        → (all : List ℕ) × ReadTo (texts ++ (list_if x (t ∷ []) ++ lines_read S H)) (has_ended S H)
        (has_failed_read S H) (last_or last (list_if x (false ∷ []) ++ flat_map (look S) H)) r r' all
    at true (more, b, line, got, same) next =
        let q = next (texts ++ text_read line ∷ []) (Some false) (given ++ more) (λ e. absurd cc)
        (output_more r v v' h k given more texts line s b got) in (
          q.0,
          subst (λ (l : List (Option (List ℕ))).
              ReadTo l (has_ended S H) (has_failed_read S H) (last_look (Some false) S H) r r' q.0)
              (append_assoc texts (text_read line ∷ []) (lines_read S H)
              ∙ ap (λ (x : Option (List ℕ)). texts ++ (x ∷ lines_read S H)) (sym same)) q.1,
        )
    at false o next = next texts last given (still_none last h k o.1 none) (still r v v' h k given texts o s)
reads_all S texts last (Happens (Silent c n) ∷ H) r v r' h h' given end none s (v', k, o, p) =
    at (same_colour c S) o (λ last' given' none' s'. reads_all S texts last' H r v' r' k h' given' end none' s' p)
  where
    at : (x : Bool) → MatchBool x ((more : List ℕ) × Consumes v.known_bytes v'.known_bytes more
        × GotSilence ENGINE_LINE_LEN v v' h k more) ((v' ≡ v) × (k ≡ h))
        → ((last' : Option Bool) (given' : List ℕ) → NoneHeld last' k → OutputSoFar r v' k given' texts
        → (all : List ℕ) × ReadTo (texts ++ lines_read S H) (has_ended S H) (has_failed_read S H)
        (last_look last' S H) r r' all)
        → (all : List ℕ) × ReadTo (texts ++ lines_read S H) (has_ended S H) (has_failed_read S H)
        (last_or last (list_if x (true ∷ []) ++ flat_map (look S) H)) r r' all
    at true (more, b, got) next = next (Some true) (given ++ more) (silent_none v v' h k more got)
        (output_silent r v v' h k given more texts s b got)
    at false o next = next last given (still_none last h k o.1 none) (still r v v' h k given texts o s)
reads_all S texts last (Happens (OutputEnds c) ∷ H) r v r' h h' given end none s (v', k, o, p) =
    let q = quiet_read S H end in
    let a = at (same_colour c S) o in (
      a.0,
      as_read r v' r' a.0 texts (texts ++ lines_read S H) (same_colour c S) (same_colour c S || has_ended S H) false
          (has_failed_read S H) (last_or last (list_if (same_colour c S) (false ∷ [])))
          (last_or last (list_if (same_colour c S) (false ∷ []) ++ flat_map (look S) H))
          (no_more texts (lines_read S H) q.0) (or_none (same_colour c S) (has_ended S H) q.1) q.2
          (no_look_more last (list_if (same_colour c S) (false ∷ [])) (flat_map (look S) H) (no_look S H end))
          (tail_same S H v' r' k h' end p) a.1,
    )
  where
    at : (x : Bool) → MatchBool x ((more : List ℕ) × Consumes v.known_bytes v'.known_bytes more
        × (((line : LineSeen) × GotLast ENGINE_LINE_LEN v v' h k more line)
        ⊎ GotNone ENGINE_LINE_LEN v v' h k more)) ((v' ≡ v) × (k ≡ h))
        → (all : List ℕ) × ReadTo texts x false (last_or last (list_if x (false ∷ []))) r v' all
    at true (more, b, inl (line, got)) = (
      given ++ more,
      read_to_end r v' (given ++ more) texts (Some false) (output_last r v v' h k given more texts line s b got),
    )
    at true (more, b, inr got) = (
      given ++ more,
      read_to_end r v' (given ++ more) texts (Some false) (output_none r v v' h k given more texts s b got),
    )
    at false o = (
      given,
      still_read r v' k given texts last (still_none last h k o.1 none) (still r v v' h k given texts o s),
    )
reads_all S texts last (Happens (FailsToRead c) ∷ H) r v r' h h' given end none s (v', k, o, p) =
    let q = quiet_read S H end in
    let a = at (same_colour c S) o in (
      a.0,
      as_read r v' r' a.0 texts (texts ++ lines_read S H) false (has_ended S H) (same_colour c S)
          (same_colour c S || has_failed_read S H) (last_or last (list_if (same_colour c S) (false ∷ [])))
          (last_or last (list_if (same_colour c S) (false ∷ []) ++ flat_map (look S) H))
          (no_more texts (lines_read S H) q.0) q.1 (or_none (same_colour c S) (has_failed_read S H) q.2)
          (no_look_more last (list_if (same_colour c S) (false ∷ [])) (flat_map (look S) H) (no_look S H end))
          (tail_same S H v' r' k h' end p) a.1,
    )
  where
    at : (x : Bool) → MatchBool x ((more : List ℕ) × Consumes v.known_bytes v'.known_bytes more
        × GotFault ENGINE_LINE_LEN v v' h k more) ((v' ≡ v) × (k ≡ h))
        → (all : List ℕ) × ReadTo texts false x (last_or last (list_if x (false ∷ []))) r v' all
    at true (more, b, got) = (
      given ++ more,
      read_to_fault r v' (given ++ more) texts (Some false) (output_fault r v v' h k given more texts s b got),
    )
    at false o = (
      given,
      still_read r v' k given texts last (still_none last h k o.1 none) (still r v v' h k given texts o s),
    )

-- what came from the engine of S in all acts of a match, from its beginning
pub all_read : (S : Colour) (H : List Act) (r r' : InputState) (h' : Held) → reads_end H ≡ true
    → ReadsOf S H r r' nothing_held h' → (i : FromInput) × InputGave r r' i × SaidBy S H i
all_read S H r r' h' end p =
    let (given, q) = reads_all S [] None H r r r' nothing_held h' [] end (λ e. absurd cc) (output_start r) p in (
      record (came r' given (has_ended S H) (has_failed_read S H)) { silences = count_by (is_silence_of S) H },
      record {
        bytes = q.bytes;
        early = refl;
        at_end = q.at_end;
        ends = q.ends;
        failures = q.failures;
        silences = silences_counted S H r r' nothing_held h' p;
      },
      record {
        lines = q.lines;
        ended = refl;
        failed = refl;
        silences = refl;
        all = q.all;
        all_if_silent = q.all_if_silent;
      },
    )
