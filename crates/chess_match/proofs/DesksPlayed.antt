-- From the steps that passed at a desk in a match (`PlayedAt`) to what each of its devices shows apart (`PlayedNoting`,
-- by `desk_ran`): what was written to each engine (`all_written`, by induction over the acts), what came from it
-- (OutputByActs.all_read), the moments and the notes. The desk keeps its references to them (`names_kept`).
use Rattle.std.proofs.Common.{◌≡◌, ℕ, Bool, true, false, List, [], ◌∷◌, ◌++◌, refl, sym, ◌∙◌, subst, append_assoc, append-nil, Option, None, Some, MatchBool, if◌then◌else◌}
use Rattle.byte_devices.specs.Devices.{OutputState, CutShort}
use Rattle.byte_devices.specs.Transfers.{ToOutput, Devices, OutputTook, all_of}
use Rattle.byte_devices.proofs.shared.Transfers.{broke, all_for, some_for, took_each, took_nothing, took_some_more}
use Rattle.chess_base.specs.{declared.man.Colour.Colour, ByColour.of_colour, Men.same_colour, Options.list_if}
use Rattle.chess_game.specs.Game as game
use Rattle.text_lines.specs.Lines.{Held, nothing_held}
use Rattle.chess_match.specs.Acts.{Act, IsMatch, Sends, SendFails, Happens}
use Rattle.chess_match.specs.{laws.Laws.broken_blocks, laws.Laws.lines_sent, laws.Laws.notes_given, Lines.SentLine, Lines.bytes_of, Notes.Note, Notes.Noted, Notes.WasNoted, Rules.Rules, Rules.rules_of, Run.ClockReadings, declared.reason.Reason.Reason, declared.run.MatchEnd.MatchEnd, declared.run.Setup.Setup, ties.AtDesk.Did, ties.AtDesk.NotedSince, ties.AtDesk.WritesOf}
use Rattle.chess_match.specs.Effects as effects
use Rattle.chess_match.specs.Played.{Passed, PlayedAt, PlayedNoting, WasSent, World}
use Rattle.chess_match.specs.Table.{Beginning, Passes, Step, watched}
use Rattle.chess_match.proofs.{BlocksFilled.HasLine, BlocksFilled.SendFilled, BlocksFilled.blocks_filled, ClockAsked.asked_none, OutputByActs.all_read, shared.Lines.bytes_of-append}
use Rattle.chess_match.proofs.AtDesk.{moments_watched, notes_watched, reads_watched, writes_watched}
use Rattle.chess_match.proofs.shared.MatchCases.{all_reads_end, all_sends_end, sends_end, unsent_in}

-- ---- what was written

-- acts that send nothing to S (`unsent_in`) leave its engine's input as it is
silent : (S : Colour) (H : List Act) (w w' : OutputState) → unsent_in S H ≡ true → WritesOf S H w w'
    → (lines_sent S H ≡ []) × (broken_blocks S H ≡ []) × (w' ≡ w)
silent S [] w w' u e = (refl, refl, e)
silent S (Sends b ∷ H) w w' u (v, o, p) = at (same_colour b.to S) u o (λ h. silent S H v w' h p)
  where
    at : (x : Bool) → (if x then false else unsent_in S H) ≡ true
        → MatchBool x (OutputTook w v (all_of (bytes_of b.lines))) (v ≡ w)
        → (unsent_in S H ≡ true → (lines_sent S H ≡ []) × (broken_blocks S H ≡ []) × (w' ≡ v))
        → (list_if x b.lines ++ lines_sent S H ≡ []) × (broken_blocks S H ≡ []) × (w' ≡ w)
    at true u o more = absurd cc
    at false u o more = let q = more u in (q.0, q.1, q.2 ∙ o)
silent S (SendFails b ∷ H) w w' u (v, o, p) = at (same_colour b.to S) u o (λ h. silent S H v w' h p)
  where
    at : (x : Bool) → (if x then false else unsent_in S H) ≡ true
        → MatchBool x (CutShort w v (bytes_of b.lines)) (v ≡ w)
        → (unsent_in S H ≡ true → (lines_sent S H ≡ []) × (broken_blocks S H ≡ []) × (w' ≡ v))
        → (lines_sent S H ≡ []) × (list_if x (b.lines ∷ []) ++ broken_blocks S H ≡ []) × (w' ≡ w)
    at true u o more = absurd cc
    at false u o more = let q = more u in (q.0, q.1, q.2 ∙ o)
silent S (Happens e ∷ H) w w' u (v, o, p) = let q = silent S H v w' u p in (q.0, q.1, q.2 ∙ o)

-- these lines were sent to an output, and these blocks could not be sent
abbrev pub Wrote : List SentLine → List (List SentLine) → OutputState → OutputState → Type 0
Wrote sent broken w w' = (o : ToOutput) × OutputTook w w' o × WasSent sent broken o

-- these lines, and nothing else, were written and flushed
abbrev WroteAll : OutputState → OutputState → List SentLine → Type 0
WroteAll w w' lines = OutputTook w w' (all_for lines (bytes_of lines))

-- an output that was left as it was still took these lines
still : (w v u : OutputState) (before : List SentLine) → u ≡ v → WroteAll w v before → WroteAll w u before
still w v u before e f = subst (λ (x : OutputState). WroteAll w x before) (sym e) f

-- after the lines `before` a block was sent: its lines follow them
block_more : (w v u : OutputState) (before lines : List SentLine) → HasLine lines → WroteAll w v before
    → OutputTook v u (all_of (bytes_of lines)) → WroteAll w u (before ++ lines)
block_more w v u before [] none f o = absurd none
block_more w v u before (l ∷ ls) some f o =
    subst (λ (bytes : List ℕ). OutputTook w u (all_for (before ++ l ∷ ls) bytes)) (sym (bytes_of-append before (l ∷ ls)))
    (took_each w v u before (l ∷ ls) (bytes_of before) (bytes_of (l ∷ ls)) f
    (subst (OutputTook v u) (some_for [] l ls (bytes_of (l ∷ ls))) o))

-- what the acts `H` write to S, after the lines `before` were sent to it; no block is sent after a failed one
-- (`sends_end`), and each has a line (`SendFilled`)
writes_all : (S : Colour) (before : List SentLine) (H : List Act) (w v w' : OutputState) → sends_end S H ≡ true
    → SendFilled H → WroteAll w v before → WritesOf S H v w'
    → Wrote (before ++ lines_sent S H) (broken_blocks S H) w w'
writes_all S before [] w v w' end filled f e =
    subst (λ (l : List SentLine). Wrote l [] w w') (sym (append-nil before)) (
      all_for before (bytes_of before),
      still w v w' before e f,
      refl,
    )
writes_all S before (Sends b ∷ H) w v w' end filled f (u, o, p) =
    at (same_colour b.to S) o (λ front g. writes_all S front H w u w' end filled.1 g p)
  where
    at : (x : Bool) → MatchBool x (OutputTook v u (all_of (bytes_of b.lines))) (u ≡ v)
        → ((front : List SentLine) → WroteAll w u front → Wrote (front ++ lines_sent S H) (broken_blocks S H) w w')
        → Wrote (before ++ (list_if x b.lines ++ lines_sent S H)) (broken_blocks S H) w w'
    at true o more = subst (λ (l : List SentLine). Wrote l (broken_blocks S H) w w')
        (append_assoc before b.lines (lines_sent S H))
        (more (before ++ b.lines) (block_more w v u before b.lines filled.0 f o))
    at false o more = more before (still w v u before o f)
writes_all S before (SendFails b ∷ H) w v w' end filled f (u, o, p) =
    at (same_colour b.to S) end o (λ e g. writes_all S before H w u w' e filled g p)
  where
    at : (x : Bool) → (if x then unsent_in S H else sends_end S H) ≡ true
        → MatchBool x (CutShort v u (bytes_of b.lines)) (u ≡ v)
        → (sends_end S H ≡ true → WroteAll w u before → Wrote (before ++ lines_sent S H) (broken_blocks S H) w w')
        → Wrote (before ++ lines_sent S H) (list_if x (b.lines ∷ []) ++ broken_blocks S H) w w'
    at true end o more =
        let q = silent S H u w' end p in
        subst (λ (l : List (List SentLine)). Wrote (before ++ lines_sent S H) (b.lines ∷ l) w w') (sym q.1)
        (subst (λ (l : List SentLine). Wrote (before ++ l) (b.lines ∷ []) w w') (sym q.0)
        (subst (λ (l : List SentLine). Wrote l (b.lines ∷ []) w w') (sym (append-nil before))
        (subst (λ (x : OutputState). Wrote before (b.lines ∷ []) w x) (sym q.2) (
          broke (all_for before (bytes_of before)) o.0,
          took_some_more w v u before (bytes_of before) o.0 f o.2,
          (o.0, o.1, refl),
        ))))
    at false end o more = more end (still w v u before o f)
writes_all S before (Happens e ∷ H) w v w' end filled f (u, o, p) =
    writes_all S before H w u w' end filled (still w v u before o f) p

-- what all acts of a match write to S
pub all_written : (S : Colour) (H : List Act) (w w' : OutputState) → sends_end S H ≡ true → SendFilled H
    → WritesOf S H w w' → Wrote (lines_sent S H) (broken_blocks S H) w w'
unfolding bytes_of
all_written S H w w' end filled p = writes_all S [] H w w w' end filled (took_nothing w) p

-- ---- the match

-- the acts are a match, and from `w` to `w'` each device did what they say (`Passed`)
pub desk_passed : (r : Rules) (H : List Act) (final : effects.Match) (reason : Reason) (begun : Beginning)
    (engines : Colour → Devices) (held : Colour → Held) (coming : ℕ → Option ℕ) (witness : Noted) (names : List ℕ)
    (w w' : World)
    → IsMatch r H final → Did begun engines held coming witness names (watched r reason effects.beginning.after H)
    → w.engines ≡ begun.engines → w.coming ≡ begun.coming → w'.engines ≡ engines → w'.coming ≡ coming
    → Passed r H final w w'
desk_passed r H final reason begun engines held coming witness names w w' is_match d p c p' c' =
    record {
      is_match = is_match;
      passed = λ S.
          let read = all_read S H (w.engines S).input (w'.engines S).input (held S) (all_reads_end r H final is_match)
          (rw (p, p') (reads_watched r reason effects.beginning.after S H (begun.engines S).input (engines S).input nothing_held (held S)
          (d.read S))) in
          let written = all_written S H (w.engines S).output (w'.engines S).output
          (all_sends_end r H final S is_match) (blocks_filled r H final is_match)
          (rw (p, p') (writes_watched r reason effects.beginning.after S H (begun.engines S).output (engines S).output (d.written S))) in
          (read.0, written.0, read.1, written.1, (read.2, written.2));
      moments = rw (c, c') (subst (λ (ms : List ℕ). ClockReadings begun.coming coming ms) (moments_watched r reason effects.beginning.after H)
          d.moments);
    }

-- a desk at its beginning, when no step has passed
started : (engines : Colour → Devices) (held : Colour → Held) (coming : ℕ → Option ℕ) (witness : Noted) (names : List ℕ)
    (first : Option (List ℕ × List Note)) → ((S : Colour) → held S ≡ nothing_held) → NotedSince witness first []
    → Did (record { engines = engines; coming = coming; noted = first; names = names }) engines held coming witness
    names []
started engines held coming witness names first none noted = record {
  named = refl;
  read = λ S. (refl, none S);
  written = λ S. refl;
  moments = asked_none coming;
  noted = noted;
}

-- after the match the desk has the same references to its devices as before
pub names_kept : (engines engines' : Colour → Devices) (held held' : Colour → Held) (coming coming' : ℕ → Option ℕ)
    (witness witness' : Noted) (names names' : List ℕ) (K : List Step)
    → Passes (λ begun K. Did begun engines held coming witness names K)
    (λ begun K. Did begun engines' held' coming' witness' names' K) K
    → ((S : Colour) → held S ≡ nothing_held) → names' ≡ names
names_kept engines engines' held held' coming coming' witness witness' names names' K p none =
    (p.extends (record { engines = engines; coming = coming; noted = None; names = names }) []
    (started engines held coming witness names None none tt)).named

-- what was played at a desk, its devices show; the clock and the witness are those that the desk holds
pub desk_ran : (setup : Setup) (end : MatchEnd) (engines engines' : Colour → Devices) (held held' : Colour → Held)
    (coming coming' coming'' : ℕ → Option ℕ) (witness witness' witness'' : Noted) (names names' : List ℕ)
    (g g' : game.Seen)
    → PlayedAt setup end (λ begun K. Did begun engines held coming witness names K)
    (λ begun K. Did begun engines' held' coming' witness' names' K) g g'
    → ((S : Colour) → held S ≡ nothing_held) → (names' ≡ names → coming'' ≡ coming')
    → (names' ≡ names → witness'' ≡ witness')
    → PlayedNoting (λ notes. WasNoted witness witness'' notes) setup end
    (record { engines = engines; coming = coming; game = g })
    (record { engines = engines'; coming = coming''; game = g' })
desk_ran setup end engines engines' held held' coming coming' coming'' witness witness' witness'' names names' g g'
    (H, reason, final, is_match, passes, reported, left) none clock watcher =
    let r : Rules = rules_of setup.start (of_colour setup.levels) setup.patience setup.draws g.limit in
    let K : List Step = watched r reason effects.beginning.after H in
    let named : names' ≡ names =
    names_kept engines engines' held held' coming coming' witness witness' names names' K passes none in
    let begun : Beginning = record { engines = engines; coming = coming; noted = None; names = names } in
    let d : Did begun engines' held' coming' witness' names' K =
    passes.extends begun [] (started engines held coming witness names None none tt) in (
      H,
      reason,
      record {
        extends = λ text notes h. subst (λ (x : Noted). x text (notes ++ notes_given reason H)) (sym (watcher named))
            (subst (λ (ns : List Note). witness' text (notes ++ ns)) (notes_watched r reason effects.beginning.after H)
            (passes.extends
            (record { engines = engines; coming = coming; noted = Some (text, notes); names = names }) []
            (started engines held coming witness names (Some (text, notes)) none
            (subst (λ (ns : List Note). witness text ns) (sym (append-nil notes)) h))).noted);
      },
      (
        final,
        desk_passed r H final reason begun engines' held' coming' witness' names'
            (record { engines = engines; coming = coming; game = g })
            (record { engines = engines'; coming = coming''; game = g' }) is_match d refl refl refl (clock named),
        reported,
        left,
      ),
    )
