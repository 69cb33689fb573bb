-- For the loop of `verify_text`, which verifies the games of a text one after another. By its invariant (SoFar) the
-- reports on the games before the offset `at` were written and counted. A game keeps this (game_written), and so does a
-- fault after which reading goes on (fault_passed). The loop ends if no game is left (all_written), after any other
-- fault (fault_written), and if a write fails (game_broke, fault_broke).
use Rattle.std.proofs.Common.{◌≡◌, ℕ, zero, suc, ◌+◌, ◌≤◌, ◌<◌, Bool, List, [], ◌∷◌, ◌++◌, length, Option, Some, None, Result, Ok, Err, refl, sym, ap, subst, ◌∙◌, append_assoc, append-nil, arith, if◌then◌else◌}
use Rattle.std.specs.Option.{option_map_or}
use Rattle.byte_devices.specs.Devices.{OutputState, Took, CutShort}
use Rattle.chess_game.specs.Game.{State}
use Rattle.chess_pgn.specs.declared.read.PgnEnd.{PgnEnd}
use Rattle.verify_options.specs.declared.options.Strictness.{Strictness}
use Rattle.verify_options.specs.declared.options.VerifyOptions.{VerifyOptions}
use Rattle.pgn_verifier.specs.{declared.game_fault.GameFault.GameFault, declared.tally.Tally.Tally, declared.start.TextStart.TextStart}
use Rattle.pgn_verifier.specs.Reports.{Placed, game_begin, report_lines}
use Rattle.pgn_verifier.specs.laws.Reported.{read_at, judged_at, next_at, game_placed, fault_placed, placed_then, placed_from, placed_of}
use Rattle.pgn_verifier.specs.ties.Explaining.{span_from}
use Rattle.pgn_verifier.specs.ties.OnTheWay.{StandsIf, game_line, next_number, Writes, counted, with_report}
use Rattle.pgn_verifier.proofs.LinesWritten.{placed_line, wrote_none, took_after, broke_after, writes_after, one_line, first_broke, counted_after}

-- ---- the reports that are left

-- the reports from `at` on are that on the game there, and those on the games after it. `n` bounds how many games there
-- are: a text has no more games than bytes
left : (goes_on : Bool) (strict : Strictness) (start n : ℕ) (text : List ℕ) (at : ℕ)
    (answer : Result (Option PgnEnd) GameFault) (s : State) → judged_at strict text at ≡ answer
    → s ≡ (read_at strict.draws_of_2014 text at).state
    → placed_from goes_on strict start (suc n) text at
    ≡ placed_then strict.draws_of_2014 goes_on start text at (next_at goes_on text at) answer s
    (λ next. placed_from goes_on strict start n text next)
unfolding placed_from
left goes_on strict start n text at answer s h k =
    ap (λ r. placed_then strict.draws_of_2014 goes_on start text at (next_at goes_on text at) r
    (read_at strict.draws_of_2014 text at).state
    (λ next. placed_from goes_on strict start n text next)) h
    ∙ ap (λ g. placed_then strict.draws_of_2014 goes_on start text at (next_at goes_on text at) answer g
    (λ next. placed_from goes_on strict start n text next)) (sym k)

-- ---- the games before an offset were reported

-- the loop at the offset `at`, where the reports `done` are on the games before it: they were written (`took`) and
-- counted (`is`), and the reports on the text are these and those from `at` on (`all`). `few` and `few_moves` bound the
-- counts, since each game and each half-move has a byte
pub record SoFar (options : VerifyOptions) (place : TextStart) (text : List ℕ) (before : Tally)
    (w w' : OutputState) (at : ℕ) (tally : Tally) (done : List Placed) : Type 0 where
  pub within : at ≤ length text
  pub few : tally.games + tally.faults ≤ before.games + before.faults + at
  pub few_moves : tally.half_moves ≤ before.half_moves + at
  pub took : (input : List ℕ) → StandsIf options.explain place input text
      → Took w w' (report_lines options input (next_number before) done)
  pub is : tally ≡ counted before done
  pub n : ℕ
  pub enough : length text < at + suc n
  pub all : placed_of place.goes_on options.strict place.offset text
      ≡ done ++ placed_from place.goes_on options.strict place.offset (suc n) text at

-- this holds before the first game
pub begun : (options : VerifyOptions) (place : TextStart) (text : List ℕ) (before : Tally) (w : OutputState)
    → SoFar options place text before w w 0 before []
begun options place text before w = record {
  within = omega arith;
  few = omega arith;
  few_moves = omega arith;
  took = λ input stands. wrote_none options input before w;
  is = refl;
  n = length text;
  enough = omega arith;
  all = ap (λ k. placed_from place.goes_on options.strict place.offset k text 0) (omega arith);
}

-- the end of a line that shows the span of the game from `at` to `end`, if spans are asked for
abbrev pub span_at : VerifyOptions → ℕ → List ℕ → ℕ → ℕ → List ℕ
span_at options start text at end = span_from options (start + game_begin text at) (start + end)

-- a round of the loop, at the game from `at` on
module _ (options : VerifyOptions) (place : TextStart) (text : List ℕ) (before : Tally) (w w' w'' : OutputState)
    (at : ℕ) (tally : Tally) (done : List Placed) (s : SoFar options place text before w w' at tally done)
  where
    abbrev goes_on : Bool
    goes_on = place.goes_on

    abbrev start : ℕ
    start = place.offset

    abbrev next : Option ℕ
    next = next_at goes_on text at

    abbrev reports : List Placed
    reports = placed_of goes_on options.strict start text

    abbrev later : ℕ → ℕ → List Placed
    later n from = placed_from goes_on options.strict start n text from

    -- the report that comes, with those after it
    due : (answer : Result (Option PgnEnd) GameFault) (g : State) → judged_at options.strict text at ≡ answer
        → g ≡ (read_at options.strict.draws_of_2014 text at).state
        → reports ≡ done ++ placed_then options.strict.draws_of_2014 goes_on start text at next answer g (later s.n)
    due answer g h k = s.all ∙ ap (λ xs. done ++ xs) (left goes_on options.strict start s.n text at answer g h k)

    abbrev Stands : List ℕ → Type 0
    Stands input = StandsIf options.explain place input text

    -- no game is left: all reports were written
    pub all_written : (E : Type 0) (input : List ℕ) → Stands input → judged_at options.strict text at ≡ Ok None
        → Writes {E = E} options input before w w' (Ok tally) reports
    all_written E input stands h =
        let only : reports ≡ done = due (Ok None) (read_at options.strict.draws_of_2014 text at).state h refl
        ∙ append-nil done in
        subst (Writes {E = E} options input before w w' (Ok tally)) (sym only) (s.took input stands, s.is)

    -- a report more, after which the text is read on from the offset `there`
    read_on : (r : Placed) (after : Tally) (there : ℕ) → at < there → there ≤ length text
        → after ≡ with_report tally r.report
        → after.games + after.faults ≤ before.games + before.faults + there
        → after.half_moves ≤ before.half_moves + there
        → ((input : List ℕ) → Stands input → Took w' w'' (placed_line options input (next_number tally) r))
        → reports ≡ done ++ r ∷ later s.n there → SoFar options place text before w w'' there after (done ++ r ∷ [])
    read_on r after there further within is few few_moves took longer =
        let enough = s.enough in by_number s.n enough longer
      where
        by_number : (n : ℕ) → length text < at + suc n → reports ≡ done ++ r ∷ later n there
            → SoFar options place text before w w'' there after (done ++ r ∷ [])
        by_number zero enough longer = absurd (omega (arith, enough, further, within))
        by_number (suc m) enough longer = record {
          within = within;
          few = few;
          few_moves = few_moves;
          took = λ input stands.
              took_after options input before tally w w' w'' done (s.took input stands) s.is (r ∷ [])
              (subst (Took w' w'') (one_line options input (next_number tally) r) (took input stands));
          is = is ∙ ap (λ (t : Tally). with_report t r.report) s.is ∙ counted_after before done (r ∷ []);
          n = m;
          enough = omega (arith, enough, further);
          all = longer ∙ sym (append_assoc done (r ∷ []) (later (suc m) there));
        }

    -- a game without a fault, whose line was written; the loop goes on at its end
    pub game_written : (end : PgnEnd) (g : State) → judged_at options.strict text at ≡ Ok (Some end)
        → g ≡ (read_at options.strict.draws_of_2014 text at).state
        → length g.moves + at ≤ end.offset → at < end.offset → end.offset ≤ length text
        → Took w' w'' (if options.quiet then [] else game_line (next_number tally) (length g.moves) end.outcome
        end.termination (span_at options start text at end.offset))
        → SoFar options place text before w w'' end.offset
        (record { games = tally.games + 1; half_moves = tally.half_moves + length g.moves; faults = tally.faults })
        (done ++ game_placed start text at end g ∷ [])
    game_written end g h k moves further within took =
        let few = s.few in
        let few_moves = s.few_moves in
        read_on (game_placed start text at end g)
        (record { games = tally.games + 1; half_moves = tally.half_moves + length g.moves; faults = tally.faults })
        end.offset further within refl (omega (arith, few, further)) (omega (arith, few_moves, moves))
        (λ input stands. took) (due (Ok (Some end)) g h k)

    -- writing the line of a game without a fault failed
    pub game_broke : {E : Type 0} (e : E) (input : List ℕ) → Stands input → (end : PgnEnd) (g : State)
        → judged_at options.strict text at ≡ Ok (Some end) → g ≡ (read_at options.strict.draws_of_2014 text at).state
        → CutShort w' w'' (if options.quiet then [] else game_line (next_number tally) (length g.moves) end.outcome
        end.termination (span_at options start text at end.offset))
        → Writes options input before w w'' (Err e) reports
    game_broke e input stands end g h k broke =
        let r = game_placed start text at end g in
        let rest = later s.n end.offset in
        subst (λ xs. CutShort w w'' (report_lines options input (next_number before) xs))
        (sym (due (Ok (Some end)) g h k))
        (broke_after options input before tally w w' w'' done (s.took input stands) s.is (r ∷ rest)
        (first_broke options input (next_number tally) w' w'' r rest broke))

    -- the counts after a fault
    abbrev with_fault : Tally
    with_fault = record { games = tally.games; half_moves = tally.half_moves; faults = tally.faults + 1 }

    module _ (fault : GameFault) (g : State) (h : judged_at options.strict text at ≡ Err fault)
        (k : g ≡ (read_at options.strict.draws_of_2014 text at).state)
      where
        abbrev faulty : Placed
        faulty = fault_placed options.strict.draws_of_2014 goes_on start text at next fault g

        -- a fault after which reading goes on
        pub fault_passed : (there : ℕ) → next ≡ Some there → at < there → there ≤ length text
            → ((input : List ℕ) → Stands input → Took w' w'' (placed_line options input (next_number tally) faulty))
            → SoFar options place text before w w'' there with_fault (done ++ faulty ∷ [])
        fault_passed there is further within took =
            let few = s.few in
            let few_moves = s.few_moves in
            read_on faulty with_fault there further within refl (omega (arith, few, further))
            (omega (arith, few_moves, further)) took
            (due (Err fault) g h k ∙ ap (λ o. done ++ faulty ∷ option_map_or (later s.n) o []) is)

        -- one after which it doesn't
        pub fault_written : (E : Type 0) (input : List ℕ) → Stands input → next ≡ None
            → Took w' w'' (placed_line options input (next_number tally) faulty)
            → Writes {E = E} options input before w w'' (Ok with_fault) reports
        fault_written E input stands none took =
            let last : reports ≡ done ++ faulty ∷ [] =
            due (Err fault) g h k ∙ ap (λ o. done ++ faulty ∷ option_map_or (later s.n) o []) none in
            subst (Writes {E = E} options input before w w'' (Ok with_fault)) (sym last)
            (writes_after options input before tally w w' w'' done (s.took input stands) s.is {E = E} (Ok with_fault)
            (faulty ∷ [])
            (subst (Took w' w'') (one_line options input (next_number tally) faulty) took, refl))

        -- writing the lines of a fault failed
        pub fault_broke : {E : Type 0} (e : E) (input : List ℕ) → Stands input
            → CutShort w' w'' (placed_line options input (next_number tally) faulty)
            → Writes options input before w w'' (Err e) reports
        fault_broke e input stands broke =
            let rest = option_map_or (later s.n) next [] in
            subst (λ xs. CutShort w w'' (report_lines options input (next_number before) xs)) (sym (due (Err fault) g h k))
            (broke_after options input before tally w w' w'' done (s.took input stands) s.is (faulty ∷ rest)
            (first_broke options input (next_number tally) w' w'' faulty rest broke))
