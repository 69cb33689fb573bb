-- By the invariant the games before `at` were reported (TextVerified.SoFar). One more game keeps this, and so does a
-- fault after which reading goes on. If no game is left, after any other fault and if a write fails, the loop ends,
-- each time by one lemma of TextVerified. The lines on a fault are those of FaultLines.
use Rattle.std.proofs.Common.{◌≡◌, ◌≤◌, ◌+◌, ◌∙◌, ◌++◌, ℕ, List, ◌∷◌, [], Ok, length, refl, sym, ap, subst, arith, if◌then◌else◌}
use Rattle.byte_devices.specs.{Devices.Took, Devices.CutShort, declared.traits.WriteFault.WriteFault}
use Rattle.pgn_verifier.specs.{declared.tally.Tally.Tally, declared.place.Place.Place, declared.start.TextStart.TextStart, ties.Counting.Known, ties.OnTheWay.StandsIf, ties.OnTheWay.Writes, ties.OnTheWay.game_line}
use Rattle.pgn_verifier.specs.laws.Reported.{next_at, game_placed, fault_placed, placed_of, read_at}
use Rattle.pgn_verifier.proofs.{FaultLines.fault_lines_are, Placed.known_at_start}
use Rattle.pgn_verifier.proofs.TextVerified.{SoFar, begun, span_at, all_written, game_written, game_broke, fault_passed, fault_written, fault_broke}
use Rattle.std.proofs.lemmas.Result.{err_from_is_err_and}
use Rattle.pgn_verifier.proofs.games.verify_text.Goals as goal

pub loop-judged-init : goal.loop-judged-init
loop-judged-init g c = (
  c.requires.limit,
  ([], begun c.args.options c.args.start c.args.text.now c.args.before (g.W.Output.seen c.args.output.now)),
  ap (λ (p : Place). p.start) c.at_start-place.ensures,
  subst (Known c.args.options.explain c.args.text.now) (sym c.at_start-place.ensures)
      (known_at_start c.args.options.explain c.args.text.now c.args.start),
)

-- the fault is the game's
pub of_game-after-requires-clause-judged : goal.of_game-after-requires-clause-judged
of_game-after-requires-clause-judged g c = (c.args.options.strict, sym c.in-Err.ensures.judged)

pub counted_to-place-requires-clause-few_lines : goal.counted_to-place-requires-clause-few_lines
counted_to-place-requires-clause-few_lines g c =
    let same = ap (λ (t : TextStart). t.line) c.loop-judged.invariant.2 in
    let few = c.requires.few_lines in omega (arith, same, few)

pub fault_lines-lines-requires-clause-few : goal.fault_lines-lines-requires-clause-few
fault_lines-lines-requires-clause-few g c =
    let same = ap (λ (t : TextStart). t.offset) (c.counted_to-place.ensures.start ∙ c.loop-judged.invariant.2) in
    let few = c.requires.few in omega (arith, same, few)

pub fault_lines-lines-requires-clause-there : goal.fault_lines-lines-requires-clause-there
fault_lines-lines-requires-clause-there g c explains =
    c.counted_to-place.ensures.there explains ∙ c.explained_at-explained.ensures.value

pub returns-in-Ok-None-clause-written : goal.returns-in-Ok-None-clause-written
returns-in-Ok-None-clause-written g c input stands =
    let judged = sym (rw c.in-Ok-None.field-0-is at c.in-Ok-None.ensures.judged) in
    all_written c.args.options c.args.start c.args.text.now c.args.before (g.W.Output.seen c.args.output.now)
    (g.W.Output.seen c.loop-judged.output) (g.W.Output.seen c.loop-judged.output) c.loop-judged.at c.loop-judged.tally
    c.loop-judged.invariant.1.0 c.loop-judged.invariant.1.1 WriteFault input stands judged

pub returns-in_err-write_game-in-Ok-Some-clause-written : goal.returns-in_err-write_game-in-Ok-Some-clause-written
returns-in_err-write_game-in-Ok-Some-clause-written g c input stands =
    let end = c.in-Ok-Some.judged.end in
    let s = (read_at c.args.options.strict.draws_of_2014 c.args.text.now c.loop-judged.at).state in
    let plies = rw c.in-Ok-Some.field-0-is at c.in-Ok-Some.ensures.plies in
    let w' = g.W.Output.seen c.loop-judged.output in
    let w'' = g.W.Output.seen c.write_game.new.output in
    let span = span_at c.args.options c.args.start.offset c.args.text.now c.loop-judged.at end.offset in
    let judged = sym (rw c.in-Ok-Some.field-0-is at c.in-Ok-Some.ensures.judged) in
    let p = err_from_is_err_and c.from_residual.result c.from_residual.ensures.1 in
    rw p.1 (game_broke c.args.options c.args.start c.args.text.now c.args.before (g.W.Output.seen c.args.output.now) w'
    w''
    c.loop-judged.at c.loop-judged.tally c.loop-judged.invariant.1.0 c.loop-judged.invariant.1.1
    c.in_err-write_game-in-Ok-Some.field-0.0 input stands end s
    judged refl
    (subst (λ n. CutShort w' w'' (if c.args.options.quiet then [] else game_line n (length s.moves) end.outcome
    end.termination span))
    (c.of_game-label.ensures.number ∙ c.next_number-number.ensures)
    (subst (λ k. CutShort w' w'' (if c.args.options.quiet then [] else
    game_line c.of_game-label.result.number k end.outcome end.termination span)) plies
    (subst (λ t. CutShort w' w'' (if c.args.options.quiet then [] else
    game_line c.of_game-label.result.number c.in-Ok-Some.judged.plies end.outcome end.termination t))
    c.of_game-label.ensures.span c.in_err-write_game-in-Ok-Some.ensures))))

pub loop-judged-preserved-in-Ok-Some : goal.loop-judged-preserved-in-Ok-Some
loop-judged-preserved-in-Ok-Some g c =
    let end = c.in-Ok-Some.judged.end in
    let s = (read_at c.args.options.strict.draws_of_2014 c.args.text.now c.loop-judged.at).state in
    let plies = rw c.in-Ok-Some.field-0-is at c.in-Ok-Some.ensures.plies in
    let w = g.W.Output.seen c.args.output.now in
    let w' = g.W.Output.seen c.loop-judged.output in
    let w'' = g.W.Output.seen c.write_game.new.output in
    let span = span_at c.args.options c.args.start.offset c.args.text.now c.loop-judged.at end.offset in
    let judged = sym (rw c.in-Ok-Some.field-0-is at c.in-Ok-Some.ensures.judged) in
    let further = rw c.in-Ok-Some.field-0-is at c.in-Ok-Some.ensures.further in
    let within = rw c.in-Ok-Some.field-0-is at c.in-Ok-Some.ensures.within in
    let few = subst (λ n. n + c.loop-judged.at ≤ end.offset) plies
    (rw c.in-Ok-Some.field-0-is at c.in-Ok-Some.ensures.few) in
    let done = c.loop-judged.invariant.1.0
    ++ game_placed c.args.start.offset c.args.text.now c.loop-judged.at end s ∷ [] in
    let counts : c.with_game-tally.result ≡ record {
      games = c.loop-judged.tally.games + 1;
      half_moves = c.loop-judged.tally.half_moves + length s.moves;
      faults = c.loop-judged.tally.faults;
    } = c.with_game-tally.ensures ∙ ap (λ k. record {
      games = c.loop-judged.tally.games + 1;
      half_moves = c.loop-judged.tally.half_moves + k;
      faults = c.loop-judged.tally.faults;
    }) plies in (
      c.in-Ok-Some.ensures.limit,
      (
        done,
        subst (λ (t : Tally). SoFar c.args.options c.args.start c.args.text.now c.args.before w w''
            end.offset t done)
            (sym counts)
            (game_written c.args.options c.args.start c.args.text.now c.args.before w w' w'' c.loop-judged.at
            c.loop-judged.tally c.loop-judged.invariant.1.0 c.loop-judged.invariant.1.1 end s judged
            refl few
            further within
            (subst (λ n. Took w' w''
            (if c.args.options.quiet then [] else game_line n (length s.moves) end.outcome end.termination span))
            (c.of_game-label.ensures.number ∙ c.next_number-number.ensures)
            (subst (λ k. Took w' w'' (if c.args.options.quiet then [] else
            game_line c.of_game-label.result.number k end.outcome end.termination span)) plies
            (subst (λ t. Took w' w'' (if c.args.options.quiet then [] else
            game_line c.of_game-label.result.number c.in-Ok-Some.judged.plies end.outcome end.termination t))
            c.of_game-label.ensures.span c.in_ok-write_game-in-Ok-Some.ensures)))),
      ),
      c.loop-judged.invariant.2,
      c.loop-judged.invariant.3,
    )

-- a fault after which reading goes on
pub loop-judged-preserved : goal.loop-judged-preserved
loop-judged-preserved g c =
    let w = g.W.Output.seen c.args.output.now in
    let w' = g.W.Output.seen c.loop-judged.output in
    let w'' = g.W.Output.seen c.put.new.writer in
    let text = c.args.text.now in
    let fault = c.in-Err.fault in
    let s = (read_at c.args.options.strict.draws_of_2014 text c.loop-judged.at).state in
    let after = c.of_game-after.ensures in
    let same = c.counted_to-place.ensures.start ∙ c.loop-judged.invariant.2 in
    let written = λ (input : List ℕ) (stands : StandsIf c.args.options.explain c.args.start input text).
    (rw same at (c.fault_lines-lines.ensures input (c.counted_to-place.ensures.known.here input
    (subst (λ (t : TextStart). StandsIf c.args.options.explain t input text) (sym same) stands)))) in
    let next = sym after.next ∙ c.in-Some.is in
    let further = rw c.in-Some.is at after.further in
    let within = rw c.in-Some.is at after.within in
    let lines = fault_lines_are c.args.options c.args.start text c.loop-judged.at fault c.judge_game.new.game.state s
    c.in-Err.ensures.game c.loop-judged.tally c.of_game-faulty.result c.of_game-after.result after.next after.unread
    (c.of_game-faulty.ensures.number ∙ c.next_number-number.ensures) c.of_game-faulty.ensures.span
    c.of_game-faulty.ensures.names c.of_game-faulty.ensures.begin c.of_game-faulty.ensures.unread in
    let done = c.loop-judged.invariant.1.0
    ++ fault_placed c.args.options.strict.draws_of_2014 c.args.start.goes_on c.args.start.offset text c.loop-judged.at
    (next_at c.args.start.goes_on text c.loop-judged.at) fault s ∷ [] in (
      c.in-Err.ensures.limit,
      (
        done,
        subst (λ (t : Tally). SoFar c.args.options c.args.start text c.args.before w w'' c.in-Some.next t done)
            (sym c.with_fault-tally.ensures)
            (fault_passed c.args.options c.args.start text c.args.before w w' w'' c.loop-judged.at c.loop-judged.tally
            c.loop-judged.invariant.1.0 c.loop-judged.invariant.1.1 fault s (sym c.in-Err.ensures.judged)
            refl c.in-Some.next next further within
            (λ input stands. subst (Took w' w'') (c.as_slice.ensures.value ∙ written input stands
            ∙ lines input) c.in_ok-put-in-Err.ensures)),
      ),
      c.counted_to-place.ensures.start ∙ c.loop-judged.invariant.2,
      c.counted_to-place.ensures.known,
    )

-- one after which it doesn't
pub returns-in_default-clause-written : goal.returns-in_default-clause-written
returns-in_default-clause-written g c input stands =
    let w = g.W.Output.seen c.args.output.now in
    let w' = g.W.Output.seen c.loop-judged.output in
    let w'' = g.W.Output.seen c.put.new.writer in
    let text = c.args.text.now in
    let fault = c.in-Err.fault in
    let s = (read_at c.args.options.strict.draws_of_2014 text c.loop-judged.at).state in
    let after = c.of_game-after.ensures in
    let same = c.counted_to-place.ensures.start ∙ c.loop-judged.invariant.2 in
    let written = λ (input : List ℕ) (stands : StandsIf c.args.options.explain c.args.start input text).
    (rw same at (c.fault_lines-lines.ensures input (c.counted_to-place.ensures.known.here input
    (subst (λ (t : TextStart). StandsIf c.args.options.explain t input text) (sym same) stands)))) in
    let lines = fault_lines_are c.args.options c.args.start text c.loop-judged.at fault c.judge_game.new.game.state s
    c.in-Err.ensures.game c.loop-judged.tally c.of_game-faulty.result c.of_game-after.result after.next after.unread
    (c.of_game-faulty.ensures.number ∙ c.next_number-number.ensures) c.of_game-faulty.ensures.span
    c.of_game-faulty.ensures.names c.of_game-faulty.ensures.begin c.of_game-faulty.ensures.unread in
    subst (λ (t : Tally). Writes {E = WriteFault} c.args.options input c.args.before w w'' (Ok t)
    (placed_of c.args.start.goes_on c.args.options.strict c.args.start.offset text)) (sym c.with_fault-tally.ensures)
    (fault_written c.args.options c.args.start text c.args.before w w' w'' c.loop-judged.at c.loop-judged.tally
    c.loop-judged.invariant.1.0 c.loop-judged.invariant.1.1 fault s (sym c.in-Err.ensures.judged) refl
    WriteFault input stands (sym after.next ∙ c.in_default.is)
    (subst (Took w' w'') (c.as_slice.ensures.value ∙ written input stands ∙ lines input)
    c.in_ok-put-in-Err.ensures))

pub returns-in_err-put-in-Err-clause-written : goal.returns-in_err-put-in-Err-clause-written
returns-in_err-put-in-Err-clause-written g c input stands =
    let w = g.W.Output.seen c.args.output.now in
    let w' = g.W.Output.seen c.loop-judged.output in
    let w'' = g.W.Output.seen c.put.new.writer in
    let text = c.args.text.now in
    let fault = c.in-Err.fault in
    let s = (read_at c.args.options.strict.draws_of_2014 text c.loop-judged.at).state in
    let after = c.of_game-after.ensures in
    let same = c.counted_to-place.ensures.start ∙ c.loop-judged.invariant.2 in
    let written = λ (input : List ℕ) (stands : StandsIf c.args.options.explain c.args.start input text).
    (rw same at (c.fault_lines-lines.ensures input (c.counted_to-place.ensures.known.here input
    (subst (λ (t : TextStart). StandsIf c.args.options.explain t input text) (sym same) stands)))) in
    let lines = fault_lines_are c.args.options c.args.start text c.loop-judged.at fault c.judge_game.new.game.state s
    c.in-Err.ensures.game c.loop-judged.tally c.of_game-faulty.result c.of_game-after.result after.next after.unread
    (c.of_game-faulty.ensures.number ∙ c.next_number-number.ensures) c.of_game-faulty.ensures.span
    c.of_game-faulty.ensures.names c.of_game-faulty.ensures.begin c.of_game-faulty.ensures.unread in
    let p = err_from_is_err_and c.from_residual-in_err-put-in-Err.result c.from_residual-in_err-put-in-Err.ensures.1 in
    rw p.1 (fault_broke c.args.options c.args.start text c.args.before w w' w'' c.loop-judged.at c.loop-judged.tally
    c.loop-judged.invariant.1.0 c.loop-judged.invariant.1.1 fault s (sym c.in-Err.ensures.judged) refl
    c.in_err-put-in-Err.field-0.0 input stands
    (subst (CutShort w' w'') (c.as_slice.ensures.value ∙ written input stands ∙ lines input)
    c.in_err-put-in-Err.ensures))
