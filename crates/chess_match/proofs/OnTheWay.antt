-- The loop of `run_match_at`: its invariant (`OnTheWay`: the steps so far lead from the beginning to the present
-- match), how it begins (`begun`), how an event keeps it (`went_on`, `opened_on`), the measure that falls with each
-- round (`steps_left`, `went_less`, `opened_less`), the contract at its end (`played_at`), and that the outcome
-- reported is the game's (`reported_outcome`).
use Rattle.std.proofs.Common.{◌≡◌, ℕ, ◌+◌, ◌*◌, ◌<◌, ◌≤◌, Bool, true, false, ◌||◌, List, [], ◌++◌, refl, ap, sym, ◌∙◌, subst, arith, Option, None, Some, codes, if◌then◌else◌, is_some}
use Rattle.std.specs.Option.{option_map, option_map_or, option_or}
use Rattle.std.proofs.Math.Path.{fun_ext}
use Rattle.chess_base.specs.{ByColour.by_colour, ByColour.of_colour, declared.by_colour.ByColour.ByColour, declared.man.Colour.Colour, declared.man.Colour.TheVariants.White, declared.man.Colour.TheVariants.Black, declared.man.Move.Move, declared.setup.Setup.Setup}
use Rattle.chess_game.specs.{Ends.verdict, Ends.verdict_result, Game.from_start, Game.outcome_now, Game.verdict_now, Results.cut_tag, declared.verdicts.Verdict.Verdict, declared.results.Declared.Declared, declared.results.Outcome.Outcome, declared.results.Outcome.TheVariants.Unfinished, declared.tags.HowEnded.HowEnded}
use Rattle.chess_game.specs.Game as game
use Rattle.cecp_engine.specs.Items.{Item, last_said}
use Rattle.chess_match.specs.Acts.{Block, awaits_line, blocks_from, first_beyond, is_limited, is_over, waits_until}
use Rattle.chess_match.specs.{shared.Parts.blocks_after, Played.PlayedAt, Rules.Rules, Rules.rules_of, declared.patience.Patience.Patience, declared.phase.Phase.Phase as CorePhase, declared.reason.Reason.Reason, declared.run.MatchEnd.MatchEnd, declared.state.MatchState.MatchState, ties.Awaits.until_of, ties.Chess.Plays, ties.Reported.IsReported, ties.Sane.IsSane, ties.Sane.in_turn}
use Rattle.chess_match.specs.Effects.{Match, Phase, Handshake, Setup as SetupPhase, Opening, BeforeMove, AfterMove, Over, Effect, beginning, clock, effect}
use Rattle.chess_match.specs.Events.{Event, Line, Opened, Silent, OutputEnds, FailsToRead}
use Rattle.chess_match.specs.Reasons.{comment_of, declared_at, ended_by, reported_fault, reported_reason, outcome_by_reason, reported}
use Rattle.chess_match.specs.Table.{Step, Passing, Passes, watched}
use Rattle.chess_match.specs.declared.phase.Phase.TheVariants as core_in
use Rattle.chess_match.specs.declared.run.Setup as run_setup
use Rattle.chess_match.specs.ties.Driving.{Delivered, Leads, is_line_event, is_of_output, is_silence, looks_of, steps_of}
use Rattle.chess_match.specs.ties.Represents.{Goes, Represents, given_lines, name_by, nothing_said, phase_of}
use Rattle.chess_match.proofs.{CoreSteps.clocks_left, Passings.passed_as, Passings.passed_more, StaysSane.fine_after, StaysSane.sane_start, shared.MatchCases.on_when_read}
use Rattle.chess_match.proofs.Leading.{leads_as, leads_event, leads_on, leads_opened, leads_out, none}

-- core, game and table agree with a match that has come to `m`, by the steps `K`; `failed` says to which sides a write
-- failed, which is none while the match goes on
pub record IsOnTheWay (r : Rules) (old new : Passing) (core : MatchState) (played : List Move) (failed : Colour → Bool)
    (m : Match) (K : List Step) : Type 0 where
  pub stands : Represents r core played m
  pub sane : IsSane r m
  pub passes : Passes old new K
  pub leads : Leads r beginning.after (blocks_from White beginning.to) K m [] failed
  pub fine : is_over m.phase ≡ false → (S : Colour) → failed S ≡ false

-- the loop's invariant: there is a match that has come so far, and no block of it is left to be sent
abbrev pub OnTheWay : Rules → Passing → Passing → MatchState → List Move → (Colour → Bool) → Type 0
OnTheWay r old new core played failed = (m : Match) × (K : List Step) × IsOnTheWay r old new core played failed m K

-- the loop's measure, in this phase and if the table can give at most `n` lines or silences more: each of these makes
-- it smaller by 2 or more, the moment of an opening by 1, and at the end it is 0
abbrev pub steps_left : Phase → ℕ → ℕ
steps_left (Handshake c) n = 3 * n + 1
steps_left (SetupPhase c) n = 3 * n + 1
steps_left (Opening c) n = 3 * n + 2
steps_left (BeforeMove c opened) n = 3 * n + 1
steps_left (AfterMove c) n = 3 * n + 1
steps_left (Over reason) n = 0

-- ---- the start

-- the rules of a match that begins so, in this game
abbrev pub rules_in : run_setup.Setup → game.Seen → Rules
rules_in setup g = rules_of setup.start (of_colour setup.levels) setup.patience setup.draws g.limit

-- the game that was begun anew from the setup's start is played by the setup's rules
pub plays_anew : (g h : game.Seen) (setup : run_setup.Setup)
    → h ≡ game.with_state g (from_start setup.start) → Plays h (rules_in setup g)
plays_anew g h setup e = subst (λ (x : game.Seen). Plays x (rules_in setup g)) (sym e)
    (of_colour setup.levels, setup.patience, setup.draws, refl, refl)

-- a game with the setup's start and the limit, in which no result is declared, is played by the setup's rules
pub plays_on : (g h : game.Seen) (setup : run_setup.Setup) → h.state.start ≡ setup.start → h.limit ≡ g.limit
    → h.state.declared ≡ None → Plays h (rules_in setup g)
plays_on g h setup s l d = (
  of_colour setup.levels,
  setup.patience,
  setup.draws,
  ap (λ (x : Setup). rules_of x (of_colour setup.levels) setup.patience setup.draws g.limit) (sym s)
      ∙ ap (λ (n : ℕ). rules_of h.state.start (of_colour setup.levels) setup.patience setup.draws n) (sym l),
  d,
)

-- the first lines are those of White's handshake
pub begins : (r : Rules) (core : MatchState) (played : List Move) → core.phase ≡ core_in.Handshake White
    → Represents r core played beginning.after
    → Goes r core played (record { draw = None; entered = true }) nothing_said beginning
unfolding given_lines
begins r core played e s = record { stands = s; gives = λ S. rw e refl }

-- the invariant holds once the first lines were sent
pub begun : (r : Rules) (old new : Passing) (core : MatchState) (played : List Move) (failed : Colour → Bool)
    → Delivered r old new core played beginning.after (blocks_from White beginning.to) failed
    → OnTheWay r old new core played failed
begun r old new core played failed (m, K, d) = (
  m,
  K,
  record { stands = d.stands; sane = d.sane (sane_start r); passes = d.passes; leads = d.leads; fine = d.fine },
)

-- ---- one event more

-- a match that is not over came to `m'` by the steps `J`
came : (r : Rules) (old now new : Passing) (core core' : MatchState) (played played' : List Move)
    (failed failed' : Colour → Bool) (m m' : Match) (K J : List Step)
    → IsOnTheWay r old now core played failed m K → is_over m.phase ≡ false → Represents r core' played' m'
    → IsSane r m' → Passes now new J → Leads r m [] J m' [] failed'
    → (is_over m'.phase ≡ false → (S : Colour) → failed' S ≡ false) → OnTheWay r old new core' played' failed'
came r old now new core core' played played' failed failed' m m' K J w on stands sane passes leads fine = (
  m',
  K ++ J,
  record {
    stands = stands;
    sane = sane;
    passes = passed_more old now new K J w.passes passes;
    leads = leads_as r beginning.after m' (blocks_from White beginning.to) [] (K ++ J)
        (λ X. failed X || failed' X) failed' (λ X. ap (λ (b : Bool). b || failed' X) (w.fine on X))
        (leads_on r beginning.after m m' (blocks_from White beginning.to) [] [] K J failed failed'
        (λ h. let no : false ≡ true = sym on ∙ h in absurd cc) w.leads leads);
    fine = fine;
  },
)

-- until which moment the core waits is what the match calls for
until_is : (r : Rules) (core : MatchState) (played : List Move) (m : Match) → Represents r core played m
    → until_of core core.phase ≡ waits_until r m.phase m
until_is r core played m s = by_phase core.phase s.phase
  where
    replies : option_map (λ limit. option_map_or (λ since. first_beyond since limit) core.since 0) core.patience.reply
        ≡ option_map (λ limit. option_map_or (λ since. first_beyond since limit) m.since 0) r.patience.reply
    replies = ap (λ (x : Option ℕ). option_map (λ limit. option_map_or (λ since. first_beyond since limit) x 0)
        core.patience.reply) s.since
        ∙ ap (λ (x : Patience). option_map (λ limit. option_map_or (λ since. first_beyond since limit) m.since 0)
        x.reply) s.patience

    by_phase : (p : CorePhase) → m.phase ≡ phase_of core.opened p → until_of core p ≡ waits_until r m.phase m
    by_phase (core_in.AwaitMove S) e =
        ap (λ (left : ℕ). if core.patience.flag then Some (first_beyond core.opened left) else None)
        (clocks_left r core played m s S)
        ∙ ap (λ (x : Patience). if x.flag then Some (first_beyond core.opened (clock r m S)) else None) s.patience
        ∙ ap (λ (p : Phase). waits_until r p m) (sym e)
    by_phase (core_in.Handshake S) e = replies ∙ ap (λ (p : Phase). waits_until r p m) (sym e)
    by_phase (core_in.Setup S) e = replies ∙ ap (λ (p : Phase). waits_until r p m) (sym e)
    by_phase (core_in.SendTurn S) e = replies ∙ ap (λ (p : Phase). waits_until r p m) (sym e)
    by_phase (core_in.AwaitPong S) e = replies ∙ ap (λ (p : Phase). waits_until r p m) (sym e)
    by_phase (core_in.Over reason) e = replies ∙ ap (λ (p : Phase). waits_until r p m) (sym e)

-- by a line, a silence, an end, or a read that failed, and what was then sent
pub went_on : (r : Rules) (old now between new : Passing) (core core' : MatchState) (played played' : List Move)
    (failed failed' : Colour → Bool) (m : Match) (K : List Step) (S : Colour) (e : Event)
    → IsOnTheWay r old now core played failed m K → awaits_line m.phase S ≡ true
    → is_of_output S e ≡ true → (is_silence e ≡ true → is_limited r.patience m.phase ≡ true)
    → Passes now between (looks_of (until_of core core.phase) e ++ steps_of e)
    → Delivered r between new core' played' (effect r m e).after (blocks_after S (effect r m e)) failed'
    → OnTheWay r old new core' played' failed'
went_on r old now between new core core' played played' failed failed' m K S e w awaits is limited passes (m', J, d) =
    let t : Effect = effect r m e in
    let I : List Step = looks_of (waits_until r m.phase m) e ++ steps_of e in
    let read = subst (λ (until : Option ℕ). Passes now between (looks_of until e ++ steps_of e))
    (until_is r core played m w.stands) passes in
    came r old now new core core' played played' failed failed' m m' K (I ++ J) w
    (on_when_read m.phase S awaits) d.stands (d.sane (fine_after r m S e is awaits w.sane).0)
    (passed_more now between new I J read d.passes)
    (leads_on r m t.after m' [] (blocks_after S t) [] I J none failed'
    (λ h. ap (λ (x : Match). x.phase) (d.stays h)) (leads_event r m S e is awaits limited) d.leads) d.fine

-- by the moment at the end of an opening
pub opened_on : (r : Rules) (old now new : Passing) (core core' : MatchState) (played : List Move)
    (failed : Colour → Bool) (m : Match) (K : List Step) (S : Colour) (moment : ℕ)
    → IsOnTheWay r old now core played failed m K → m.phase ≡ Opening S
    → Passes now new (steps_of (Opened S moment))
    → Represents r core' played (effect r m (Opened S moment)).after → OnTheWay r old new core' played failed
opened_on r old now new core core' played failed m K S moment w opening passes stands =
    let on : is_over m.phase ≡ false = ap is_over opening in
    let m' : Match = (effect r m (Opened S moment)).after in
    let sane : IsSane r m' = record {
      undecided = λ h. w.sane.undecided (ap in_turn opening);
      few = w.sane.few;
      count = w.sane.count;
    } in
    came r old now new core core' played played failed failed m m' K (steps_of (Opened S moment)) w on stands sane
    passes (leads_as r m m' [] [] (steps_of (Opened S moment)) none failed (λ X. sym (w.fine on X))
    (leads_opened r m S moment opening)) (λ h. w.fine on)

-- ---- how long lines are waited for

-- the core waits only until some moment exactly where lines are limited in its phase
until_limited : (core : MatchState) (p : CorePhase) → is_some (until_of core p) ≡ is_limited core.patience (phase_of core.opened p)
until_limited core p = grind arith

-- where the core waits only until some moment, the match is limited
pub limited : (r : Rules) (core : MatchState) (played : List Move) (m : Match) → Represents r core played m
    → is_some (until_of core core.phase) ≡ true → is_limited r.patience m.phase ≡ true
limited r core played m s h = ap (λ (x : Patience). is_limited x m.phase) (sym s.patience)
    ∙ ap (is_limited core.patience) s.phase ∙ sym (until_limited core core.phase) ∙ h

-- ---- what is left to do

-- the phase that the core keeps
abbrev pub phase_now : MatchState → Phase
phase_now core = phase_of core.opened core.phase

-- the measure in a phase that awaits a line
a_step : (p : Phase) (S : Colour) (n : ℕ) → awaits_line p S ≡ true → steps_left p n ≡ 3 * n + 1
a_step p S n h1 = grind arith

-- the measure is at most this, in any phase
few_steps : (p : Phase) (n : ℕ) → steps_left p n ≤ 3 * n + 2
few_steps p n = grind arith

-- with one line or silence less to come the measure falls
line_less : (p p' : Phase) (S : Colour) (n n' : ℕ) → awaits_line p S ≡ true → n' < n
    → steps_left p' n' < steps_left p n
line_less p p' S n n' h less = omega (arith, a_step p S n h, few_steps p' n', less)

-- when the match is over it falls
over_less : (p p' : Phase) (S : Colour) (n n' : ℕ) → awaits_line p S ≡ true → is_over p' ≡ true
    → steps_left p' n' < steps_left p n
over_less p p' S n n' h1 h2 = grind arith

-- when the moment at the end of an opening was read it falls
pub opened_less : (p p' : Phase) (S : Colour) (moment n n' : ℕ) → n' ≡ n → p ≡ Opening S
    → BeforeMove S moment ≡ p' → steps_left p' n' < steps_left p n
opened_less p p' S moment n n' h1 h2 h3 = grind arith

-- each event of an output makes it fall: after a line or a silence less is to come, and an end or a failed read ends
-- the match
pub went_less : (r : Rules) (between new : Passing) (core core' : MatchState) (played' : List Move) (m : Match)
    (S : Colour) (e : Event) (due : List Block) (failed' : Colour → Bool) (n n' n'' : ℕ)
    → awaits_line (phase_now core) S ≡ true → is_of_output S e ≡ true
    → (is_line_event e ≡ true → n' < n) → (is_silence e ≡ true → n' < n) → n'' ≡ n'
    → Delivered r between new core' played' (effect r m e).after due failed'
    → steps_left (phase_now core') n'' < steps_left (phase_now core) n
went_less r between new core core' played' m S (Line c t k) due failed' n n' n'' awaits is less quiet same d =
    subst (λ (x : ℕ). steps_left (phase_now core') x < steps_left (phase_now core) n) (sym same)
    (line_less (phase_now core) (phase_now core') S n n' awaits (less refl))
went_less r between new core core' played' m S (Silent c k) due failed' n n' n'' awaits is less quiet same d =
    subst (λ (x : ℕ). steps_left (phase_now core') x < steps_left (phase_now core) n) (sym same)
    (line_less (phase_now core) (phase_now core') S n n' awaits (quiet refl))
went_less r between new core core' played' m S (OutputEnds c) due failed' n n' n'' awaits is less quiet same (m', J, d) =
    over_less (phase_now core) (phase_now core') S n n'' awaits
    (ap is_over (sym d.stands.phase) ∙ ap (λ (x : Match). is_over x.phase) (d.stays refl))
went_less r between new core core' played' m S (FailsToRead c) due failed' n n' n'' awaits is less quiet same (m', J, d) =
    over_less (phase_now core) (phase_now core') S n n'' awaits
    (ap is_over (sym d.stands.phase) ∙ ap (λ (x : Match). is_over x.phase) (d.stays refl))
went_less r between new core core' played' m S e due failed' n n' n'' awaits is less quiet same d = absurd cc

-- ---- the end

-- the name by its definition (`name_by`), opened
name_kept : (items : List Item) (name : List ℕ) → name ≡ name_by items
    → name ≡ cut_tag (last_said (λ v. v.text) [] (codes "myname") items)
unfolding name_by
name_kept items name e = e

-- outcome, comment and kind of an end are those of its reason
one_report : (reason : Reason) (outcome : Outcome) (comment : List ℕ) (ended : HowEnded)
    → outcome ≡ outcome_by_reason reason → comment ≡ comment_of reason → ended ≡ ended_by reason
    → reported reason ≡ (outcome, comment, ended)
one_report reason outcome comment ended o c e = rw (o, c, e) refl

-- a game that ended so
abbrev ended : ℕ → Setup → List Move → Reason → game.Seen
ended limit start moves reason = record {
  limit = limit;
  state = record { start = start; moves = moves; declared = declared_at (verdict start moves) reason };
}

-- the game at the end: its start and its limit, the moves of the match, and what was declared
game_kept : (g h h' : game.Seen) (start : Setup) (m : Match) (reason : Reason)
    → h.state.start ≡ start → h.limit ≡ g.limit → h.state.moves ≡ m.played
    → h' ≡ game.with_state h (record h.state { declared = declared_at (verdict_now h.state) reason })
    → h' ≡ game.with_state g (record {
      start = start;
      moves = m.played;
      declared = declared_at (verdict start m.played) reason;
    })
game_kept g h h' start m reason s l k e =
    e
    ∙ ap (λ (n : ℕ). ended n h.state.start h.state.moves reason) l
    ∙ ap (λ (a : Setup). ended g.limit a h.state.moves reason) s
    ∙ ap (λ (ms : List Move). ended g.limit start ms reason) k

-- the outcome of a verdict, else of what was declared
abbrev outcome_by : Option Verdict → Option Declared → Outcome
outcome_by v d = option_map_or (λ (x : Declared). x.outcome) (option_or (option_map verdict_result v) d) Unfinished

-- the outcome of the game is the one that is reported
pub reported_outcome : (h h' : game.Seen) (reason : Reason) (outcome : Outcome)
    → h' ≡ game.with_state h (record h.state { declared = declared_at (verdict_now h.state) reason })
    → outcome ≡ outcome_by_reason (reported_reason (verdict_now h.state) reason) → outcome_now h'.state ≡ outcome
reported_outcome h h' reason outcome e o =
    subst (λ (x : game.Seen). outcome_now x.state ≡ outcome) (sym e) (at (verdict_now h.state) ∙ sym o)
  where
    at : (v : Option Verdict)
        → outcome_by v (declared_at v reason) ≡ outcome_by_reason (reported_reason v reason)
    at None = refl
    at (Some v) = refl

-- the contract of `run_match_at` at the end of the loop, from the invariant and from what `end_of` reports
pub played_at : (setup : run_setup.Setup) (old new : Passing) (g h h' : game.Seen) (core : MatchState)
    (reason : Reason) (failed : ByColour Bool) (end : MatchEnd)
    → OnTheWay (rules_in setup g) old new core h.state.moves (of_colour failed)
    → phase_now core ≡ Over reason → IsReported (verdict_now h.state) reason failed end
    → end.white_name ≡ core.players.white.name → end.black_name ≡ core.players.black.name
    → h.state.start ≡ setup.start → h.limit ≡ g.limit
    → h' ≡ game.with_state h (record h.state { declared = declared_at (verdict_now h.state) reason })
    → PlayedAt setup end old new g h'
played_at setup old new g h h' core reason failed end (m, K, w) over end_is wn bn s l e =
    let r : Rules = rules_in setup g in
    let ended : m.phase ≡ Over reason = w.stands.phase ∙ over in
    let (H, is_match, steps, broken) =
    leads_out r beginning.after m (blocks_from White beginning.to) K (of_colour failed) reason w.leads ended in (
      H,
      reason,
      m,
      is_match,
      passed_as old new K (watched r reason beginning.after H) (sym steps) w.passes,
      record {
        ended = ended;
        report = subst
            (λ (v : Option Verdict). reported (reported_reason v reason) ≡ (end.outcome, end.comment, end.ended))
            board (one_report (reported_reason (verdict_now h.state) reason) end.outcome end.comment end.ended
            end_is.outcome end_is.comment end_is.ended);
        name = λ S. names S;
        fault = end_is.fault ∙ ap (reported_fault reason) (fun_ext (λ S. sym (broken S)));
      },
      game_kept g h h' setup.start m reason s l w.stands.moves e,
    )
  where
    board : verdict_now h.state ≡ verdict setup.start m.played
    board = ap (λ (a : Setup). verdict a h.state.moves) s ∙ ap (λ (ms : List Move). verdict setup.start ms) w.stands.moves

    names : (S : Colour) → by_colour end.white_name end.black_name S
        ≡ cut_tag (last_said (λ v. v.text) [] (codes "myname") (m.seat S).items)
    names White = name_kept (m.seat White).items end.white_name (wn ∙ w.stands.white.name)
    names Black = name_kept (m.seat Black).items end.black_name (bn ∙ w.stands.black.name)
