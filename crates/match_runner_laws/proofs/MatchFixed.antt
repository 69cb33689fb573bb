-- A match at a host over memory is fixed by the host and the plan (one_match). Game by game, the host starts both
-- engines with the same texts and shows the same moments, so the games of two matches are the same as far as both have
-- games (begin_alike). Both end at the same game, the last or the first with a fault (all_same), so their outputs, logs
-- and faults are the same.
use Rattle.std.proofs.Common.{◌≡◌, ◌∙◌, ◌+◌, ◌<◌, ◌-◌, ◌⊎◌, ℕ, suc, true, List, [], ◌∷◌, ◌++◌, length, Option, None, Some, Result, Ok, Err, refl, sym, ap, subst, append_assoc, append-nil, length-append, arith, inl, inr}
use Rattle.std.specs.Prelude.{⊤, codes, decimal, is_some}
use Rattle.std.specs.List.{AllByRecursion, enumerate_from, flat_map, last_or, slice_get}
use Rattle.std.specs.Option.{option_map, option_or, option_to_list}
use Rattle.byte_devices.specs.Transfers.{Devices, ToOutput, OutputTook, all_of}
use Rattle.chess_base.specs.{ByColour.by_colour, declared.man.Colour.Colour, declared.man.Colour.TheVariants.White, declared.man.Colour.TheVariants.Black}
use Rattle.byte_devices.specs.Bytes.{new_line}
use Rattle.chess_match.specs.{Acts.Act, Effects.Match, Effects.Over, Lines.bytes_of, declared.reason.MatchFault.MatchFault, declared.reason.Reason.Reason, declared.reason.Reason.TheVariants.Faulted}
use Rattle.chess_match.specs.Reasons.{comment_of, ended_by, outcome_by_reason, reported_fault}
use Rattle.chess_match.specs.laws.Laws.{is_broken, lines_sent, moments_shown, notes_given}
use Rattle.chess_match_laws.specs.OfActs.{OnlyOneMatch, SilencesAreAskedFor, endless}
use Rattle.chess_match.specs.declared.games_plan.GamesPlan.{GamesPlan}
use Rattle.match_runner.specs.{declared.fault.GamesFault.GamesFault, declared.memory_host.MemoryEngine.MemoryEngine, Log.Logged}
use Rattle.match_runner.specs.declared.fault.GamesFault.TheVariants.{CanNotStart, Game, NoMemory, WriteFailed}
use Rattle.match_runner.specs.Games.{AreAllGames, GameRecord, IsOfPlan, LogsGames, WritesGames, game_log, game_text, game_texts, report_of, score_line}
use Rattle.match_runner.specs.GamesTable.{ComeInTurn, GamesStep, HostStep, OpensClock, Outputs, PlaysGamesWith, Writes, at_host, games_steps, last_steps, steps_by}
use Rattle.match_runner.specs.MemoryHost.{IsNext, fresh_pipes, started_by, started_for, started_in}
use Rattle.match_runner_laws.specs.OneMatch.{FinishesWell, HasScore, OneMatchOfAHost, sent_in}
use Rattle.match_runner_laws.proofs.GameFixed.{Fresh, Whole, are_of, clock_left, sent_all, streams}
use Rattle.match_runner_laws.proofs.PgnOfLogs.{Alike, is_played, left, named, reason_shown, rules, text_is, written_alike}

-- ---- one game

-- two games are the same, for all that is written, logged and sent of them, and leave the same clock
pub record SameGame (plan : GamesPlan) (g h : GameRecord) : Type 0 where
  pub texts : (number : ℕ) → game_text plan number g ≡ game_text plan number h
  pub outcomes : g.end.outcome ≡ h.end.outcome
  pub faults : g.end.fault ≡ h.end.fault
  pub notes : g.notes ≡ h.notes
  pub killed : g.killed ≡ h.killed
  pub sent : (S : Colour) → (g.after.engines S).output.known_bytes ≡ (h.after.engines S).output.known_bytes
  pub clock : (n : ℕ) → g.after.coming n ≡ h.after.coming n
  pub known : (n : ℕ) → is_some (g.after.coming n) ≡ true

-- equal matches ended for the same reason
same_reason : (m m' : Match) (reason reason' : Reason) → m ≡ m' → m.phase ≡ Over reason → m'.phase ≡ Over reason'
    → reason ≡ reason'
same_reason m m' reason reason' e h k =
    let same : Over reason ≡ Over reason' = sym h ∙ ap (λ (x : Match). x.phase) e ∙ k in cc

module _ (only : OnlyOneMatch) (asked : SilencesAreAskedFor) (plan : GamesPlan) (patient : plan.patience ≡ endless) where
  one_game : (here : ℕ) (texts : Colour → List ℕ) (coming : ℕ → Option ℕ) (g h : GameRecord)
      → IsOfPlan plan here g → IsOfPlan plan here h → Fresh texts coming g.before → Fresh texts coming h.before
      → Whole g.after → Whole h.after → SameGame plan g h
  one_game here texts coming g h of of' fresh fresh' whole whole' =
      let (H, reason, final, p) = is_played plan here g of in
      let (K, reason', final', q) = is_played plan here h of' in
      let quiet = (asked (rules plan here) H final p.passed.is_match patient).1 in
      let quiet' = (asked (rules plan here) K final' q.passed.is_match patient).1 in
      let a = are_of texts coming (rules plan here) H final g.before g.after fresh whole p.passed quiet in
      let b = are_of texts coming (rules plan here) K final' h.before h.after fresh' whole' q.passed quiet' in
      let (acts, ends) = only (rules plan here) (streams texts coming) H K final final' p.passed.is_match q.passed.is_match a b in
      let reasons : reason ≡ reason' = same_reason final final' reason reason' ends p.over q.over in
      let shown : reason_shown plan reason final.played ≡ reason_shown plan reason' final'.played =
      ap (λ (x : Reason). reason_shown plan x final.played) reasons
      ∙ ap (λ (m : Match). reason_shown plan reason' m.played) ends in
      let none = ap (λ p. p.reply) patient in
      record {
        texts = λ number. text_is plan number g.end.white_name h.end.white_name g.end.black_name h.end.black_name
            g.end.ended h.end.ended g.after.game.state h.after.game.state
            (p.white ∙ ap (λ (m : Match). named (m.seat White).items) ends ∙ sym q.white)
            (p.black ∙ ap (λ (m : Match). named (m.seat Black).items) ends ∙ sym q.black)
            (p.ended ∙ ap ended_by shown ∙ sym q.ended)
            (p.game ∙ ap (λ (x : Reason). left plan x final.played) reasons
            ∙ ap (λ (m : Match). left plan reason' m.played) ends ∙ sym q.game);
        outcomes = p.outcome ∙ ap outcome_by_reason shown ∙ sym q.outcome;
        faults = p.fault ∙ ap (λ (x : Reason). reported_fault x (is_broken H)) reasons
            ∙ ap (λ (A : List Act). reported_fault reason' (is_broken A)) acts ∙ sym q.fault;
        notes = sym p.notes ∙ ap (λ (x : Reason). notes_given x H) reasons
            ∙ ap (λ (A : List Act). notes_given reason' A) acts ∙ q.notes;
        killed = of.1 none ∙ sym (of'.1 none);
        sent = λ S. sent_all texts coming (rules plan here) H final g.before g.after fresh whole p.passed S
            ∙ ap (λ (A : List Act). Some (bytes_of (lines_sent S A))) acts
            ∙ sym (sent_all texts coming (rules plan here) K final' h.before h.after fresh' whole' q.passed S);
        clock = λ n. clock_left texts coming (rules plan here) H final g.before g.after fresh whole p.passed n
            ∙ ap (λ (A : List Act). coming (length (moments_shown A) + n)) acts
            ∙ sym (clock_left texts coming (rules plan here) K final' h.before h.after fresh' whole' q.passed n);
        known = λ n. ap is_some (clock_left texts coming (rules plan here) H final g.before g.after fresh whole p.passed n)
            ∙ fresh.known (length (moments_shown H) + n);
      }

-- ---- what may come, step by step

-- each of these steps may come after those before it
abbrev EachNext : List MemoryEngine → List ℕ → List (List ℕ) → List HostStep → Type 0
EachNext engines moments earlier [] = ⊤
EachNext engines moments earlier (step ∷ steps) =
    IsNext engines moments earlier step × EachNext engines moments (earlier ++ started_by step) steps

-- from what may come as `MayCome` says it, with all steps before a step, to the recursive form
each_next : (engines : List MemoryEngine) (moments : List ℕ) (earlier : List (List ℕ)) (steps : List HostStep)
    → ((before : List HostStep) (step : HostStep) (after : List HostStep) → before ++ step ∷ after ≡ steps
    → IsNext engines moments (earlier ++ started_in before) step)
    → EachNext engines moments earlier steps
each_next engines moments earlier [] h = tt
each_next engines moments earlier (step ∷ steps) h = (
  subst (λ (all : List (List ℕ)). IsNext engines moments all step) (append-nil earlier) (h [] step steps refl),
  each_next engines moments (earlier ++ started_by step) steps
      (λ before next after cut. subst (λ (all : List (List ℕ)). IsNext engines moments all next)
      (sym (append_assoc earlier (started_by step) (started_in before)))
      (h (step ∷ before) next after (ap (λ (K : List HostStep). step ∷ K) cut))),
)

-- two pipes that were opened for the same start are fresh pipes of one text
one_text : (t : Option (List ℕ)) (a b : Devices) → option_map fresh_pipes t ≡ Some a → option_map fresh_pipes t ≡ Some b
    → (text : List ℕ) × (a ≡ fresh_pipes text) × (b ≡ fresh_pipes text)
one_text None a b e k = absurd (cc)
one_text (Some text) a b e k = (text, cc, cc)

-- a world whose engines will say these texts
is_fresh : (white black : List ℕ) (coming : ℕ → Option ℕ) (g : GameRecord)
    → g.before.engines White ≡ fresh_pipes white → g.before.engines Black ≡ fresh_pipes black
    → ((n : ℕ) → g.before.coming n ≡ coming n) → ((n : ℕ) → is_some (coming n) ≡ true)
    → Fresh (by_colour white black) coming g.before
is_fresh white black coming g w b clock known = record {
  texts = texts;
  unsent = unsent;
  reads = reads;
  writes = writes;
  clock = clock;
  known = known;
}
  where
    texts : (S : Colour) → (g.before.engines S).input.known_bytes ≡ Some (by_colour white black S)
    texts White = ap (λ (d : Devices). d.input.known_bytes) w
    texts Black = ap (λ (d : Devices). d.input.known_bytes) b

    unsent : (S : Colour) → (g.before.engines S).output.known_bytes ≡ Some []
    unsent White = ap (λ (d : Devices). d.output.known_bytes) w
    unsent Black = ap (λ (d : Devices). d.output.known_bytes) b

    reads : (S : Colour) → (g.before.engines S).input.failure_count ≡ 0
    reads White = ap (λ (d : Devices). d.input.failure_count) w
    reads Black = ap (λ (d : Devices). d.input.failure_count) b

    writes : (S : Colour) → (g.before.engines S).output.failure_count ≡ 0
    writes White = ap (λ (d : Devices). d.output.failure_count) w
    writes Black = ap (λ (d : Devices). d.output.failure_count) b

-- ---- the games of two matches

-- the steps of these games at the host, if the first has this number
abbrev steps_from : GamesPlan → ℕ → List GameRecord → List HostStep
steps_from plan number games = at_host (flat_map (λ g. steps_by Writes plan g.0 g.1) (enumerate_from number games))

-- these games, of which the first has this number, were played as the plan says
abbrev AreOfPlan : GamesPlan → ℕ → List GameRecord → Type 0
AreOfPlan plan number games = AllByRecursion (λ g. IsOfPlan plan g.0 g.1) (enumerate_from number games)

-- as long as both lists have games, these are the same
abbrev BeginAlike : GamesPlan → List GameRecord → List GameRecord → Type 0
BeginAlike plan (g ∷ gs) (h ∷ hs) = SameGame plan g h × BeginAlike plan gs hs
BeginAlike plan _ _ = ⊤

-- the same games
abbrev AllSame : GamesPlan → List GameRecord → List GameRecord → Type 0
AllSame plan [] [] = ⊤
AllSame plan (g ∷ gs) (h ∷ hs) = SameGame plan g h × AllSame plan gs hs
AllSame plan _ _ = ⊥

module _ (only : OnlyOneMatch) (asked : SilencesAreAskedFor) (plan : GamesPlan) (patient : plan.patience ≡ endless)
    (engines : List MemoryEngine) (moments : List ℕ) where
  -- by induction over the games: equal texts and an equal clock before a game make it the same, and the clock after it
  begin_alike : (number : ℕ) (earlier : List (List ℕ)) (c c' : ℕ → Option ℕ) (games games' : List GameRecord)
      → AreOfPlan plan number games → AreOfPlan plan number games'
      → ComeInTurn c games → ComeInTurn c' games'
      → ((n : ℕ) → c n ≡ c' n) → ((n : ℕ) → is_some (c n) ≡ true)
      → EachNext engines moments earlier (steps_from plan number games)
      → EachNext engines moments earlier (steps_from plan number games')
      → AllByRecursion FinishesWell (steps_from plan number games)
      → AllByRecursion FinishesWell (steps_from plan number games')
      → BeginAlike plan games games'
  begin_alike number earlier c c' [] games' of of' turn turn' same known next next' well well' = tt
  begin_alike number earlier c c' (g ∷ gs) [] of of' turn turn' same known next next' well well' = tt
  begin_alike number earlier c c' (g ∷ gs) (h ∷ hs) (of, ofs) (of', ofs') (turn, turns) (turn', turns') same known
      (next, (last, nexts)) (next', (last', nexts')) (start, (well, wells)) (start', (well', wells')) =
      let (white, w, w') = one_text _ (g.before.engines White) (h.before.engines White) next.0 next'.0 in
      let (black, b, b') = one_text _ (g.before.engines Black) (h.before.engines Black) next.1 next'.1 in
      let one = one_game only asked plan patient number (by_colour white black) c g h of of'
      (is_fresh white black c g w b (λ n. ap (λ (f : ℕ → Option ℕ). f n) turn.1) known)
      (is_fresh white black c h w' b' (λ n. ap (λ (f : ℕ → Option ℕ). f n) turn'.1 ∙ sym (same n)) known)
      (record { reads = λ S. (well S).0; writes = λ S. (well S).1 })
      (record { reads = λ S. (well' S).0; writes = λ S. (well' S).1 }) in (
        one,
        begin_alike (number + 1) _ g.after.coming h.after.coming gs hs ofs ofs' turns turns' one.clock one.known
            nexts nexts' wells wells',
      )

-- ---- where a match ends

-- of a match in which so many games are left to play, these are all that come: as many, or those up to and with the
-- first with a fault
abbrev Closed : ℕ → List GameRecord → Type 0
Closed left [] = left ≡ 0
Closed left (g ∷ gs) = (0 < left) × (((g.end.fault ≡ None) × Closed (left - 1) gs)
    ⊎ ((fault : Colour × MatchFault) × (g.end.fault ≡ Some fault) × (gs ≡ [])))

-- all games that a plan asks for, played without a fault, are all that come (`Closed`)
closed_all : (plan : GamesPlan) (number : ℕ) (games : List GameRecord)
    → AllByRecursion (λ g. IsOfPlan plan g.0 g.1 × (g.1.end.fault ≡ None)) (enumerate_from number games)
    → AreOfPlan plan number games × Closed (length games) games
closed_all plan number [] h = (tt, refl)
closed_all plan number (g ∷ gs) ((of, none), h) =
    let (ofs, closed) = closed_all plan (number + 1) gs h in
    let fewer : length gs ≡ length (g ∷ gs) - 1 = omega arith in
    ((of, ofs), (omega arith, inl (none, subst (λ (n : ℕ). Closed n gs) fewer closed)))

-- so are games of which just the last has a fault
closed_by_fault : (plan : GamesPlan) (number at left : ℕ) (before : List GameRecord) (last : GameRecord)
    (fault : Colour × MatchFault)
    → AllByRecursion (λ g. IsOfPlan plan g.0 g.1 × (g.1.end.fault ≡ None)) (enumerate_from number before)
    → IsOfPlan plan at last → at ≡ number + length before → last.end.fault ≡ Some fault → length before < left
    → AreOfPlan plan number (before ++ last ∷ []) × Closed left (before ++ last ∷ [])
closed_by_fault plan number at left [] last fault h of counted is few =
    let here : at ≡ number = omega (arith, counted) in
    ((subst (λ n. IsOfPlan plan n last) here of, tt), (omega (arith, few), inr (fault, is, refl)))
closed_by_fault plan number at left (g ∷ gs) last fault ((of', none), h) of counted is few =
    let (ofs, closed) = closed_by_fault plan (number + 1) at (left - 1) gs last fault h of (omega (arith, counted)) is
    (omega (arith, few)) in
    ((of', ofs), (omega (arith, few), inl (none, closed)))

-- so are the games of every match that was played to its score
closed_games : (plan : GamesPlan) (games : List GameRecord) (fault : Option (ℕ × Colour × MatchFault))
    → AreAllGames plan games fault → AreOfPlan plan 1 games × Closed plan.games games
closed_games plan games None (h, many) =
    let (ofs, closed) = closed_all plan 1 games h in (ofs, subst (λ (n : ℕ). Closed n games) many closed)
closed_games plan games (Some (number, side, fault)) (before, last, is, h, of, found, counted, few) =
    let longer = length-append before (last ∷ []) in
    let long = ap length is in
    rw is (closed_by_fault plan 1 number plan.games before last (side, fault) h of
    (omega (arith, longer, long, counted)) found (omega (arith, longer, long, counted, few)))

-- games that begin alike and are all games are the same
all_same : (plan : GamesPlan) (left : ℕ) (games games' : List GameRecord) → Closed left games → Closed left games'
    → BeginAlike plan games games' → AllSame plan games games'
all_same plan left [] [] closed closed' alike = tt
all_same plan left [] (h ∷ hs) closed (more, closed') alike = absurd (omega (arith, closed, more))
all_same plan left (g ∷ gs) [] (more, closed) closed' alike = absurd (omega (arith, closed', more))
all_same plan left (g ∷ gs) (h ∷ hs) (more, closed) (more', closed') (one, alike) =
    (one, at closed closed' (λ rest rest'. all_same plan (left - 1) gs hs rest rest' alike))
  where
    at : ((g.end.fault ≡ None) × Closed (left - 1) gs)
        ⊎ ((fault : Colour × MatchFault) × (g.end.fault ≡ Some fault) × (gs ≡ []))
        → ((h.end.fault ≡ None) × Closed (left - 1) hs)
        ⊎ ((fault : Colour × MatchFault) × (h.end.fault ≡ Some fault) × (hs ≡ []))
        → (Closed (left - 1) gs → Closed (left - 1) hs → AllSame plan gs hs) → AllSame plan gs hs
    at (inl (none, rest)) (inl (none', rest')) on = on rest rest'
    at (inl (none, rest)) (inr (fault, is, end)) on =
        absurd (let e : None ≡ Some fault = sym none ∙ one.faults ∙ is in cc)
    at (inr (fault, is, end)) (inl (none, rest)) on =
        absurd (let e : Some fault ≡ None = sym is ∙ one.faults ∙ none in cc)
    at (inr (fault, is, end)) (inr (fault', is', end')) on = rw (end, end') tt

-- ---- what comes of the same games

-- games that are the same are alike, by their PGN and outcome
alike : (plan : GamesPlan) (number : ℕ) (games games' : List GameRecord) → AllSame plan games games'
    → Alike plan (enumerate_from number games) (enumerate_from number games')
alike plan number [] [] h = tt
alike plan number (g ∷ gs) (k ∷ ks) (one, more) =
    (record { numbers = refl; texts = one.texts number; outcomes = one.outcomes }, alike plan (number + 1) gs ks more)
alike plan number gs ks h = absurd h

-- and have the same logs
logs_alike : (plan : GamesPlan) (number : ℕ) (games games' : List GameRecord) → AllSame plan games games'
    → flat_map (λ g. game_log plan g.0 g.1) (enumerate_from number games)
    ≡ flat_map (λ g. game_log plan g.0 g.1) (enumerate_from number games')
logs_alike plan number [] [] h = refl
logs_alike plan number (g ∷ gs) (k ∷ ks) (one, more) =
    rw (one.notes, one.killed, logs_alike plan (number + 1) gs ks more) refl
logs_alike plan number gs ks h = absurd h

-- and their engines were sent the same
sent_alike : (plan : GamesPlan) (number : ℕ) (games games' : List GameRecord) → AllSame plan games games'
    → sent_in (steps_from plan number games) ≡ sent_in (steps_from plan number games')
sent_alike plan number [] [] h = refl
sent_alike plan number (g ∷ gs) (k ∷ ks) (one, more) =
    rw (one.sent White, one.sent Black, sent_alike plan (number + 1) gs ks more) refl
sent_alike plan number gs ks h = absurd h

-- ---- the fault that is reported

-- the fault in the last of these games, if there is one
abbrev last_fault : List GameRecord → Option (Colour × MatchFault)
last_fault [] = None
last_fault (g ∷ []) = g.end.fault
last_fault (g ∷ h ∷ gs) = last_fault (h ∷ gs)

-- games without a fault have no last fault
no_fault : (plan : GamesPlan) (number : ℕ) (games : List GameRecord)
    → AllByRecursion (λ g. IsOfPlan plan g.0 g.1 × (g.1.end.fault ≡ None)) (enumerate_from number games)
    → last_fault games ≡ None
no_fault plan number [] h = refl
no_fault plan number (g ∷ []) ((of, none), h) = none
no_fault plan number (g ∷ k ∷ gs) (of, h) = no_fault plan (number + 1) (k ∷ gs) h

fault_at_end : (before : List GameRecord) (last : GameRecord) → last_fault (before ++ last ∷ []) ≡ last.end.fault
fault_at_end [] last = refl
fault_at_end (g ∷ []) last = refl
fault_at_end (g ∷ h ∷ gs) last = fault_at_end (h ∷ gs) last

-- games that are the same have the same last fault
same_fault : (plan : GamesPlan) (games games' : List GameRecord) → AllSame plan games games'
    → last_fault games ≡ last_fault games'
same_fault plan [] [] h = refl
same_fault plan (g ∷ []) (k ∷ []) (one, more) = one.faults
same_fault plan (g ∷ []) (k ∷ k' ∷ ks) (one, more) = absurd more
same_fault plan (g ∷ g' ∷ gs) (k ∷ []) (one, more) = absurd more
same_fault plan (g ∷ g' ∷ gs) (k ∷ k' ∷ ks) (one, more) = same_fault plan (g' ∷ gs) (k' ∷ ks) more
same_fault plan [] (k ∷ ks) h = absurd h
same_fault plan (g ∷ gs) [] h = absurd h

as_many : (plan : GamesPlan) (games games' : List GameRecord) → AllSame plan games games'
    → length games ≡ length games'
as_many plan [] [] h = refl
as_many plan (g ∷ gs) (k ∷ ks) (one, more) = ap (λ n. suc n) (as_many plan gs ks more)
as_many plan [] (k ∷ ks) h = absurd h
as_many plan (g ∷ gs) [] h = absurd h

-- a fault in the game of this number
abbrev in_game : ℕ → Option (Colour × MatchFault) → Option (ℕ × Colour × MatchFault)
in_game number None = None
in_game number (Some (side, fault)) = Some (number, side, fault)

-- the reported fault is the one in the last game
fault_of_last : (plan : GamesPlan) (games : List GameRecord) (fault : Option (ℕ × Colour × MatchFault))
    → AreAllGames plan games fault → fault ≡ in_game (length games) (last_fault games)
fault_of_last plan games None (h, many) =
    sym (ap (λ (f : Option (Colour × MatchFault)). in_game (length games) f) (no_fault plan 1 games h))
fault_of_last plan games (Some (number, side, fault)) (before, last, is, h, of, found, counted, few) =
    ap (λ n. Some (n, side, fault)) counted
    ∙ sym (ap (λ (f : Option (Colour × MatchFault)). in_game (length games) f)
    (ap last_fault is ∙ fault_at_end before last ∙ found))

-- what is reported of a match with this fault (`None`: without one)
abbrev reported : Option (ℕ × Colour × MatchFault) → List ℕ
reported None = []
reported (Some (number, side, fault)) =
    codes "arbiter: " ++ (codes "game " ++ decimal number ++ codes ": " ++ comment_of (Faulted side fault))
    ++ new_line ∷ []

-- so two matches of the same games report the same fault, or none
one_fault : (plan : GamesPlan) (games games' : List GameRecord) (fault fault' : Option (ℕ × Colour × MatchFault))
    → AreAllGames plan games fault → AreAllGames plan games' fault' → AllSame plan games games' → fault ≡ fault'
one_fault plan games games' fault fault' all all' same =
    fault_of_last plan games fault all
    ∙ ap (λ (n : ℕ). in_game n (last_fault games)) (as_many plan games games' same)
    ∙ ap (λ (f : Option (Colour × MatchFault)). in_game (length games') f) (same_fault plan games games' same)
    ∙ sym (fault_of_last plan games' fault' all')

-- ---- a match that was played to its score: its games, what they fix, and what it wrote and logged

record Scored (plan : GamesPlan) (result : Result (Unit {0}) GamesFault) (steps : List HostStep) (d d' : Outputs)
    : Type 0 where
  pub clock : ℕ → Option ℕ
  pub games : List GameRecord
  pub fault : Option (ℕ × Colour × MatchFault)
  pub all_games : AreAllGames plan games fault
  pub report : report_of result ≡ reported fault
  pub of_plan : AreOfPlan plan 1 games
  pub closed : Closed plan.games games
  pub turns : ComeInTurn clock games
  pub steps_are : steps ≡ OpensClock clock ∷ steps_from plan 1 games
  pub wrote : OutputTook d.output d'.output (all_of (game_texts plan games ++ score_line games))
  pub logged : LogsGames plan d.log d'.log games

-- the games of such a match, from its parts
scored_by : (plan : GamesPlan) (result : Result (Unit {0}) GamesFault) (steps : List HostStep) (d d' : Outputs)
    (c : ℕ → Option ℕ) (games : List GameRecord) (o : ToOutput) (fault : Option (ℕ × Colour × MatchFault))
    → report_of result ≡ reported fault → AreAllGames plan games fault
    → o ≡ all_of (game_texts plan games ++ score_line games) → OutputTook d.output d'.output o
    → LogsGames plan d.log d'.log (games ++ []) → ComeInTurn c (games ++ [])
    → steps ≡ OpensClock c ∷ at_host (games_steps plan games ++ []) → Scored plan result steps d d'
scored_by plan result steps d d' c games o fault told all is took logs turns steps_are =
    let (ofs, closed) = closed_games plan games fault all in record {
      clock = c;
      games = games;
      fault = fault;
      all_games = all;
      report = told;
      of_plan = ofs;
      closed = closed;
      turns = subst (ComeInTurn c) (append-nil games) turns;
      steps_are = steps_are
          ∙ ap (λ (K : List GamesStep). OpensClock c ∷ at_host K) (append-nil (games_steps plan games));
      wrote = subst (λ (t : ToOutput). OutputTook d.output d'.output t) is took;
      logged = subst (LogsGames plan d.log d'.log) (append-nil games) logs;
    }

-- each match that played to its score is such a match
scored : (plan : GamesPlan) (steps : List HostStep) (d d' : Outputs) (result : Result (Unit {0}) GamesFault)
    → PlaysGamesWith plan result steps d d' → HasScore result → Scored plan result steps d d'
scored plan steps d d' (Ok v) (inr (is, none, kept)) s = absurd (cc)
scored plan steps d d' (Err (Game number text)) (inr (is, none, kept)) s = absurd (cc)
scored plan steps d d' (Ok v) (inl (c, (games, unwritten, (o, writes, took, logs), turns, is))) s =
    at unwritten writes logs turns is
  where
    at : (u : Option GameRecord) → WritesGames plan (Ok v) games u o
        → LogsGames plan d.log d'.log (games ++ option_to_list u) → ComeInTurn c (games ++ option_to_list u)
        → steps ≡ OpensClock c ∷ at_host (games_steps plan games ++ last_steps plan (length games + 1) (Ok v) u)
        → Scored plan (Ok v) steps d d'
    at None (all, is_o) l t e = scored_by plan (Ok v) steps d d' c games o None refl all is_o took l t e
    at (Some u) w l t e = absurd w
scored plan steps d d' (Err (Game number text)) (inl (c, (games, unwritten, (o, writes, took, logs), turns, is))) s =
    at unwritten writes logs turns is
  where
    at : (u : Option GameRecord) → WritesGames plan (Err (Game number text)) games u o
        → LogsGames plan d.log d'.log (games ++ option_to_list u) → ComeInTurn c (games ++ option_to_list u)
        → steps ≡ OpensClock c ∷ at_host (games_steps plan games
        ++ last_steps plan (length games + 1) (Err (Game number text)) u)
        → Scored plan (Err (Game number text)) steps d d'
    at None (side, fault, all, words, is_o) l t e =
        scored_by plan (Err (Game number text)) steps d d' c games o (Some (number, side, fault)) (told words) all is_o
        took l t e
      where
        told : text.now ≡ comment_of (Faulted side fault)
            → report_of (Err (Game number text)) ≡ reported (Some (number, side, fault))
        told words = ap (λ (t : List ℕ). codes "arbiter: " ++ (codes "game " ++ decimal number ++ codes ": " ++ t)
            ++ new_line ∷ []) words
    at (Some u) w l t e = absurd w
scored plan steps d d' (Err WriteFailed) played s = absurd s
scored plan steps d d' (Err NoMemory) played s = absurd s
scored plan steps d d' (Err (CanNotStart command)) played s = absurd s

-- ---- the clock of a host

-- the last of some moments is known
some_last : (n : ℕ) (moments : List ℕ) → is_some (last_or (Some n) moments) ≡ true
some_last n [] = refl
some_last n (m ∷ moments) = some_last m moments

-- so each moment that a clock of a host will show is known
moment_known : (o p : Option ℕ) → is_some p ≡ true → is_some (option_or o p) ≡ true
moment_known None p h = h
moment_known (Some n) p h = refl

-- ---- both matches

pub one_match : OnlyOneMatch → SilencesAreAskedFor → OneMatchOfAHost
one_match only asked plan host steps steps' d d' e e' patient one two =
    let a = scored plan steps d d' one.result one.played one.scored in
    let b = scored plan steps' e e' two.result two.played two.scored in
    let next = subst (EachNext host.engines.now host.moments.now (started_for host.games.items)) a.steps_are
    (each_next host.engines.now host.moments.now (started_for host.games.items) steps one.at_host.each) in
    let next' = subst (EachNext host.engines.now host.moments.now (started_for host.games.items)) b.steps_are
    (each_next host.engines.now host.moments.now (started_for host.games.items) steps' two.at_host.each) in
    let well = subst (AllByRecursion FinishesWell) a.steps_are one.nothing_failed in
    let well' = subst (AllByRecursion FinishesWell) b.steps_are two.nothing_failed in
    let known : (n : ℕ) → is_some (a.clock n) ≡ true = λ n.
    ap (λ (f : ℕ → Option ℕ). is_some (f n)) next.0
    ∙ moment_known (slice_get host.moments.now n) _ (some_last 0 host.moments.now) in
    let begun = begin_alike only asked plan patient host.engines.now host.moments.now 1 _ a.clock b.clock a.games b.games
    a.of_plan b.of_plan a.turns b.turns (λ n. ap (λ (f : ℕ → Option ℕ). f n) (next.0 ∙ sym next'.0)) known
    next.1 next'.1 well.1 well'.1 in
    let same = all_same plan plan.games a.games b.games a.closed b.closed begun in
    let written = written_alike plan a.games b.games (alike plan 1 a.games b.games same) in
    let log = logs_alike plan 1 a.games b.games same in (
      (
        game_texts plan a.games ++ score_line a.games,
        a.wrote,
        subst (λ (text : List ℕ). OutputTook e.output e'.output (all_of text)) (sym written) b.wrote,
      ),
      (
        flat_map (λ g. game_log plan g.0 g.1) (enumerate_from 1 a.games),
        a.logged,
        subst (λ (text : List ℕ). Logged e.log e'.log text) (sym log) b.logged,
      ),
      ap sent_in a.steps_are ∙ sent_alike plan 1 a.games b.games same ∙ sym (ap sent_in b.steps_are),
      a.report
          ∙ ap reported (one_fault plan a.games b.games a.fault b.fault a.all_games b.all_games same)
          ∙ sym b.report,
    )
