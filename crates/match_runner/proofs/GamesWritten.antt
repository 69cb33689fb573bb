-- What `play_game`, `play_each` and `play_games_at` need: after each game the output, the log, the steps at the table,
-- the clock and the score are those of the games so far (SoFar; start, one_more). The match then ends in one of four
-- ways: all games played, a fault in the last game, a game not written, an engine not started (all_played, with_fault,
-- broke_off).
use Rattle.std.proofs.Common.{◌≡◌, ◌∙◌, ◌<◌, ◌≤◌, ◌+◌, ◌⊎◌, ℕ, Bool, true, false, List, [], ◌∷◌, ◌++◌, length, Bor, Option, Some, None, Ok, Err, Result, refl, sym, ap, subst, append-nil, append_assoc, length-append, arith, inl, inr, IfErr, cond, count_by, flat_map, if◌then◌else◌}
use Rattle.std.specs.List.{AllByRecursion, enumerate_from}
use Rattle.std.proofs.{lemmas.List.Concat.flat_map-append, lemmas.List.FromFn.length-enumerate_from, lemmas.List.Sums.count_by-le-length, lemmas.List.Sums.sum_by_push}
use Rattle.chess_match.specs.declared.games_plan.GamesPlan.{GamesPlan}
use Rattle.match_runner.specs.{Log.LogSeen, Log.Logged, Log.log_from, declared.fault.GamesFault.GamesFault, declared.games.GamesPlayed.GamesPlayed, declared.score.Score.Score}
use Rattle.chess_base.specs.{Men.other, Men.same_colour, Options.list_if, declared.man.Colour.Colour, declared.man.Colour.TheVariants.White, declared.man.Colour.TheVariants.Black}
use Rattle.byte_devices.specs.Devices.{OutputState, Begins, CutShort, Sent}
use Rattle.byte_devices.specs.Transfers.{ToOutput, OutputTook, all_of}
use Rattle.byte_devices.proofs.shared.Transfers.{broke, all_for, took_last, took_nothing, took_one_more, took_some_more}
use Rattle.chess_game.specs.{Game.Seen, Results.same_outcome, declared.results.Outcome.Outcome, declared.results.Outcome.TheVariants.Draw, declared.results.Outcome.TheVariants.Unfinished}
use Rattle.chess_match.specs.{Reasons.comment_of, Reasons.win_of, Notes.Note, Played.World, Played.PlayedNoting, declared.run.Setup.Setup, declared.reason.MatchFault.MatchFault, declared.reason.Reason.TheVariants.Faulted, declared.run.MatchEnd.MatchEnd}
use Rattle.pgn_writer.specs.{GameText.pgn, declared.tags.Tags.Tags}
use Rattle.match_runner.specs.Games.{AreAllGames, GameRecord, IsOfPlan, IsStartFault, LogsGame, LogsGames, PlaysGames, FaultlessGames, count_of, engine_command, first_side, game_log, game_text, game_texts, killed_lines, none_killed, score_line, tags_of}
use Rattle.match_runner.specs.GamesTable.{AreFresh, AtHost, BeginsAt, ComeInTurn, Finishes, GamesFuture, GamesStep, HostStep, Outputs, Plays, StartFails, Starts, StepsPass, PlaysGamesAt, PlaysGamesWith, WriteFails, Writes, games_steps, steps_by, unstarted_steps}
use Rattle.match_runner.specs.ties.Playing.{FailsToStart, HasPlayed, PlayedGame, clock_after, logged_side, no_score, plus, score_after, score_of, score_text}
use Rattle.match_runner.proofs.Logged.{logged_more, logs_none}
use Rattle.match_runner.specs.declared.fault.GamesFault.TheVariants.{WriteFailed, NoMemory, CanNotStart, Game}

-- the outputs of a match
abbrev pub outputs : OutputState → LogSeen → Outputs
outputs w l = record { output = w; log = l }

-- ---- one game

-- playing a match leaves the limit of its game's half-moves as it is
pub limit_kept : (notes : List Note) (setup : Setup) (end : MatchEnd) (w w' : World)
    → PlayedNoting (λ given. given ≡ notes) setup end w w' → w'.game.limit ≡ w.game.limit
limit_kept notes setup end w w' (H, reason, given, (final, passed, reported, left)) = ap (λ (v : Seen). v.limit) left

-- ---- engines that could not be started

-- a fault of starting either engine is one of starting both: it names White's command or Black's, or memory ran out
start_fault : (white black : List ℕ) (fault : GamesFault) → FailsToStart white fault ⊎ FailsToStart black fault
    → IsStartFault white black fault
start_fault white black (CanNotStart command) h = h
start_fault white black NoMemory h = refl
start_fault white black _ (inl h) = absurd h
start_fault white black _ (inr h) = absurd h

pub start_faults : {A : Type 0} (white black : List ℕ) (r : Result A GamesFault)
    → IfErr r (λ f. FailsToStart white f ⊎ FailsToStart black f) → IfErr r (IsStartFault white black)
start_faults white black (Ok v) h = tt
start_faults white black (Err fault) h = start_fault white black fault h

either : (x : Bool) (command white black : List ℕ) → command ≡ (if x then white else black)
    → (command ≡ white) ⊎ (command ≡ black)
either true command white black e = inl e
either false command white black e = inr e

-- if a game's White or Black can't be started, that is one of the plan's two engines, whichever side each has
pub plan_fault : (plan : GamesPlan) (number : ℕ) (fault : GamesFault)
    → IsStartFault (engine_command plan number White) (engine_command plan number Black) fault
    → IsStartFault plan.white.now plan.black.now fault
plan_fault plan number (CanNotStart command) (inl e) =
    either (same_colour White (first_side number)) command.now plan.white.now plan.black.now e
plan_fault plan number (CanNotStart command) (inr e) =
    either (same_colour Black (first_side number)) command.now plan.white.now plan.black.now e
plan_fault plan number _ h = h

-- ---- steps

pub steps_none : {S : Type 0} (p : List S → Type 0) → StepsPass p p []
steps_none {S} p = record { extends = λ after h. h }

-- steps that passed one after another, K and then J, passed as one list
pub steps_more : {S : Type 0} (p p' p'' : List S → Type 0) (K J : List S) → StepsPass p p' K → StepsPass p' p'' J
    → StepsPass p p'' (K ++ J)
steps_more {S} p p' p'' K J h k = record {
  extends = λ after x. subst (λ (all : List S). p all) (sym (append_assoc K J after))
      (h.extends (J ++ after) (k.extends after x));
}

-- ---- one game, step by step

-- the log of a game is empty if the plan asks for none
logs_if : (asked : Bool) (first : Colour) (l l' : LogSeen) (notes : List Note)
    → LogsGame (if asked then Some first else None) l l' notes → Logged l l' (list_if asked (log_from first 0 notes))
logs_if false first l l' notes h = subst (λ (v : LogSeen). Logged l v []) (sym h) (logs_none l)
logs_if true first l l' notes h = h

module _ (plan : GamesPlan) (number : ℕ) (c c1 c3 c4 : ℕ → Option ℕ) (p p1 p2 p3 p4 : GamesFuture)
    (w w' : OutputState) (l l' l'' : LogSeen)
    (white black : List ℕ) (limit : Option ℕ) (first : Option Colour) (played : GameRecord) (tags : Tags)
    (for_white : white ≡ engine_command plan number White) (for_black : black ≡ engine_command plan number Black)
    (side : first ≡ logged_side plan number) (tagged : tags ≡ tags_of plan number played.end)
    (limited : limit ≡ plan.patience.reply)
    (starts : StepsPass p p1 (AtHost (Starts white black limit played.before.engines) ∷ []))
    (fresh : (S : Colour) → AreFresh (played.before.engines S)) (kept : c1 ≡ c) (began : played.before.coming ≡ c1)
    (log : LogsGame first l l' played.notes)
    (plays : StepsPass p1 p2 (Plays (record played { killed = none_killed }) ∷ []))
    (finishes : StepsPass p3 p4 (AtHost (Finishes played.after.engines limit played.killed) ∷ []))
    (rested : c3 ≡ played.after.coming) (left : c4 ≡ c3)
    (kills : Logged l' l'' (killed_lines number played.killed)) where
  -- the PGN that was written, with the tags that `tags_of` made, is the text of this game
  tagged_text : pgn [] tags played.after.game.state ≡ game_text plan number played
  tagged_text = ap (λ (t : Tags). pgn [] t played.after.game.state) tagged

  -- the log has the notes of the game, if asked for, and then the lines on killed engines
  logs : Logged l l'' (game_log plan number played)
  logs =
      logged_more l l' l'' _ _
      (logs_if plan.log (first_side number) l l' played.notes
      (subst (λ (f : Option Colour). LogsGame f l l' played.notes) side log)) kills

  -- the engines are fresh, and the clock shows what it would have shown before they were started
  begins : BeginsAt c played
  begins = (fresh, began ∙ kept)

  -- the steps of a game in order: engines are started, it is played, its PGN is written (or that fails: `write`),
  -- engines are waited for
  all_steps : (write : List ℕ → GamesStep) → StepsPass p2 p3 (write (pgn [] tags played.after.game.state) ∷ [])
      → StepsPass p p4 (steps_by write plan number played)
  all_steps write writes =
      let start = AtHost (Starts white black limit played.before.engines) in
      let play = Plays (record played { killed = none_killed }) in
      let text = write (pgn [] tags played.after.game.state) in
      let finish = AtHost (Finishes played.after.engines limit played.killed) in
      rw (← tagged_text, ← for_white, ← for_black, ← limited) (
      steps_more p p1 p4 (start ∷ []) (play ∷ text ∷ finish ∷ []) starts
      (steps_more p1 p2 p4 (play ∷ []) (text ∷ finish ∷ []) plays
      (steps_more p2 p3 p4 (text ∷ []) (finish ∷ []) writes finishes)))

  pub was_written : IsOfPlan plan number played → Sent w w' (pgn [] tags played.after.game.state)
      → StepsPass p2 p3 (Writes (pgn [] tags played.after.game.state) ∷ [])
      → PlayedGame plan number c c4 p p4 w w' l l'' (Ok played.end)
  was_written of sent writes = (
    played,
    refl,
    of,
    subst (λ (t : List ℕ). Sent w w' t) tagged_text sent,
    logs,
    all_steps Writes writes,
    begins,
    left ∙ rested,
  )

  pub was_not_written : IsOfPlan plan number played → CutShort w w' (pgn [] tags played.after.game.state)
      → StepsPass p2 p3 (WriteFails (pgn [] tags played.after.game.state) ∷ [])
      → PlayedGame plan number c c4 p p4 w w' l l'' (Err WriteFailed)
  was_not_written of breaks fails = (
    played,
    of,
    subst (λ (t : List ℕ). CutShort w w' t) tagged_text breaks,
    logs,
    all_steps WriteFails fails,
    begins,
  )

-- if the engines could not be started, nothing was played, written or logged
pub was_not_started : (plan : GamesPlan) (number : ℕ) (c c' : ℕ → Option ℕ) (p p' : GamesFuture) (w : OutputState)
    (l : LogSeen) (white black : List ℕ) (limit : Option ℕ) (fault : GamesFault)
    → white ≡ engine_command plan number White
    → black ≡ engine_command plan number Black → limit ≡ plan.patience.reply → IsStartFault white black fault
    → StepsPass p p' (AtHost (StartFails white black limit fault) ∷ [])
    → PlayedGame plan number c c' p p' w w l l (Err fault)
was_not_started plan number c c' p p' w l white black limit fault for_white for_black limited is steps =
    at fault
    (plan_fault plan number fault (rw (← for_white, ← for_black) is))
    (rw (← for_white, ← for_black, ← limited) steps)
  where
    at : (f : GamesFault) → IsStartFault plan.white.now plan.black.now f
        → StepsPass p p' (unstarted_steps plan number f) → PlayedGame plan number c c' p p' w w l l (Err f)
    at NoMemory h k = (h, refl, refl, k)
    at (CanNotStart command) h k = (h, refl, refl, k)
    at _ h k = absurd (cc)

-- ---- games with their numbers

-- games numbered from n on, and one more, get the numbers from n on and the next one
numbers_more : (n : ℕ) (games : List GameRecord) (g : GameRecord)
    → enumerate_from n (games ++ g ∷ []) ≡ enumerate_from n games ++ (n + length games, g) ∷ []
numbers_more n [] g = ap (λ (k : ℕ). (k, g) ∷ []) (omega arith)
numbers_more n (x ∷ games) g =
    ap (λ (l : List (ℕ × GameRecord)). (n, x) ∷ l) (numbers_more (n + 1) games g)
    ∙ ap (λ (k : ℕ). (n, x) ∷ (enumerate_from (n + 1) games ++ (k, g) ∷ [])) (omega arith)

-- what each game gives by its number (f: its PGN, log or steps), joined, of one game more is that of the games and then
-- of the game
joined_more : {A : Type 0} (f : ℕ × GameRecord → List A) (games : List GameRecord) (g : GameRecord)
    → flat_map f (enumerate_from 1 (games ++ g ∷ []))
    ≡ flat_map f (enumerate_from 1 games) ++ f (1 + length games, g)
joined_more {A} f games g =
    ap (λ (l : List (ℕ × GameRecord)). flat_map f l) (numbers_more 1 games g)
    ∙ flat_map-append f (enumerate_from 1 games) ((1 + length games, g) ∷ [])
    ∙ ap (λ (l : List A). flat_map f (enumerate_from 1 games) ++ l) (append-nil (f (1 + length games, g)))

-- ---- logs of games

-- one more game was logged
logs_more : (plan : GamesPlan) (l l' l'' : LogSeen) (games : List GameRecord) (g : GameRecord)
    → LogsGames plan l l' games → Logged l' l'' (game_log plan (1 + length games) g)
    → LogsGames plan l l'' (games ++ g ∷ [])
logs_more plan l l' l'' games g h k =
    subst (λ (t : List ℕ). Logged l l'' t) (sym (joined_more (λ x. game_log plan x.0 x.1) games g))
    (logged_more l l' l'' _ (game_log plan (1 + length games) g) h k)

-- ---- texts of games

-- the PGN of one game more comes after those of the games
texts_more : (plan : GamesPlan) (games : List GameRecord) (g : GameRecord)
    → game_texts plan (games ++ g ∷ []) ≡ game_texts plan games ++ game_text plan (1 + length games) g
texts_more plan games g = joined_more (λ x. game_text plan x.0 x.1) games g

-- ---- steps of games

games_steps_more : (plan : GamesPlan) (games : List GameRecord) (g : GameRecord)
    → games_steps plan (games ++ g ∷ []) ≡ games_steps plan games ++ steps_by Writes plan (1 + length games) g
games_steps_more plan games g = joined_more (λ x. steps_by Writes plan x.0 x.1) games g

-- ---- the clock

-- games that follow one another on one clock do so with one game more, if it begins at what the clock then shows
turn_more : (c : ℕ → Option ℕ) (games : List GameRecord) (g : GameRecord) → ComeInTurn c games
    → BeginsAt (clock_after c games) g → ComeInTurn c (games ++ g ∷ [])
turn_more c [] g h begins = (begins, tt)
turn_more c (x ∷ games) g (first, h) begins = (first, turn_more x.after.coming games g h begins)

-- the clock after one game more is the one that this game leaves
clock_more : (c : ℕ → Option ℕ) (games : List GameRecord) (g : GameRecord)
    → clock_after c (games ++ g ∷ []) ≡ g.after.coming
clock_more c [] g = refl
clock_more c (x ∷ games) g = clock_more x.after.coming games g

-- ---- the score

-- a count of outcomes with one game more: one more if the game's outcome is the wanted one for its number
count_more : (wanted : ℕ → Outcome) (games : List GameRecord) (g : GameRecord) → count_of wanted (games ++ g ∷ [])
    ≡ count_of wanted games + cond (same_outcome g.end.outcome (wanted (1 + length games))) 1 0
count_more wanted games g =
    ap (λ (l : List (ℕ × GameRecord)). count_by (λ x. same_outcome x.1.end.outcome (wanted x.0)) l)
    (numbers_more 1 games g)
    ∙ sum_by_push (λ (x : ℕ × GameRecord). cond (same_outcome x.1.end.outcome (wanted x.0)) 1 0)
    (enumerate_from 1 games) (1 + length games, g)

-- a count is at most the number of games
count_few : (wanted : ℕ → Outcome) (games : List GameRecord) → count_of wanted games ≤ length games
count_few wanted games = subst (λ n. count_of wanted games ≤ n) (length-enumerate_from 1 games)
    (count_by-le-length (λ (x : ℕ × GameRecord). same_outcome x.1.end.outcome (wanted x.0)) (enumerate_from 1 games))

-- a count below its limit, 65,535, is exact
plus_is : (n : ℕ) (b : Bool) → n < 65535 → plus n b ≡ n + cond b 1 0
plus_is n true few = omega (arith, few)
plus_is n false few = omega arith

-- the counter's step is the count over one game more, while there are fewer than 65,535 games
counted_one : (wanted : ℕ → Outcome) (games : List GameRecord) (g : GameRecord) → length games < 65535
    → plus (count_of wanted games) (same_outcome g.end.outcome (wanted (1 + length games)))
    ≡ count_of wanted (games ++ g ∷ [])
counted_one wanted games g few =
    let le = count_few wanted games in
    plus_is (count_of wanted games) (same_outcome g.end.outcome (wanted (1 + length games))) (omega (arith, few, le))
    ∙ sym (count_more wanted games g)

abbrev scores : ℕ → ℕ → ℕ → ℕ → Score
scores a b c d = record { first = a; second = b; drawn = c; unfinished = d }

scores_are : (a a' b b' c c' d d' : ℕ) → a ≡ a' → b ≡ b' → c ≡ c' → d ≡ d' → scores a b c d ≡ scores a' b' c' d'
scores_are a a' b b' c c' d d' e f g h =
    cc

-- likewise the score, of its four counters
score_more : (games : List GameRecord) (g : GameRecord) → length games < 65535
    → score_after (first_side (1 + length games)) g.end.outcome (score_of games) ≡ score_of (games ++ g ∷ [])
score_more games g few =
    scores_are _ _ _ _ _ _ _ _ (counted_one (λ n. win_of (first_side n)) games g few)
    (counted_one (λ n. win_of (other (first_side n))) games g few) (counted_one (λ n. Draw) games g few)
    (counted_one (λ n. Unfinished) games g few)

-- the line of the score of these games
pub score_text_is : (games : List GameRecord) → score_text (score_of games) ≡ score_line games
unfolding score_text
score_text_is games = refl

-- ---- one game more

-- games that are numbered from `k` on
sound_from : (plan : GamesPlan) (k number : ℕ) (games : List GameRecord) (g : GameRecord) → number ≡ k + length games
    → AllByRecursion (λ x. IsOfPlan plan x.0 x.1 × (x.1.end.fault ≡ None)) (enumerate_from k games)
    → IsOfPlan plan number g → g.end.fault ≡ None
    → AllByRecursion (λ x. IsOfPlan plan x.0 x.1 × (x.1.end.fault ≡ None)) (enumerate_from k (games ++ g ∷ []))
sound_from plan k number [] g e h of none =
    let first : number ≡ k = omega (arith, e) in ((subst (λ n. IsOfPlan plan n g) first of, none), tt)
sound_from plan k number (x ∷ games) g e h of none =
    (h.0, sound_from plan (k + 1) number games g (omega (arith, e)) h.1 of none)

-- games without a fault, and one more without a fault, are games without a fault
sound_more : (plan : GamesPlan) (number : ℕ) (games : List GameRecord) (g : GameRecord) → number ≡ 1 + length games
    → FaultlessGames plan games → IsOfPlan plan number g → g.end.fault ≡ None → FaultlessGames plan (games ++ g ∷ [])
sound_more plan number games g e h of none = sound_from plan 1 number games g e h of none

-- ---- so far

-- after `games`, all without a fault: `number` is that of the next game, `score` is that of the games, and c, p, w and
-- l (clock, steps that may come, output and log) before the first became c', p', w' and l'
pub record SoFar (plan : GamesPlan) (c c' : ℕ → Option ℕ) (p p' : GamesFuture) (w w' : OutputState) (l l' : LogSeen)
    (number : ℕ) (score : Score) (games : List GameRecord) : Type 0
  where
    pub games_sound : FaultlessGames plan games
    pub numbered : number ≡ 1 + length games
    pub few : length games ≤ plan.games
    pub counted : score ≡ score_of games
    pub written : OutputTook w w' (all_for games (game_texts plan games))
    pub logged : LogsGames plan l l' games
    pub passed : StepsPass p p' (games_steps plan games)
    pub in_turn : ComeInTurn c games
    pub clock : c' ≡ clock_after c games

-- before the first game
pub start : (plan : GamesPlan) (c : ℕ → Option ℕ) (p : GamesFuture) (w : OutputState) (l : LogSeen)
    → SoFar plan c c p p w w l l 1 no_score []
start plan c p w l = record {
  games_sound = tt;
  numbered = omega arith;
  few = omega arith;
  counted = refl;
  written = took_nothing w;
  logged = logs_none l;
  passed = steps_none p;
  in_turn = tt;
  clock = refl;
}

module _ (plan : GamesPlan) (c c' c'' : ℕ → Option ℕ) (p p' p'' : GamesFuture) (w w' w'' : OutputState)
    (l l' l'' : LogSeen) (number : ℕ) (score : Score) (games : List GameRecord)
    (s : SoFar plan c c' p p' w w' l l' number score games) where
  -- the log with one game more
  logged_on : (g : GameRecord) → Logged l' l'' (game_log plan number g) → LogsGames plan l l'' (games ++ g ∷ [])
  logged_on g log =
      logs_more plan l l' l'' games g s.logged (subst (λ n. Logged l' l'' (game_log plan n g)) s.numbered log)

  -- the output with one game more
  written_more : (g : GameRecord) → Sent w' w'' (game_text plan number g)
      → OutputTook w w'' (all_for (games ++ g ∷ []) (game_texts plan (games ++ g ∷ [])))
  written_more g sent =
      rw (texts_more plan games g) (took_one_more w w' w'' games g (game_texts plan games)
      (game_text plan (1 + length games) g) s.written
      (subst (λ n. Sent w' w'' (game_text plan n g)) s.numbered sent))

  -- the clock with one game more
  turns_on : (g : GameRecord) → BeginsAt c' g → ComeInTurn c (games ++ g ∷ [])
  turns_on g begins =
      turn_more c games g s.in_turn (subst (λ (k : ℕ → Option ℕ). BeginsAt k g) s.clock begins)

  -- the steps with one game more
  passed_more : (g : GameRecord) → StepsPass p' p'' (steps_by Writes plan number g)
      → StepsPass p p'' (games_steps plan (games ++ g ∷ []))
  passed_more g steps =
      rw (games_steps_more plan games g) (steps_more p p' p'' (games_steps plan games)
      (steps_by Writes plan (1 + length games) g) s.passed
      (subst (λ n. StepsPass p' p'' (steps_by Writes plan n g)) s.numbered steps))

  -- the score with one game more
  counted_more : (g : GameRecord) → number ≤ 65535
      → score_after (first_side number) g.end.outcome score ≡ score_of (games ++ g ∷ [])
  counted_more g few =
      let n = s.numbered in
      ap (λ n. score_after (first_side n) g.end.outcome score) s.numbered
      ∙ ap (λ v. score_after (first_side (1 + length games)) g.end.outcome v) s.counted
      ∙ score_more games g (omega (arith, n, few))

  -- a game without a fault keeps the state of the match: `number` and the list of games grow by one
  pub one_more : (g : GameRecord) → number ≤ plan.games → number ≤ 65535 → IsOfPlan plan number g → g.end.fault ≡ None
      → Sent w' w'' (game_text plan number g) → Logged l' l'' (game_log plan number g)
      → StepsPass p' p'' (steps_by Writes plan number g) → BeginsAt c' g → c'' ≡ g.after.coming
      → SoFar plan c c'' p p'' w w'' l l'' (number + 1) (score_after (first_side number) g.end.outcome score)
      (games ++ g ∷ [])
  one_more g le small of none sent log steps begins rests =
      let n = s.numbered in
      let longer = length-append games (g ∷ []) in
      record {
        games_sound = sound_more plan number games g s.numbered s.games_sound of none;
        numbered = omega (arith, n, longer);
        few = omega (arith, n, longer, le);
        counted = counted_more g small;
        written = written_more g sent;
        logged = logged_on g log;
        passed = passed_more g steps;
        in_turn = turns_on g begins;
        clock = rests ∙ sym (clock_more c games g);
      }

  -- a game with an engine's fault is the last: the match was played up to it, and the score counts it
  pub with_fault : (g : GameRecord) (side : Colour) (fault : MatchFault) → number ≤ plan.games → number ≤ 65535
      → IsOfPlan plan number g
      → g.end.fault ≡ Some (side, fault) → Sent w' w'' (game_text plan number g)
      → Logged l' l'' (game_log plan number g) → StepsPass p' p'' (steps_by Writes plan number g) → BeginsAt c' g
      → HasPlayed plan c p p'' w w'' l l''
      (Ok (record { score = score_after (first_side number) g.end.outcome score; fault = Some (number, side, fault) }))
  with_fault g side fault le small of is sent log steps begins =
      let n = s.numbered in
      let longer = length-append games (g ∷ []) in (
        games ++ g ∷ [],
        (games, g, refl, s.games_sound, of, is, omega (arith, n, longer), le),
        counted_more g small,
        written_more g sent,
        logged_on g log,
        passed_more g steps,
        turns_on g begins,
      )

  -- the steps of the games, and then those of a game that was not written or not started (`last`, by its number)
  passed_last : (last : ℕ → List GamesStep) → StepsPass p' p'' (last number)
      → StepsPass p p'' (games_steps plan games ++ last (length games + 1))
  passed_last last steps =
      let n = s.numbered in
      let m : number ≡ length games + 1 = omega (arith, n) in
      steps_more p p' p'' (games_steps plan games) (last (length games + 1)) s.passed
      (subst (λ n. StepsPass p' p'' (last n)) m steps)

  -- a game that was not written
  not_written : (next : GameRecord) → number ≤ plan.games → IsOfPlan plan number next
      → CutShort w' w'' (game_text plan number next) → Logged l' l'' (game_log plan number next)
      → StepsPass p' p'' (steps_by WriteFails plan number next) → BeginsAt c' next
      → HasPlayed plan c p p'' w w'' l l'' (Err WriteFailed)
  not_written next le of (begun, begins, failing) log steps turn =
      let n = s.numbered in
      let m : number ≡ length games + 1 = omega (arith, n) in (
        games,
        next,
        (
          broke (all_for games (game_texts plan games)) begun,
          (
            s.games_sound,
            omega (arith, n, le),
            subst (λ k. IsOfPlan plan k next) m of,
            (begun, subst (λ k. Begins begun (game_text plan k next)) m begins, refl),
          ),
          took_some_more w w' w'' games (game_texts plan games) begun s.written failing,
          logged_on next log,
        ),
        turns_on next turn,
        passed_last (λ n. steps_by WriteFails plan n next) steps,
      )

  -- an engine that could not be started
  not_started : (fault : GamesFault) → number ≤ plan.games → IsStartFault plan.white.now plan.black.now fault
      → w'' ≡ w' → l'' ≡ l' → StepsPass p' p'' (unstarted_steps plan number fault)
      → (games : List GameRecord) × (o : ToOutput)
      × (FaultlessGames plan games × (length games < plan.games)
      × IsStartFault plan.white.now plan.black.now fault × (o ≡ all_for games (game_texts plan games)))
      × OutputTook w w'' o × LogsGames plan l l'' (games ++ []) × ComeInTurn c (games ++ [])
      × StepsPass p p'' (games_steps plan games ++ unstarted_steps plan (length games + 1) fault)
  not_started fault le is same log steps =
      let n = s.numbered in (
        games,
        all_for games (game_texts plan games),
        (s.games_sound, omega (arith, n, le), is, refl),
        subst (λ v. OutputTook w v (all_for games (game_texts plan games))) (sym same) s.written,
        subst (LogsGames plan l l'') (sym (append-nil games))
            (subst (λ v. LogsGames plan l v games) (sym log) s.logged),
        subst (ComeInTurn c) (sym (append-nil games)) s.in_turn,
        passed_last (λ n. unstarted_steps plan n fault) steps,
      )

  -- a fault that `play_game` returns ends the match: a game not written (not_written), or engines not started
  -- (not_started)
  pub broke_off : (fault : GamesFault) → number ≤ plan.games → PlayedGame plan number c' c'' p' p'' w' w'' l' l'' (Err fault)
      → HasPlayed plan c p p'' w w'' l l'' (Err fault)
  broke_off WriteFailed le (next, of, breaks, log, steps, turn) = not_written next le of breaks log steps turn
  broke_off (Game k text) le (is, same, log, steps) = absurd (cc)
  broke_off fault le played =
      let (is, same, log, steps) = played in
      let (games, o, writes, took, logs, turns, passes) = not_started fault le is same log steps in
      (games, is, (o, writes, took, logs), turns, passes)

-- when all games of the plan were played without a fault, the match was played to its end
pub all_played : (plan : GamesPlan) (c c' : ℕ → Option ℕ) (p p' : GamesFuture) (w w' : OutputState) (l l' : LogSeen)
    (number : ℕ) (score : Score) (games : List GameRecord) → SoFar plan c c' p p' w w' l l' number score games
    → plan.games < number → HasPlayed plan c p p' w w' l l' (Ok (record { score = score; fault = None }))
all_played plan c c' p p' w w' l l' number score games s past =
    let n = s.numbered in
    let few = s.few in
    (games, (s.games_sound, omega (arith, n, few, past)), s.counted, s.written, s.logged, s.passed, s.in_turn)

-- ---- the end of a match

-- a match that broke off in its games is one at the table: no score was written
pub broke_at_table : (plan : GamesPlan) (c : ℕ → Option ℕ) (p p' : GamesFuture) (w w' : OutputState) (l l' : LogSeen)
    (fault : GamesFault) → HasPlayed plan c p p' w w' l l' (Err fault)
    → PlaysGamesAt plan (Err fault) c p p' (outputs w l) (outputs w' l')
broke_at_table plan c p p' w w' l l' WriteFailed (games, unwritten, these, turns, steps) =
    (games, Some unwritten, these, turns, steps)
broke_at_table plan c p p' w w' l l' (Game number text) (games, is, these, turns, steps) = absurd (cc)
broke_at_table plan c p p' w w' l l' _ (games, is, these, turns, steps) = (games, None, these, turns, steps)

module _ (plan : GamesPlan) (c : ℕ → Option ℕ) (p p' : GamesFuture) (w w' w'' : OutputState) (l l' : LogSeen)
    (played : GamesPlayed) (h : HasPlayed plan c p p' w w' l l' (Ok played)) where
  -- the line of the score counts these games
  scored : score_text played.score ≡ score_line h.0
  scored = ap score_text h.2 ∙ score_text_is h.0

  -- the output has all games and then the score
  score_sent : Sent w' w'' (score_text played.score) → OutputTook w w'' (all_of (game_texts plan h.0 ++ score_line h.0))
  score_sent sent =
      took_last w w' w'' h.0 (game_texts plan h.0) (score_line h.0) h.3
      (subst (λ (line : List ℕ). Sent w' w'' line) scored sent)

  -- no game is unwritten
  logs_all : LogsGames plan l l' (h.0 ++ [])
  logs_all = subst (LogsGames plan l l') (sym (append-nil h.0)) h.4

  -- no step comes after those of the games
  steps_all : StepsPass p p' (games_steps plan h.0 ++ [])
  steps_all = subst (StepsPass p p') (sym (append-nil (games_steps plan h.0))) h.5

  -- each came in its turn
  turns_all : ComeInTurn c (h.0 ++ [])
  turns_all = subst (ComeInTurn c) (sym (append-nil h.0)) h.6

  -- the score was written, after games without a fault
  pub all_written : Sent w' w'' (score_text played.score) → played.fault ≡ None
      → PlaysGamesAt plan (Ok (tt {0})) c p p' (outputs w l) (outputs w'' l')
  all_written sent none = (
    h.0,
    None,
    (all_of (game_texts plan h.0 ++ score_line h.0), (subst (AreAllGames plan h.0) none h.1, refl), score_sent sent, logs_all),
    turns_all,
    steps_all,
  )

  -- the score was written, after a game with a fault, whose report is `text`
  pub fault_written : (number : ℕ) (side : Colour) (fault : MatchFault) (text : Bor (List ℕ))
      → text.now ≡ comment_of (Faulted side fault)
      → Sent w' w'' (score_text played.score) → played.fault ≡ Some (number, side, fault)
      → PlaysGamesAt plan (Err (Game number text)) c p p' (outputs w l) (outputs w'' l')
  fault_written number side fault text written sent is = (
    h.0,
    None,
    (
      all_of (game_texts plan h.0 ++ score_line h.0),
      (side, fault, subst (AreAllGames plan h.0) is h.1, written, refl),
      score_sent sent,
      logs_all,
    ),
    turns_all,
    steps_all,
  )

  -- the score could not be written, or only a beginning of it
  pub score_broken : CutShort w' w'' (score_text played.score)
      → PlaysGamesAt plan (Err WriteFailed) c p p' (outputs w l) (outputs w'' l')
  score_broken (begun, begins, failing) = (
    h.0,
    None,
    (
      broke (all_for h.0 (game_texts plan h.0)) begun,
      (played.fault, h.1, (begun, subst (λ (line : List ℕ). Begins begun line) scored begins, refl)),
      took_some_more w w' w'' h.0 (game_texts plan h.0) begun h.3 failing,
      logs_all,
    ),
    turns_all,
    steps_all,
  )

-- ---- without the steps

-- what `play_games` claims, of the output and the log alone, follows from what `play_games_with` claims: the steps are
-- dropped
pub plays_games : (plan : GamesPlan) (result : Result (Unit {0}) GamesFault) (steps : List HostStep)
    (d d' : Outputs) → PlaysGamesWith plan result steps d d' → PlaysGames plan result d.output d'.output d.log d'.log
plays_games plan result steps d d' (inl (coming, (games, unwritten, (o, writes, took, logged), turns, passed))) =
    inl (games, unwritten, o, writes, took, logged)
plays_games plan result steps d d' (inr (none, nothing, same)) =
    inr (none, ap (λ (v : Outputs). v.output) same, ap (λ (v : Outputs). v.log) same)
