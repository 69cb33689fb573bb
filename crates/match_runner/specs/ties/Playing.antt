-- What code does for one game of a match, and for all of them.
use Rattle.std.specs.Prelude.{◌≡◌, ⊤, ℕ, ◌+◌, min, Bool, true, false, if◌then◌else◌, List, [], ◌∷◌, ◌++◌, length, codes, decimal, Option, None, Some, Result, Ok, Err}
use Rattle.std.specs.Option.{option_to_list}
use Rattle.chess_match.specs.declared.games_plan.GamesPlan.{GamesPlan}
use Rattle.byte_devices.specs.Bytes.{new_line}
use Rattle.chess_base.specs.Men.{other}
use Rattle.chess_base.specs.declared.man.Colour.{Colour}
use Rattle.byte_devices.specs.Devices.{OutputState, CutShort, Sent}
use Rattle.byte_devices.specs.Transfers.{ToOutput, OutputTook}
use Rattle.chess_game.specs.Results.{same_outcome}
use Rattle.chess_game.specs.declared.results.Outcome.{Outcome}
use Rattle.chess_game.specs.declared.results.Outcome.TheVariants.{Draw, Unfinished}
use Rattle.chess_match.specs.Reasons.{win_of}
use Rattle.chess_match.specs.declared.run.MatchEnd.{MatchEnd}
use Rattle.match_runner.specs.Log.{LogSeen, Logged}
use Rattle.match_runner.specs.declared.fault.GamesFault.{GamesFault}
use Rattle.match_runner.specs.declared.fault.GamesFault.TheVariants.{WriteFailed, NoMemory, CanNotStart}
use Rattle.match_runner.specs.declared.games.GamesPlayed.{GamesPlayed}
use Rattle.match_runner.specs.declared.score.Score.{Score}
use Rattle.match_runner.specs.Games.{first_side, GameRecord, IsOfPlan, game_text, game_log, IsStartFault, games_flushed, LogsGames, WritesGames, count_of, AreAllGames}
use Rattle.match_runner.specs.GamesTable.{BeginsAt, ComeInTurn, GamesFuture, Outputs, StepsPass, WriteFails, Writes, games_steps, steps_by, unstarted_steps}

-- ---- the score, as it is counted

-- the score before the first game: nothing is counted yet
abbrev pub no_score : Score
no_score = record { first = 0; second = 0; drawn = 0; unfinished = 0 }

-- a count after a game: one more if the flag says that the game adds to it, but at most 65,535
abbrev pub plus : ℕ → Bool → ℕ
plus count true = min (count + 1) 65535
plus count false = count

-- the score `s` with one more game counted, which had this outcome and in which the first engine, that of `--white`,
-- had the side `first`
abbrev pub score_after : Colour → Outcome → Score → Score
score_after first outcome s = record {
  first = plus s.first (same_outcome outcome (win_of first));
  second = plus s.second (same_outcome outcome (win_of (other first)));
  drawn = plus s.drawn (same_outcome outcome Draw);
  unfinished = plus s.unfinished (same_outcome outcome Unfinished);
}

-- the score after all these games of a match: the wins of each engine, the draws, and the games that are unfinished
abbrev pub score_of : List GameRecord → Score
score_of games = record {
  first = count_of (λ number. win_of (first_side number)) games;
  second = count_of (λ number. win_of (other (first_side number))) games;
  drawn = count_of (λ number. Draw) games;
  unfinished = count_of (λ number. Unfinished) games;
}

-- the line of this score, such as `score first 1 second 0 drawn 2 unfinished 0`; of `score_of games` it is
-- `score_line games`
unfoldable pub score_text : Score → List ℕ
score_text s =
    codes "score first " ++ decimal s.first ++ codes " second " ++ decimal s.second
    ++ codes " drawn " ++ decimal s.drawn ++ codes " unfinished " ++ decimal s.unfinished ++ new_line ∷ []

-- ---- a game

-- the side that the engine of `--white` has in the game of this number, if the plan asks for a log; otherwise `None`
abbrev pub logged_side : GamesPlan → ℕ → Option Colour
logged_side plan number = if plan.log then Some (first_side number) else None

-- the fault says that an engine of this command could not be started, or that there was no memory
abbrev pub FailsToStart : List ℕ → GamesFault → Type 0
FailsToStart command NoMemory = ⊤
FailsToStart command (CanNotStart c) = c.now ≡ command
FailsToStart command _ = ⊥

-- what the clock will show after these games, if it would show the moments `coming` before them
abbrev pub clock_after : (ℕ → Option ℕ) → List GameRecord → ℕ → Option ℕ
clock_after coming [] = coming
clock_after coming (played ∷ games) = clock_after played.after.coming games

-- what playing the game of this number does, by its result: the game was logged, and its PGN was written and flushed;
-- or it was logged, but a write or flush of its PGN failed; or its engines could not be started. Before it the table's
-- clock would show `c`, `p` holds of the steps that may come at the table, and `w` and `l` are output and log; after it
-- these are `c'`, `p'`, `w'` and `l'`
abbrev pub PlayedGame : GamesPlan → ℕ → (ℕ → Option ℕ) → (ℕ → Option ℕ) → GamesFuture → GamesFuture → OutputState
    → OutputState → LogSeen → LogSeen → Result MatchEnd GamesFault → Type 0
PlayedGame plan number c c' p p' w w' l l' (Ok end) =
    (played : GameRecord) × (played.end ≡ end) × IsOfPlan plan number played × Sent w w' (game_text plan number played)
    × Logged l l' (game_log plan number played) × StepsPass p p' (steps_by Writes plan number played)
    × BeginsAt c played × (c' ≡ played.after.coming)
PlayedGame plan number c c' p p' w w' l l' (Err WriteFailed) =
    (played : GameRecord) × IsOfPlan plan number played × CutShort w w' (game_text plan number played)
    × Logged l l' (game_log plan number played) × StepsPass p p' (steps_by WriteFails plan number played)
    × BeginsAt c played
PlayedGame plan number c c' p p' w w' l l' (Err fault) =
    IsStartFault plan.white.now plan.black.now fault × (w' ≡ w) × (l' ≡ l)
    × StepsPass p p' (unstarted_steps plan number fault)

-- from `d` to `d'` a match with this result played just these games, and wrote and logged what it must (the first case
-- of `PlaysGames`): the PGN of `games` was written; `unwritten` was played after them, but its PGN could not be written
-- (`None`: there is no such game)
abbrev pub PlaysThese : GamesPlan → Result (Unit {0}) GamesFault → List GameRecord → Option GameRecord → Outputs
    → Outputs → Type 0
PlaysThese plan result games unwritten d d' =
    (o : ToOutput) × WritesGames plan result games unwritten o × OutputTook d.output d'.output o
    × LogsGames plan d.log d'.log (games ++ option_to_list unwritten)

-- what playing the games of a match does, by its result. Either all were written, logged and counted in the score: as
-- many as planned, or those up to and with one that has a fault. Or the match broke off, since a game could not be
-- written, or its engines could not be started. Before it the table's clock would show `c`, `p` holds of the steps that
-- may come at the table, and `w` and `l` are output and log; after it these are `p'`, `w'` and `l'`
abbrev pub HasPlayed : GamesPlan → (ℕ → Option ℕ) → GamesFuture → GamesFuture → OutputState → OutputState → LogSeen
    → LogSeen → Result GamesPlayed GamesFault → Type 0
HasPlayed plan c p p' w w' l l' (Ok played) =
    (games : List GameRecord) × AreAllGames plan games played.fault × (played.score ≡ score_of games)
    × OutputTook w w' (games_flushed plan games) × LogsGames plan l l' games
    × StepsPass p p' (games_steps plan games) × ComeInTurn c games
HasPlayed plan c p p' w w' l l' (Err WriteFailed) = (games : List GameRecord) × (unwritten : GameRecord)
    × PlaysThese plan (Err WriteFailed) games (Some unwritten)
    (record { output = w; log = l }) (record { output = w'; log = l' })
    × ComeInTurn c (games ++ unwritten ∷ [])
    × StepsPass p p' (games_steps plan games ++ steps_by WriteFails plan (length games + 1) unwritten)
HasPlayed plan c p p' w w' l l' (Err fault) =
    (games : List GameRecord) × IsStartFault plan.white.now plan.black.now fault
    × PlaysThese plan (Err fault) games None (record { output = w; log = l }) (record { output = w'; log = l' })
    × ComeInTurn c (games ++ [])
    × StepsPass p p' (games_steps plan games ++ unstarted_steps plan (length games + 1) fault)
