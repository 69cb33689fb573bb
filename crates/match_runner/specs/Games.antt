-- The games of a match: who plays which colour, reports and score. A match is here all games of a plan between two
-- engines; in chess_match it is one game.
use Rattle.std.specs.Prelude.{◌≡◌, ◌⊎◌, ℕ, ◌+◌, ◌<◌, ◌≤◌, ◌%◌, ◌==◌, nat_lt, Bool, false, if◌then◌else◌, List, [], ◌∷◌, ◌++◌, length, count_by, flat_map, codes, decimal, Option, None, Some, Result, Ok, Err}
use Rattle.std.specs.Option.{option_to_list}
use Rattle.std.specs.List.{AllByRecursion, enumerate_from}
use Rattle.byte_devices.specs.Bytes.{new_line}
use Rattle.chess_match.specs.declared.games_plan.GamesPlan.{GamesPlan}
use Rattle.chess_game.specs.declared.results.Outcome.{Outcome}
use Rattle.chess_game.specs.declared.results.Outcome.TheVariants.{Draw, Unfinished}
use Rattle.chess_game.specs.Results.{same_outcome, cut_tag}
use Rattle.chess_base.specs.Men.{other, same_colour}
use Rattle.chess_base.specs.Options.{list_if}
use Rattle.chess_base.specs.declared.by_colour.ByColour.{ByColour}
use Rattle.chess_base.specs.declared.man.Colour.{Colour}
use Rattle.chess_base.specs.declared.man.Colour.TheVariants.{White, Black}
use Rattle.byte_devices.specs.Devices.{OutputState}
use Rattle.byte_devices.specs.Transfers.{ToOutput, OutputTook, all_of, all_flushed, BreaksOffIn}
use Rattle.chess_match.specs.Acts.{Act}
use Rattle.chess_match.specs.ByDevice.{notes_of}
use Rattle.chess_match.specs.Reasons.{colour_name, comment_of, win_of}
use Rattle.chess_match.specs.Notes.{Note}
use Rattle.chess_match.specs.Played.{World, PlayedBy}
use Rattle.chess_match.specs.declared.reason.MatchFault.{MatchFault}
use Rattle.chess_match.specs.declared.reason.Reason.{Reason}
use Rattle.chess_match.specs.declared.reason.Reason.TheVariants.{Faulted}
use Rattle.cecp_engine.specs.Levels.{LevelSeen}
use Rattle.chess_match.specs.declared.run.MatchEnd.{MatchEnd}
use Rattle.chess_match.specs.declared.run.Setup.{Setup}
use Rattle.pgn_writer.specs.GameText.{pgn}
use Rattle.pgn_writer.specs.Tags.{default_tags}
use Rattle.match_runner.specs.Log.{LogSeen, Logged, log_from}
use Rattle.match_runner.specs.declared.fault.GamesFault.{GamesFault}
use Rattle.match_runner.specs.declared.fault.GamesFault.TheVariants.{WriteFailed, NoMemory, CanNotStart, Game}
use Rattle.pgn_writer.specs.declared.tags.Tags.{Tags}
use Rattle.chess_game.specs.declared.game.TheConstants.{MOST_MOVES}

-- the side of `--white`'s engine in the game of this number: White in odd games, Black in even ones
abbrev pub first_side : ℕ → Colour
first_side number = if number % 2 == 1 then White else Black

-- the command of this side's engine in the game of this number; `plan.white` is `--white`'s
abbrev pub engine_command : GamesPlan → ℕ → Colour → List ℕ
engine_command plan number side = if same_colour side (first_side number) then plan.white.now else plan.black.now

-- the time control of this side's engine in the game of this number; `plan.white_level` is `--white`'s
abbrev pub engine_level : GamesPlan → ℕ → Colour → LevelSeen
engine_level plan number side = if same_colour side (first_side number) then plan.white_level else plan.black_level

-- what the game of this number is played by: the plan's start, waiting for engines (`patience`) and draws (whether some
-- must be claimed), and each side's time control
abbrev pub setup_of : GamesPlan → ℕ → Setup
setup_of plan number = record {
  start = plan.start;
  levels = record { white = engine_level plan number White; black = engine_level plan number Black };
  patience = plan.patience;
  draws = plan.draws;
}

-- an engine's name in the tag White or Black: `name`, from its feature `myname`, or `command` if `name` is empty; cut
-- to 60 bytes, with `?` for all but printable ASCII
abbrev pub player_name : List ℕ → List ℕ → List ℕ
player_name name command = cut_tag (if length name == 0 then command else name)

-- the PGN tags of the game of this number, which ended as `end` says. Site stays `?`. `cut_tag`: at most 60 bytes, with
-- `?` for all but printable ASCII. `pgn` adds FEN, Result, Termination and the like, by start, outcome and `ended`
abbrev pub tags_of : GamesPlan → ℕ → MatchEnd → Tags
tags_of plan number end = record default_tags {
  event = codes "CECP match";
  date = cut_tag plan.date.now;
  round = cut_tag (decimal number);
  white = player_name end.white_name (engine_command plan number White);
  black = player_name end.black_name (engine_command plan number Black);
  ended = end.ended;
}

-- ---- what is reported

-- a match's fault in words, such as `can not start ./engine` or `game 3: White has no ping`
abbrev pub fault_text : GamesFault → List ℕ
fault_text WriteFailed = codes "write failed"
fault_text NoMemory = codes "no memory"
fault_text (CanNotStart command) = codes "can not start " ++ command.now
fault_text (Game number text) = codes "game " ++ decimal number ++ codes ": " ++ text.now

-- what is reported of a match: nothing for `Ok`, otherwise a line such as `arbiter: game 3: White has no ping`
abbrev pub report_of : Result (Unit {0}) GamesFault → List ℕ
report_of (Ok _) = []
report_of (Err fault) = codes "arbiter: " ++ fault_text fault ++ new_line ∷ []

-- ---- one game

-- a game that was played
pub record GameRecord : Type 0 where
  -- before it: the engines' pipes, the clock's readings to come, and a `game`, of which only the limit counts
  pub before : World
  -- pipes, readings to come and `game` after it, `game` with this game's start, moves and result
  pub after : World
  -- how it ended
  pub end : MatchEnd
  -- what the log is made from: each event, and each block of bytes for an engine, even if it could not be sent
  pub notes : List Note
  -- by side, whether its engine was killed, as it had not ended in time after its input was closed
  pub killed : ByColour Bool

-- `killed` if no engine was killed
abbrev pub none_killed : ByColour Bool
none_killed = record { white = false; black = false }

-- `played` was played as the plan says for the game of this number, with at most 20,000 half-moves; without a limit for
-- replies no engine was killed. The notes are those of some acts `H` of the arbiter, which led from `before` to `after`
-- and ended as `end` says (`PlayedBy`). `steps_by` (GamesTable) says which engines played
abbrev pub IsOfPlan : GamesPlan → ℕ → GameRecord → Type 0
IsOfPlan plan number played = (played.before.game.limit ≡ MOST_MOVES)
    × (plan.patience.reply ≡ None → played.killed ≡ none_killed)
    × ((H : List Act) × (reason : Reason) × (flat_map (notes_of reason) H ≡ played.notes)
    × PlayedBy H reason (setup_of plan number) played.end played.before played.after)

-- the PGN of the game of this number. `pgn` puts its argument `[]`, so nothing, before each line
abbrev pub game_text : GamesPlan → ℕ → GameRecord → List ℕ
game_text plan number played = pgn [] (tags_of plan number played.end) played.after.game.state

-- `fault`: an engine with the command `first` or `second` could not be started, or memory ran out
abbrev pub IsStartFault : List ℕ → List ℕ → GamesFault → Type 0
IsStartFault first second (CanNotStart command) = (command.now ≡ first) ⊎ (command.now ≡ second)
IsStartFault first second fault = fault ≡ NoMemory

-- a game with these notes was logged, from `l` to `l'`; `first` is the side of `--white`'s engine. `None`: not logged
abbrev pub LogsGame : Option Colour → LogSeen → LogSeen → List Note → Type 0
LogsGame None l l' notes = l' ≡ l
LogsGame (Some first) l l' notes = Logged l l' (log_from first 0 notes)

-- ---- the games

-- these games, numbered from 1, were played as the plan says, and no engine had a fault
abbrev pub FaultlessGames : GamesPlan → List GameRecord → Type 0
FaultlessGames plan games =
    AllByRecursion (λ g. IsOfPlan plan g.0 g.1 × (g.1.end.fault ≡ None)) (enumerate_from 1 games)

-- `f` of each game's number, from 1 on, and its record is a list: these lists, joined in order
abbrev pub game_by_game : {A : Type 0} → (ℕ → GameRecord → List A) → List GameRecord → List A
game_by_game f games = flat_map (λ g. f g.0 g.1) (enumerate_from 1 games)

-- the PGN of these games, numbered from 1
abbrev pub game_texts : GamesPlan → List GameRecord → List ℕ
game_texts plan games = game_by_game (game_text plan) games

-- the line on a killed engine, by the game's number and the engine's side, such as
-- `arbiter: game 3: White did not exit, and was killed`
abbrev pub killed_line : ℕ → Colour → List ℕ
killed_line number side = codes "arbiter: game " ++ decimal number ++ codes ": " ++ colour_name side
    ++ codes " did not exit, and was killed" ++ new_line ∷ []

-- the lines on the engines killed after the game of this number, White's first
abbrev pub killed_lines : ℕ → ByColour Bool → List ℕ
killed_lines number killed =
    list_if killed.white (killed_line number White) ++ list_if killed.black (killed_line number Black)

-- what is logged of the game of this number: the lines of its notes, if the plan asks for a log, and in any case a line
-- for each killed engine
abbrev pub game_log : GamesPlan → ℕ → GameRecord → List ℕ
game_log plan number played = list_if plan.log (log_from (first_side number) 0 played.notes)
    ++ killed_lines number played.killed

-- these games, numbered from 1, were logged (`game_log`) as one text: the log went from `l` to `l'`; a write may have
-- failed (`Logged`)
abbrev pub LogsGames : GamesPlan → LogSeen → LogSeen → List GameRecord → Type 0
LogsGames plan l l' games = Logged l l' (game_by_game (game_log plan) games)

-- how many of these games have the outcome that `wanted` gives for their number, from 1 on, such as a win of
-- `--white`'s engine: `1-0` in odd games, `0-1` in even ones
abbrev pub count_of : (ℕ → Outcome) → List GameRecord → ℕ
count_of wanted games = count_by (λ g. same_outcome g.1.end.outcome (wanted g.0)) (enumerate_from 1 games)

-- a match's last line, such as `score first 1 second 0 drawn 2 unfinished 0`. `--white`'s engine is the first; outcomes
-- `*` are unfinished
abbrev pub score_line : List GameRecord → List ℕ
score_line games = codes "score first " ++ decimal (count_of (λ number. win_of (first_side number)) games)
    ++ codes " second " ++ decimal (count_of (λ number. win_of (other (first_side number))) games)
    ++ codes " drawn " ++ decimal (count_of (λ number. Draw) games)
    ++ codes " unfinished " ++ decimal (count_of (λ number. Unfinished) games) ++ new_line ∷ []

-- `games` are all games of a match: as many as planned, or those up to and with the first in which an engine had a
-- fault. The last argument: that game's number, the engine's side and the fault, or `None`
abbrev pub AreAllGames : GamesPlan → List GameRecord → Option (ℕ × Colour × MatchFault) → Type 0
AreAllGames plan games None = FaultlessGames plan games × (length games ≡ plan.games)
-- in the last game the engine of `side` had this fault; before it there was none
AreAllGames plan games (Some (number, side, fault)) =
    (before : List GameRecord) × (last : GameRecord) × (games ≡ before ++ last ∷ []) × FaultlessGames plan before
    × IsOfPlan plan number last × (last.end.fault ≡ Some (side, fault)) × (number ≡ length games) × (number ≤ plan.games)

-- ---- what a match writes

-- the PGN of these games, written and flushed without a failure; without games there is no flush
abbrev pub games_flushed : GamesPlan → List GameRecord → ToOutput
games_flushed plan games = all_flushed (nat_lt 0 (length games)) (game_texts plan games)

-- `o` is what a match writes to the output, by its result. The PGN of `games` was written and flushed; `unwritten`
-- (`None`: no game) was played after them, but could not be written
abbrev pub WritesGames : GamesPlan → Result (Unit {0}) GamesFault → List GameRecord → Option GameRecord → ToOutput
    → Type 0
-- all planned games were played without a fault, and the score was written
WritesGames plan (Ok _) games None o =
    AreAllGames plan games None × (o ≡ all_of (game_texts plan games ++ score_line games))
-- in the last game, of this number, an engine had the fault that `text` names; the score was written
WritesGames plan (Err (Game number text)) games None o = (side : Colour) × (fault : MatchFault)
    × AreAllGames plan games (Some (number, side, fault)) × (text.now ≡ comment_of (Faulted side fault))
    × (o ≡ all_of (game_texts plan games ++ score_line games))
-- a write or flush failed in the PGN of `unwritten`: a beginning of it, maybe nothing or all, was written
WritesGames plan (Err WriteFailed) games (Some unwritten) o =
    FaultlessGames plan games × (length games < plan.games) × IsOfPlan plan (length games + 1) unwritten
    × BreaksOffIn (games_flushed plan games) (game_text plan (length games + 1) unwritten) o
-- a write or flush failed in the score, after all games, the last maybe with a fault
WritesGames plan (Err WriteFailed) games None o = (fault : Option (ℕ × Colour × MatchFault))
    × AreAllGames plan games fault × BreaksOffIn (games_flushed plan games) (score_line games) o
-- `CanNotStart` or `NoMemory`: the next game's engines could not be started, and no score was written
WritesGames plan (Err fault) games None o = FaultlessGames plan games × (length games < plan.games)
    × IsStartFault plan.white.now plan.black.now fault × (o ≡ games_flushed plan games)
-- no other result comes with an unwritten game
WritesGames plan _ games (Some unwritten) o = ⊥

-- what a match does, by its result, to the output (`w` to `w'`) and the log (`l` to `l'`): `games` were written, and
-- all games logged, also `unwritten`, if there is one. Or memory ran out first, and nothing was written or logged
abbrev pub PlaysGames : GamesPlan → Result (Unit {0}) GamesFault → OutputState → OutputState → LogSeen → LogSeen
    → Type 0
PlaysGames plan result w w' l l' =
    ((games : List GameRecord) × (unwritten : Option GameRecord) × (o : ToOutput)
    × WritesGames plan result games unwritten o × OutputTook w w' o
    × LogsGames plan l l' (games ++ option_to_list unwritten))
    ⊎ ((result ≡ Err NoMemory) × (w' ≡ w) × (l' ≡ l))
