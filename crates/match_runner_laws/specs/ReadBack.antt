-- Laws of what the log of a match gives back: its moves, the reason for its end, and all that each engine sent and was
-- sent.
use Rattle.std.specs.Prelude.{◌≡◌, ◌==◌, ◌&&◌, ℕ, if◌then◌else◌, List, [], ◌∷◌, ◌++◌, flat_map, codes, Some, None, map}
use Rattle.std.specs.List.{AllByRecursion, enumerate_from}
use Rattle.std.specs.Str.{bytes_eq}
use Rattle.byte_devices.specs.Bytes.{byte, new_line}
use Rattle.chess_base.specs.Men.{same_colour}
use Rattle.chess_base.specs.Options.{list_if}
use Rattle.chess_base.specs.declared.man.Colour.{Colour}
use Rattle.chess_match.specs.Acts.{Act, IsMatch}
use Rattle.chess_match.specs.Effects.{Match, Over}
use Rattle.chess_match.specs.Events.{Event, Line, Opened, Silent, OutputEnds, FailsToRead, FailsToWrite}
use Rattle.chess_match.specs.laws.Laws.{events_in, notes_given, lines_given}
use Rattle.chess_match.specs.declared.games_plan.GamesPlan.{GamesPlan}
use Rattle.match_runner.specs.Games.{GameRecord, IsOfPlan, first_side, game_text, game_texts, score_line}
use Rattle.match_runner.specs.Log.{log_from}
use Rattle.match_runner_laws.specs.Entries.{Entry, IsShown, entries_from, entries_text}
use Rattle.chess_match.specs.Lines.{bytes_of}
use Rattle.chess_match.specs.Reasons.{reported_reason, result_of}
use Rattle.chess_match.specs.Rules.{Rules}
use Rattle.chess_match.specs.declared.reason.Reason.{Reason}
use Rattle.chess_game.specs.Ends.{result_text, verdict}

-- ---- the lines of a log

-- of these events those that a log shows: all but the openings of turns
abbrev pub events_shown : List Event → List Event
events_shown [] = []
events_shown (Opened S moment ∷ es) = events_shown es
events_shown (e ∷ es) = e ∷ events_shown es

-- the line that engines are sent at the end of a match of which this reason is reported, such as
-- `result 1-0 {Black resigns}`
abbrev pub text_of_result : Reason → List ℕ
text_of_result reason = codes "result " ++ result_text (result_of reason)

-- the event that a line with the mark `!` shows, by its text, of the engine of this side at this moment
abbrev pub other_event : Colour → ℕ → List ℕ → Event
other_event side moment text =
    if bytes_eq text (codes "line too long") then Line side None moment
    else if bytes_eq text (codes "no line") then Silent side moment
    else if bytes_eq text (codes "output ended") then OutputEnds side
    else if bytes_eq text (codes "read failed") then FailsToRead side
    else FailsToWrite side

-- the event that a line of a log shows, as a list of one; empty for a line that an engine is sent (`>`)
abbrev pub entry_event : Entry → List Event
entry_event e =
    if e.mark == byte "<" then Line e.side (Some e.text) e.moment ∷ []
    else if e.mark == byte "!" then other_event e.side e.moment e.text ∷ []
    else []

-- the bytes that, by a line of a log, the side `S` is sent; none by a line with another mark or of the other engine
abbrev pub entry_given : Colour → Entry → List ℕ
entry_given S e = list_if (e.mark == byte ">" && same_colour e.side S) (e.text ++ new_line ∷ [])

-- the text of the last line but one, which in the log of a match is `result ..` (the last is `quit`); empty if there
-- are fewer than two lines
abbrev pub result_line : List Entry → List ℕ
result_line (e ∷ f ∷ g ∷ es) = result_line (f ∷ g ∷ es)
result_line (e ∷ f ∷ []) = e.text
result_line _ = []

-- the log of every match that is over is the text of its records (`lines`, made by `entries_from`). These show all
-- events but the openings of turns, all bytes that each engine is sent, and the line of the result
abbrev pub LogsShow : Type 0
LogsShow = (r : Rules) (first : Colour) (reason : Reason) (H : List Act) (final : Match) → IsMatch r H final
    → final.phase ≡ Over reason
    → let lines = entries_from 0 (notes_given reason H) in
    (log_from first 0 (notes_given reason H) ≡ entries_text first lines)
    × (flat_map entry_event lines ≡ events_shown (events_in (notes_given reason H)))
    × ((S : Colour) → flat_map (entry_given S) lines ≡ bytes_of (lines_given S H))
    × (result_line lines ≡ text_of_result (reported_reason (verdict r.start final.played) reason))

-- the matches of the acts `H` and `K` are alike, but for what a log leaves out: the moments at which turns were opened
-- (so the milliseconds that moves used), and whether a write of the last lines failed
pub record AreAlike (reason reason' : Reason) (H K : List Act) (final final' : Match) : Type 0 where
  pub reasons : reason ≡ reason'
  pub moves : final.played ≡ final'.played
  pub items : (S : Colour) → (final.seat S).items ≡ (final'.seat S).items
  -- each engine was sent the same, so also the same clocks in `time` and `otim` lines
  pub sent : (S : Colour) → bytes_of (lines_given S H) ≡ bytes_of (lines_given S K)
  -- the same lines, silences and other events, at the same moments
  pub events : events_shown (events_in (notes_given reason H)) ≡ events_shown (events_in (notes_given reason' K))

-- the log gives the game back: two matches by the same rules that have the same log are alike, if it shows their lines
-- as they are (`IsShown`)
abbrev pub LogsGiveTheGame : Type 0
LogsGiveTheGame = (r : Rules) (first : Colour) (reason reason' : Reason) (H K : List Act) (final final' : Match)
    → IsMatch r H final → IsMatch r K final' → final.phase ≡ Over reason → final'.phase ≡ Over reason'
    → AllByRecursion IsShown (entries_from 0 (notes_given reason H))
    → AllByRecursion IsShown (entries_from 0 (notes_given reason' K))
    → log_from first 0 (notes_given reason H) ≡ log_from first 0 (notes_given reason' K)
    → AreAlike reason reason' H K final final'

-- the PGN of a game follows from its log: two games of this number of the plan with the same log, which shows their
-- lines as they are, have the same PGN and the same outcome
abbrev pub LogsGiveThePgn : Type 0
LogsGiveThePgn = (plan : GamesPlan) (number : ℕ) (one two : GameRecord) → IsOfPlan plan number one
    → IsOfPlan plan number two
    → AllByRecursion IsShown (entries_from 0 one.notes)
    → AllByRecursion IsShown (entries_from 0 two.notes)
    → log_from (first_side number) 0 one.notes ≡ log_from (first_side number) 0 two.notes
    → (game_text plan number one ≡ game_text plan number two) × (one.end.outcome ≡ two.end.outcome)

-- the log of each of these games by itself
abbrev pub logs_of : List GameRecord → List (List ℕ)
logs_of games = map (λ g. log_from (first_side g.0) 0 g.1.notes) (enumerate_from 1 games)

-- these games, numbered from 1, were played by the plan, and their logs show their lines as they are
abbrev pub AreOfLogs : GamesPlan → List GameRecord → Type 0
AreOfLogs plan games = AllByRecursion
    (λ g. IsOfPlan plan g.0 g.1 × AllByRecursion IsShown (entries_from 0 g.1.notes))
    (enumerate_from 1 games)

-- what a match writes to its output follows from the games' logs and the plan: two lists of games by one plan with the
-- same logs, which show their lines as they are, have the same PGN and the same score
abbrev pub LogsGiveTheOutput : Type 0
LogsGiveTheOutput = (plan : GamesPlan) (games games' : List GameRecord) → AreOfLogs plan games
    → AreOfLogs plan games' → logs_of games ≡ logs_of games'
    → game_texts plan games ++ score_line games ≡ game_texts plan games' ++ score_line games'
