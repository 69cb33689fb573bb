-- Games that pgn_writer writes have no fault.
use Rattle.std.specs.Prelude.{◌≡◌, ℕ, ◌+◌, List, [], ◌∷◌, ◌++◌, length, map, Some, Ok, false}
use Rattle.std.specs.List.{flat_map}
use Rattle.chess_game.specs.Game.{State, outcome_now, IsPlayable}
use Rattle.chess_game.specs.declared.game.TheConstants.{MOST_MOVES}
use Rattle.pgn_writer.specs.GameText.{pgn}
use Rattle.pgn_writer.specs.Terminations.{termination_of}
use Rattle.chess_pgn.specs.declared.read.PgnEnd.{PgnEnd}
use Rattle.pgn_writer.specs.declared.tags.Tags.{Tags}
use Rattle.chess_pgn_laws.specs.PgnLaw.{AreTagTexts}
use Rattle.verify_options.specs.declared.options.Strictness.{Strictness}
use Rattle.pgn_verifier.specs.GameFaults.{IsJudged}
use Rattle.pgn_verifier.specs.laws.Reported.{Plain, PlainGame, reports_on}

-- the game from the offset `at` on (`read`) has no fault, and is the game `s`, whose text ends at the offset `text_end`
pub record HasNoFault (strict : Strictness) (text : List ℕ) (at : ℕ) (s : State) (text_end : ℕ) : Type 0 where
  pub read : State
  pub end : PgnEnd
  pub judged : IsJudged strict text at read (Ok (Some end))
  pub start : read.start ≡ s.start
  pub moves : read.moves ≡ s.moves
  pub outcome : end.outcome ≡ outcome_now s
  -- after its termination marker come a line's end and an empty line
  pub two_before_end : end.offset + 2 ≡ text_end

-- the text that is written of a playable game has no fault but perhaps one in variations, whatever text comes before
-- and after it
abbrev pub WrittenGamesHaveNoFault : Type 0
WrittenGamesHaveNoFault =
    (strict : Strictness) → strict.variations ≡ false → (tags : Tags) → (s : State) → (before after : List ℕ)
    → AreTagTexts tags → IsPlayable (record { limit = MOST_MOVES; state = s })
    → HasNoFault strict (before ++ pgn [] tags s ++ after) (length before) s (length (before ++ pgn [] tags s))

-- ---- several games

-- a game, and the tags with which it is written
pub record TaggedGame : Type 0 where
  pub tags : Tags
  pub state : State

-- each of these games is playable, and its tags can be written
abbrev pub AreWritable : List TaggedGame → Type 0
AreWritable [] = Unit {0}
AreWritable (g ∷ games) =
    AreTagTexts g.tags × IsPlayable (record { limit = MOST_MOVES; state = g.state }) × AreWritable games

-- the texts that are written of these games, one after another, as a match writes its games
abbrev pub written_text : List TaggedGame → List ℕ
written_text games = flat_map (λ g. pgn [] g.tags g.state) games

-- the report on a game's text: its half-moves and its outcome, and what its tag Termination names
abbrev pub report_of : TaggedGame → Plain
report_of g =
    PlainGame (length g.state.moves) (outcome_now g.state) (Some (termination_of g.tags.ended (outcome_now g.state)))

-- the texts of writable games, one after another, have no fault but perhaps one in variations: the reports are on just
-- these games. `start`: the input's offset at which the text begins
abbrev pub WrittenTextsHaveNoFault : Type 0
WrittenTextsHaveNoFault = (strict : Strictness) → strict.variations ≡ false → (start : ℕ) (games : List TaggedGame)
    → AreWritable games → reports_on strict start (written_text games) ≡ map report_of games
