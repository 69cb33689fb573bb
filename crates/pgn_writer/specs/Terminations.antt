-- How a game ended, as the tag Termination says (PGN standard of 1994, section 9.8.1).
use Rattle.std.specs.Prelude.{ℕ, List, [], ◌∷◌, Option, find, codes}
use Rattle.std.specs.Str.{str_eq_ignore_ascii_case}
use Rattle.chess_game.specs.declared.results.Outcome.{Outcome}
use Rattle.chess_game.specs.declared.results.Outcome.TheVariants.{Unfinished}
use Rattle.chess_game.specs.declared.tags.HowEnded.{HowEnded}
use Rattle.chess_game.specs.declared.tags.HowEnded.TheVariants as how
use Rattle.pgn_writer.specs.declared.termination.Termination.{Termination}
use Rattle.pgn_writer.specs.declared.termination.Termination.TheVariants.{Abandoned, Adjudication, Death, Emergency, Normal, RulesInfraction, TimeForfeit, Unterminated}

-- the text of the tag Termination, such as `time forfeit`
abbrev pub termination_text : Termination → List ℕ
termination_text Abandoned = codes "abandoned"
termination_text Adjudication = codes "adjudication"
termination_text Death = codes "death"
termination_text Emergency = codes "emergency"
termination_text Normal = codes "normal"
termination_text RulesInfraction = codes "rules infraction"
termination_text TimeForfeit = codes "time forfeit"
termination_text Unterminated = codes "unterminated"

-- the value that a text names, in capital or small letters; `None` for any other text
unfoldable pub termination_named : List ℕ → Option Termination
termination_named text = find (λ t. str_eq_ignore_ascii_case text (termination_text t))
    (Abandoned ∷ Adjudication ∷ Death ∷ Emergency ∷ Normal ∷ RulesInfraction ∷ TimeForfeit ∷ Unterminated ∷ [])

-- a written game's Termination: `unterminated` if its outcome is `*`, otherwise the value with the name of `ended`
abbrev pub termination_of : HowEnded → Outcome → Termination
termination_of ended Unfinished = Unterminated
termination_of how.Normal _ = Normal
termination_of how.TimeForfeit _ = TimeForfeit
termination_of how.RulesInfraction _ = RulesInfraction
