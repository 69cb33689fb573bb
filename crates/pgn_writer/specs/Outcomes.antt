-- The outcome that a text names (PGN standard of 1994, section 8.2.6).
use Rattle.std.specs.Prelude.{ℕ, List, [], ◌∷◌, Option, find}
use Rattle.std.specs.Str.{bytes_eq}
use Rattle.chess_game.specs.Results.{outcome_text}
use Rattle.chess_game.specs.declared.results.Outcome.{Outcome}
use Rattle.chess_game.specs.declared.results.Outcome.TheVariants.{WhiteWins, BlackWins, Draw, Unfinished}

-- the outcome written `1-0`, `0-1`, `1/2-1/2` or `*`; `None` for any other text
abbrev pub outcome_of : List ℕ → Option Outcome
outcome_of word = find (λ o. bytes_eq (outcome_text o) word) (WhiteWins ∷ BlackWins ∷ Draw ∷ Unfinished ∷ [])
