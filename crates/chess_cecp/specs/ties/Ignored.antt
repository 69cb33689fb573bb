-- The ignored commands in two parts, as the code looks for them.
use Rattle.std.specs.Prelude.{ℕ, Bool, List, [], ◌∷◌, codes}
use Rattle.std.specs.List.{list_any}
use Rattle.std.specs.Str.{bytes_eq}

-- the ignored commands of the handshake, and of how an engine is to play
abbrev pub engine_commands : List (List ℕ)
engine_commands =
    codes "xboard" ∷ codes "accepted" ∷ codes "rejected" ∷ codes "force" ∷ codes "random" ∷ codes "hard" ∷ codes "easy"
    ∷ codes "post" ∷ codes "nopost" ∷ codes "?" ∷ []

-- the ignored commands of an engine's opponent, of the clocks and of the depth of search
abbrev pub opponent_and_clock_commands : List (List ℕ)
opponent_and_clock_commands =
    codes "computer" ∷ codes "name" ∷ codes "rating" ∷ codes "ics" ∷ codes "draw" ∷ codes "level" ∷ codes "st"
    ∷ codes "sd" ∷ codes "time" ∷ codes "otim" ∷ []

-- whether a word is an ignored command of the handshake, or of how an engine is to play
unfoldable pub is_engine_command : List ℕ → Bool
is_engine_command word = list_any (bytes_eq word) engine_commands

-- whether a word is an ignored command of an engine's opponent, of the clocks or of the depth of search
unfoldable pub is_opponent_or_clock_command : List ℕ → Bool
is_opponent_or_clock_command word = list_any (bytes_eq word) opponent_and_clock_commands
