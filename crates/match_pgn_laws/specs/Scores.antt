-- The score of a match, as a reader of its output adds it up.
use Rattle.std.specs.Prelude.{◌≡◌, ⊤, ℕ, ◌+◌, ◌==◌, true, if◌then◌else◌, List, [], ◌∷◌, ◌++◌, length, take, codes, decimal, Result, Ok, Err}
use Rattle.std.specs.List.{filter, slice_split}
use Rattle.std.specs.Result.{is_ok}
use Rattle.std.specs.Str.{bytes_eq}
use Rattle.byte_devices.specs.Transfers.{OutputTook, all_of}
use Rattle.byte_devices.specs.Bytes.{new_line}
use Rattle.chess_base.specs.Sound.{IsSound}
use Rattle.match_runner.specs.GamesTable.{HostStep, Outputs, PlaysGamesWith}
use Rattle.match_runner.specs.declared.fault.GamesFault.{GamesFault}
use Rattle.match_runner.specs.declared.fault.GamesFault.TheVariants.{Game}
use Rattle.chess_match.specs.declared.games_plan.GamesPlan.{GamesPlan}

-- the lines of a text that begin with `[Result `, in order
abbrev pub result_lines : List ℕ → List (List ℕ)
result_lines text =
    filter (λ line. bytes_eq (take 8 line) (codes "[Result ")) (slice_split (λ c. c == new_line) text)

-- how many of these lines, one of each game, are `odd` in the first game, the third and so on, or `even` in the second,
-- the fourth and so on
abbrev pub games_with : List ℕ → List ℕ → List (List ℕ) → ℕ
games_with odd even [] = 0
games_with odd even (line ∷ lines) = (if bytes_eq line odd then 1 else 0) + games_with even odd lines

-- the tag line of a game that White won
abbrev pub white_won : List ℕ
white_won = codes "[Result \"1-0\"]"

-- the tag line of a game that Black won
abbrev pub black_won : List ℕ
black_won = codes "[Result \"0-1\"]"

-- the tag line of a drawn game
abbrev pub drawn : List ℕ
drawn = codes "[Result \"1/2-1/2\"]"

-- the tag line of an unfinished game
abbrev pub unfinished : List ℕ
unfinished = codes "[Result \"*\"]"

-- the line of the score, from the lines `[Result ..]` of the games: the first engine has White in the first game, the
-- second engine in the second, and so on by turns
abbrev pub sum_of : List (List ℕ) → List ℕ
sum_of results =
    codes "score first " ++ decimal (games_with white_won black_won results)
    ++ codes " second " ++ decimal (games_with black_won white_won results)
    ++ codes " drawn " ++ decimal (games_with drawn drawn results)
    ++ codes " unfinished " ++ decimal (games_with unfinished unfinished results) ++ new_line ∷ []

-- a match with this result wrote its score: all games were played, or those up to one with a fault of an engine
abbrev pub HasScore : Result (Unit {0}) GamesFault → Type 0
HasScore (Ok _) = ⊤
HasScore (Err (Game number fault)) = ⊤
HasScore _ = ⊥

-- if a match from a sound position wrote its score, its output is the games' text and then the score, which is the sum
-- of the lines `[Result ..]` above it. If no engine had a fault, there are as many of these lines as planned games
abbrev pub ScoresAreSums : Type 0
ScoresAreSums = (plan : GamesPlan) (result : Result (Unit {0}) GamesFault) (steps : List HostStep) (d d' : Outputs)
    → IsSound plan.start → HasScore result → PlaysGamesWith plan result steps d d'
    → (games : List ℕ) × OutputTook d.output d'.output (all_of (games ++ sum_of (result_lines games)))
    × (is_ok result ≡ true → length (result_lines games) ≡ plan.games)
