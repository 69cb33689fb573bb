-- What a line commands (CECP, version 2; `claim` and the `show..` commands are this project's own).
use Rattle.std.specs.Prelude.{ℕ, ◌==◌, ◌||◌, if◌then◌else◌, Bool, List, [], ◌∷◌, length, codes, Option, Some, unwrap_or}
use Rattle.std.specs.List.{find, list_any}
use Rattle.std.specs.Option.{option_map, option_map_or}
use Rattle.std.specs.Str.{bytes_eq}
use Rattle.chess_text.specs.Moves.{shape}
use Rattle.chess_cecp.specs.declared.command.Command.{Command}
use Rattle.chess_cecp.specs.declared.command.Command.TheVariants.{New, SetBoard, UserMove, BareMove, Undo, Remove, Declare, Claim, Ping, Protover, Variant, Go, ShowFen, ShowMoves, ShowState, ShowPgn, Quit, Silent, BadNumber, Unknown}
use Rattle.text_lines.specs.Words.{word_of, argument_of, command_number}

-- the commands without an effect or an answer, as the arbiter doesn't play: of protocol and modes (`xboard` to `?`),
-- the opponent (`computer` to `draw`), clocks and limits of search (`level` to `otim`)
abbrev pub ignored_commands : List (List ℕ)
ignored_commands =
    codes "xboard" ∷ codes "accepted" ∷ codes "rejected" ∷ codes "force" ∷ codes "random" ∷ codes "hard" ∷ codes "easy"
    ∷ codes "post" ∷ codes "nopost" ∷ codes "?" ∷ codes "computer" ∷ codes "name" ∷ codes "rating" ∷ codes "ics"
    ∷ codes "draw" ∷ codes "level" ∷ codes "st" ∷ codes "sd" ∷ codes "time" ∷ codes "otim" ∷ []

-- whether a word is the name of an ignored command
unfoldable pub is_ignored : List ℕ → Bool
is_ignored word = list_any (bytes_eq word) ignored_commands

-- the commands that are not ignored: each name, with the command of a line of this name with `argument` after it.
-- `usermove` without one is `Unknown`; `ping` or `protover` without a number of 1 to 9 digits is `BadNumber`
abbrev pub commands : List ℕ → List (List ℕ × Command)
commands argument =
    (codes "new", New) ∷ (codes "setboard", SetBoard)
    ∷ (codes "usermove", if length argument == 0 then Unknown else UserMove)
    ∷ (codes "undo", Undo) ∷ (codes "remove", Remove) ∷ (codes "result", Declare) ∷ (codes "claim", Claim)
    ∷ (codes "ping", option_map_or Ping (command_number argument) BadNumber)
    ∷ (codes "protover", option_map_or Protover (command_number argument) BadNumber)
    ∷ (codes "variant", Variant) ∷ (codes "go", Go) ∷ (codes "showfen", ShowFen) ∷ (codes "showmoves", ShowMoves)
    ∷ (codes "showstate", ShowState) ∷ (codes "showpgn", ShowPgn) ∷ (codes "quit", Quit) ∷ []

-- the command of a line with this first word and the argument after it; `Silent` if the word is empty or an ignored
-- command's name, `None` if it is no command's, such as `e2e4`
unfoldable pub named_command : List ℕ → List ℕ → Option Command
named_command word argument = if bytes_eq word [] || is_ignored word then Some Silent
    else option_map (λ c. c.1) (find (λ c. bytes_eq word c.0) (commands argument))

-- a line's command, by its first word; if that is no command's name, `BareMove` if the whole text has the shape of a
-- move, such as `Nf3`, otherwise `Unknown`
unfoldable pub command_of : List ℕ → Command
command_of text = unwrap_or (named_command (word_of text) (argument_of text)) (if shape text then BareMove else Unknown)
