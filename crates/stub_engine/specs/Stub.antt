-- A stub: an engine that plays its arguments.
use Rattle.std.specs.Prelude.{Bool, true, false, if◌then◌else◌, ◌&&◌, List, [], ◌∷◌, ◌++◌, drop, flat_map, take_while, codes, decimal, ℕ, Option, Some, None, is_some, unwrap_or}
use Rattle.std.specs.List.{prefix_len}
use Rattle.byte_devices.specs.Bytes.{new_line}
use Rattle.std.specs.Borrow.{Bor}
use Rattle.std.specs.Str.{bytes_eq}
use Rattle.chess_cecp.specs.Commands.{command_of}
use Rattle.text_lines.specs.Words.{word_of}
use Rattle.text_lines.specs.Lines.{LineSeen}
use Rattle.chess_cecp.specs.Serving.{Response, says, becomes}
use Rattle.chess_cecp.specs.declared.command.Command.{Command}
use Rattle.chess_cecp.specs.declared.command.Command.TheVariants.{New, Ping, Protover, Go, Quit}

-- a stub's arguments, each a reference to a text
abbrev pub Arguments : Type 0
Arguments = List (Bor (List ℕ))

-- a stub's state: the arguments not yet used, and whether it plays a side (from `go` on, up to `force` or `new`)
pub record StubState : Type 0 where
  pub arguments : Arguments
  pub plays : Bool

-- a stub that plays no side, with these arguments left
abbrev pub waiting : Arguments → StubState
waiting arguments = record { arguments = arguments; plays = false }

-- a stub that plays a side, with these arguments left
abbrev pub playing : Arguments → StubState
playing arguments = record { arguments = arguments; plays = true }

-- ---- a turn

-- the line for the argument `offer` or `claim` (of a draw), sent after a move; `None` for any other
abbrev pub remark : List ℕ → Option (List ℕ)
remark argument = if bytes_eq argument (codes "offer") then Some (codes "offer draw\n")
    else if bytes_eq argument (codes "claim") then Some (codes "1/2-1/2 {Draw by repetition}\n")
    else None

-- whether an argument is `offer` or `claim`
abbrev pub is_remark : Bor (List ℕ) → Bool
is_remark argument = is_some (remark argument.now)

-- the lines for the `offer`s and `claim`s that these arguments begin with
unfoldable pub remarks : Arguments → List ℕ
remarks arguments = flat_map (λ argument. unwrap_or (remark argument.now) []) (take_while is_remark arguments)

-- these arguments after the `offer`s and `claim`s at their beginning
unfoldable pub after_remarks : Arguments → Arguments
after_remarks arguments = drop (prefix_len is_remark arguments) arguments

-- the line for an argument that is played: `resign` as it is, any other as in `move e2e4`
abbrev pub played_text : List ℕ → List ℕ
played_text argument = (if bytes_eq argument (codes "resign") then [] else codes "move ") ++ (argument ++ new_line ∷ [])

-- a stub's turn, with these arguments left; without any it resigns
abbrev pub turn : Arguments → Response StubState
turn [] = says (playing []) (codes "resign\n")
-- `end`: it writes `mov`, without `\n`, and ends. Any other argument is played, even `offer` (as `move offer`), with
-- the remarks for arguments right after it
turn (argument ∷ arguments) =
    if bytes_eq argument.now (codes "end") then record (says (playing arguments) (codes "mov")) { ends = true }
    else says (playing (after_remarks arguments)) (played_text argument.now ++ remarks arguments)

-- ---- a line

-- what a stub in the state `s` does at a command; `text` is the whole line
unfoldable pub stub_row : StubState → List ℕ → Command → Response StubState
stub_row s text (Protover n) = says s (codes "feature ping=1 setboard=1 usermove=1 myname=\"stub\" done=1\n")
stub_row s text (Ping n) = says s (codes "pong " ++ (decimal n ++ new_line ∷ []))
-- after `new` it plays no side until `go`, and keeps the arguments left
stub_row s text New = becomes (waiting s.arguments)
stub_row s text Go = turn s.arguments
stub_row s text Quit = record (becomes s) { ends = true }
-- at `usermove`, whatever follows, it takes its turn if it plays a side; after `force` it plays none until `go`; all
-- else is ignored, even a bare move
stub_row s text _ =
    if bytes_eq (word_of text) (codes "usermove") && s.plays then turn s.arguments
    else becomes (if bytes_eq (word_of text) (codes "force") then waiting s.arguments else s)

-- what a stub in the state `s` does with a line; one that is too long is ignored
unfoldable pub stub_response : StubState → LineSeen → Response StubState
stub_response s line = if line.too_long then becomes s else stub_row s line.text (command_of line.text)
