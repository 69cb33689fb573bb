-- What answers a line: a text that is put together, the legal moves, or the game's text; and the session after it.
use Rattle.std.specs.Prelude.{if◌then◌else◌, ◌&&◌, not, ℕ, ◌++◌, List, [], ◌∷◌, Bool, true, false, codes}
use Rattle.byte_devices.specs.Bytes.{new_line}
use Rattle.chess_base.specs.declared.man.Move.{Move}
use Rattle.chess_base.specs.declared.setup.Setup.{Setup}
use Rattle.text_lines.specs.Lines.{LineSeen}
use Rattle.chess_cecp.specs.Held.{SessionSeen}
use Rattle.chess_cecp.specs.Serving.{Response}
use Rattle.chess_game.specs.Game.{State}
use Rattle.chess_cecp.specs.declared.command.Command.{Command}
use Rattle.chess_cecp.specs.declared.session.Go.TheVariants.{On, Quit}
use Rattle.chess_cecp.specs.declared.session.Reply.{Reply}
use Rattle.chess_cecp.specs.declared.session.Reply.TheVariants.{Text, Moves, Pgn}
use Rattle.chess_cecp.specs.Commands.{command_of}
use Rattle.chess_cecp.specs.Session.{moves_text}
use Rattle.chess_cecp.specs.declared.command.Command.TheVariants.{BareMove, ShowMoves, ShowPgn, Unknown}
use Rattle.chess_text.specs.Moves.{shape}
use Rattle.chess_cecp.specs.declared.command.Command.TheVariants as commands

-- a line of two texts, with `\n` at its end: `pong ` and `7` give `pong 7`
abbrev pub joined_line : List ℕ → List ℕ → List ℕ
joined_line front text = front ++ (text ++ new_line ∷ [])

-- the line that lists these moves of the position `p`: `# moves 20 b1a3 b1c3 ..`, with `\n` at its end
abbrev pub moves_line : Setup → List Move → List ℕ
moves_line p ms = joined_line (codes "# moves ") (moves_text p ms)

-- the session `seen` after the row `r` of the table of commands: with its game, and the tags and the limit as before
abbrev pub after_row : SessionSeen → Response State → SessionSeen
after_row seen r = record seen { state = r.state }

-- whether a command is `quit`, which ends a session
abbrev pub is_quit_command : Command → Bool
is_quit_command commands.Quit = true
is_quit_command command = false

-- whether a line is the command `quit`, which ends a session
unfoldable pub is_quit : LineSeen → Bool
is_quit line = not line.too_long && is_quit_command (command_of line.text)

-- the command of a line whose first word is no command's name: a move without `usermove`, if its text has the shape of
-- one, otherwise `Unknown`
abbrev pub unnamed_command : List ℕ → Command
unnamed_command text = if shape text then BareMove else Unknown

-- whether a command is `showmoves`, whose answer may be longer than the buffer for answers
abbrev pub shows_moves : Command → Bool
shows_moves ShowMoves = true
shows_moves command = false

-- whether a command is `showpgn`, whose answer may be longer than any buffer
abbrev pub shows_pgn : Command → Bool
shows_pgn ShowPgn = true
shows_pgn command = false

-- whether a line is `showmoves`
unfoldable pub asks_for_moves : LineSeen → Bool
asks_for_moves line = not line.too_long && shows_moves (command_of line.text)

-- whether a line is `showpgn`
unfoldable pub asks_for_pgn : LineSeen → Bool
asks_for_pgn line = not line.too_long && shows_pgn (command_of line.text)

-- how the code answers a command: `showmoves` by the legal moves, `showpgn` by writing the game's PGN, any other by a
-- text in its buffer, after which the session continues, or ends after `quit`
abbrev pub reply_of : Command → Reply
reply_of command =
    if shows_moves command then Moves
    else if shows_pgn command then Pgn
    else Text (if is_quit_command command then Quit else On)

-- how the code answers a line: `showmoves` by the legal moves, `showpgn` by writing the game's PGN, any other by a text
-- in its buffer, after which the session continues, or ends after `quit`
abbrev pub reply_to : LineSeen → Reply
reply_to line =
    if asks_for_moves line then Moves
    else if asks_for_pgn line then Pgn
    else Text (if is_quit line then Quit else On)
