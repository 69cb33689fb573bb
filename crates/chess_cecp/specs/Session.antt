-- What a session answers: the table of commands. From one line to the next only the game changes.
use Rattle.std.specs.Prelude.{◌⊎◌, ℕ, nat_le, nat_lt, if◌then◌else◌, true, List, [], ◌∷◌, ◌++◌, length, codes, decimal, Option, None, Some, Result, Ok, Err}
use Rattle.byte_devices.specs.Bytes.{new_line, space}
use Rattle.std.specs.Str.{bytes_eq}
use Rattle.byte_devices.specs.Devices.{Begins}
use Rattle.chess_base.specs.declared.fen_fault.FenFault.{FenFault}
use Rattle.chess_base.specs.Faults.{fen_fault_name}
use Rattle.chess_base.specs.declared.man.Move.{Move}
use Rattle.chess_base.specs.declared.man.Variant.TheVariants.{Fischerandom}
use Rattle.chess_base.specs.declared.setup.Setup.{Setup}
use Rattle.chess_base.specs.Initial.{initial_setup, initial_setup_of}
use Rattle.std.specs.List.{flat_map}
use Rattle.std.specs.Option.{option_map_or}
use Rattle.chess_base.specs.MoveList.{moves}
use Rattle.chess_fen.specs.Reading.{fen_reading_as}
use Rattle.chess_fen.specs.Writing.{fen}
use Rattle.text_lines.specs.Lines.{LineSeen}
use Rattle.chess_cecp.specs.Serving.{Response, says, becomes}
use Rattle.chess_cecp.specs.Held.{SessionSeen}
use Rattle.pgn_writer.specs.GameText.{pgn}
use Rattle.pgn_writer.specs.declared.tags.Tags.{Tags}
use Rattle.chess_text.specs.Moves.{reading}
use Rattle.chess_text.specs.San.{is_fischerandom, shown_move}
use Rattle.chess_text.specs.declared.reading.Reading.{Reading}
use Rattle.chess_text.specs.declared.reading.Reading.TheVariants as reads
use Rattle.chess_cecp.specs.Commands.{command_of}
use Rattle.text_lines.specs.Words.{argument_of}
use Rattle.chess_cecp.specs.Declaring.{read_result, state_text}
use Rattle.chess_game.specs.Ends.{verdict_result, result_text, claims, draw_claim, claim_comment}
use Rattle.chess_game.specs.Game.{State, from_start, played, taken_back, current, verdict_now, is_over, contradicts_verdict}
use Rattle.chess_game.specs.declared.results.Declared.{Declared}
use Rattle.chess_game.specs.declared.results.Outcome.TheVariants.{Draw}
use Rattle.chess_cecp.specs.declared.command.Command.{Command}
use Rattle.chess_cecp.specs.declared.command.Command.TheVariants.{New, SetBoard, UserMove, BareMove, Undo, Remove, Declare, Claim, Ping, Protover, Variant, Go, ShowFen, ShowMoves, ShowState, ShowPgn, Quit, Silent, BadNumber, Unknown}

-- answers with one line, `front` and then `text`, as in `Illegal move: e5`; the game stays `s`
abbrev pub answers : State → List ℕ → List ℕ → Response State
answers s front text = says s (front ++ (text ++ new_line ∷ []))

-- the game becomes `s`; the answer is the line of the board's verdict, if any, such as `1-0 {White mates}`
abbrev pub becomes_judged : State → Response State
becomes_judged s = says s (option_map_or (λ v. result_text (verdict_result v) ++ new_line ∷ []) (verdict_now s) [])

-- what `showmoves` writes after `# moves ` for these moves of position `p`: number and texts, `20 b1a3 b1c3 ..`
unfoldable pub moves_text : Setup → List Move → List ℕ
moves_text p ms = decimal (length ms) ++ flat_map (λ m. space ∷ shown_move p m) ms

-- the answer to `setboard` in the game `s`, by the reading of its FEN: a new game from this position, whose verdict, if
-- any, is answered
abbrev pub setboard_row : State → Result Setup FenFault → Response State
setboard_row s (Ok start) = becomes_judged (from_start start)
-- refused with the fault's name, as in `tellusererror Illegal position (kings)`
setboard_row s (Err fault) = answers s (codes "tellusererror Illegal position (") (fen_fault_name fault ++ codes ")")

-- the answer to `protover 2` and each later version
unfoldable pub features_line : List ℕ
features_line =
    codes "feature ping=1 setboard=1 playother=0 san=0 usermove=1 time=1 draw=1 sigint=0 sigterm=0 reuse=1 analyze=0 colors=0 debug=1 myname=\"CECP arbiter\" variants=\"normal,fischerandom\" done=1\n"

-- the answer to a move's text in the game `s`, by its reading in the current position
abbrev pub reading_row : State → List ℕ → Reading → Response State
reading_row s text (reads.Move m) = becomes_judged (played s m)
reading_row s text reads.Ambiguous = answers s (codes "Error (ambiguous move): ") text
-- no legal move, or no move's shape
reading_row s text _ = answers s (codes "Illegal move: ") text

-- the answer to a move's text, such as `e4`, in the game `s` of at most `limit` half-moves
abbrev pub move_row : ℕ → State → List ℕ → Response State
move_row limit s text = if is_over s then answers s (codes "Illegal move (game over): ") text
    else if nat_le limit (length s.moves) then answers s (codes "Error (game too long): ") text
    else reading_row s text (reading (current s) text)

-- the answer to the command `name`, `undo` (`n` is 1) or `remove` (`n` is 2): the last `n` half-moves are taken back,
-- and a declared result is cleared; refused if there are fewer
abbrev pub take_back_row : ℕ → List ℕ → State → Response State
take_back_row n name s = if nat_le n (length s.moves) then becomes (taken_back s n)
    else answers s (codes "Error (command not legal now): ") name

-- the answer to `result` in the game `s`, by the result that its argument declares, if any; `text` is the whole line
abbrev pub result_row : State → List ℕ → Option Declared → Response State
result_row s text None = answers s (codes "Error (bad result): ") text
-- `d` replaces any earlier result; refused if the board has a verdict with another outcome
result_row s text (Some d) =
    if contradicts_verdict (verdict_now s) d.outcome then answers s (codes "Error (the board says otherwise): ") text
    else becomes (record s { declared = Some d })

-- declares the result `d` in the game `s`, and answers with its line, such as `1/2-1/2 {50-move rule}`
abbrev pub declares : State → Declared → Response State
declares s d = says (record s { declared = Some d }) (result_text d ++ new_line ∷ [])

-- the answer to `claim`: the draw that can be claimed (Laws, article 9.2.2, otherwise 9.3.2) is declared; refused if
-- the game is over, or if no draw can be
abbrev pub claim_row : State → Response State
claim_row s = if is_over s then answers s (codes "Error (command not legal now): ") (codes "claim")
    else option_map_or (λ claim. declares s (record { outcome = Draw; comment = claim_comment claim }))
    (draw_claim (claims s.start s.moves)) (answers s (codes "Error (no claim): ") (codes "claim"))

-- the answer to `variant` (`text` is the whole line): `fischerandom` starts a game of Chess960 at the initial position
-- of normal chess; `normal` starts one of normal chess, unless `s` is one already; other arguments are refused
abbrev pub variant_row : State → List ℕ → List ℕ → Response State
variant_row s text argument =
    if bytes_eq argument (codes "fischerandom") then becomes (from_start (initial_setup_of Fischerandom))
    else if bytes_eq argument (codes "normal")
    then becomes (if is_fischerandom s.start.variant then from_start initial_setup else s)
    else answers s (codes "Error (unsupported variant): ") text

-- the table of commands: what a session with these tags and this limit does in the game `s` with a line of this
-- command. `text` is the whole line, `argument` what follows its first word
abbrev pub row : Tags → ℕ → State → List ℕ → List ℕ → Command → Response State
row tags limit s text argument New = becomes (from_start initial_setup)
row tags limit s text argument SetBoard = setboard_row s (fen_reading_as s.start.variant argument)
row tags limit s text argument UserMove = move_row limit s argument
row tags limit s text argument BareMove = move_row limit s text
row tags limit s text argument Undo = take_back_row 1 (codes "undo") s
row tags limit s text argument Remove = take_back_row 2 (codes "remove") s
row tags limit s text argument Declare = result_row s text (read_result argument)
row tags limit s text argument Claim = claim_row s
row tags limit s text argument (Ping n) = answers s (codes "pong ") (decimal n)
-- versions below 2 have no features
row tags limit s text argument (Protover n) = if nat_lt n 2 then becomes s else says s features_line
row tags limit s text argument Variant = variant_row s text argument
row tags limit s text argument Go = answers s (codes "Error (the arbiter plays no side): ") (codes "go")
row tags limit s text argument ShowFen = answers s (codes "# fen ") (fen (current s))
row tags limit s text argument ShowMoves = answers s (codes "# moves ") (moves_text (current s) (moves (current s)))
row tags limit s text argument ShowState = answers s (codes "# state ply ") (state_text s)
row tags limit s text argument ShowPgn = says s (pgn (codes "# ") tags s)
row tags limit s text argument Quit = record (becomes s) { ends = true }
row tags limit s text argument Silent = becomes s
row tags limit s text argument BadNumber = answers s (codes "Error (bad number): ") text
row tags limit s text argument Unknown = answers s (codes "Error (unknown command): ") text

-- how the session `seen` responds to a line; one that is too long is refused with its first 64 bytes
unfoldable pub session_response : SessionSeen → LineSeen → Response SessionSeen
session_response seen line =
    let r = if line.too_long then answers seen.state (codes "Error (line too long): ") line.text
    else row seen.tags seen.limit seen.state line.text (argument_of line.text) (command_of line.text) in
    record { text = r.text; state = record seen { state = r.state }; ends = r.ends }

-- the text is a refusal, by how it begins
abbrev pub IsRefusal : List ℕ → Type 0
IsRefusal text = Begins (codes "Error") text
    ⊎ (Begins (codes "Illegal move") text ⊎ Begins (codes "tellusererror") text)
