-- The table of commands for normal chess only. Nothing here takes a variant: positions, FENs, moves and games are those
-- of NormalGame, NormalPgn, and the files Normal of other crates. Where a session plays Chess960 too, only the rows of
-- `variant` and `protover` differ.
use Rattle.std.specs.Prelude.{ℕ, nat_le, nat_lt, Bool, true, false, if◌then◌else◌, List, [], ◌∷◌, ◌++◌, length, codes, decimal, Option, None, Some, Result, Ok, Err}
use Rattle.std.specs.List.{flat_map}
use Rattle.std.specs.Option.{option_map_or}
use Rattle.std.specs.Str.{bytes_eq}
use Rattle.chess_base.specs.declared.fen_fault.FenFault.{FenFault}
use Rattle.chess_base.specs.declared.man.Move.{Move}
use Rattle.chess_base.specs.declared.setup.Setup.{Setup}
use Rattle.chess_base.specs.Coordinates.{coordinate}
use Rattle.byte_devices.specs.Bytes.{new_line, space}
use Rattle.chess_fen_laws.specs.Normal.{normal_fen, normal_fen_reading}
use Rattle.chess_text.specs.declared.reading.Reading.{Reading}
use Rattle.chess_text.specs.declared.reading.Reading.TheVariants as reads
use Rattle.chess_text_laws.specs.Normal.{normal_moves, normal_reading}
use Rattle.chess_game.specs.declared.results.Declared.{Declared}
use Rattle.chess_game.specs.declared.results.Outcome.TheVariants.{Draw}
use Rattle.chess_game.specs.Ends.{verdict_result, result_text, draw_claim, claim_comment}
use Rattle.chess_game.specs.Game.{State, from_start, played, contradicts_verdict}
use Rattle.pgn_writer.specs.declared.tags.Tags.{Tags}
use Rattle.chess_cecp.specs.declared.command.Command.{Command}
use Rattle.chess_cecp.specs.declared.command.Command.TheVariants.{New, SetBoard, UserMove, BareMove, Undo, Remove, Declare, Claim, Ping, Protover, Variant, Go, ShowFen, ShowMoves, ShowState, ShowPgn, Quit, Silent, BadNumber, Unknown}
use Rattle.chess_cecp.specs.Declaring.{read_result, claims_text}
use Rattle.chess_cecp.specs.Serving.{Response, says, becomes}
use Rattle.chess_base.specs.Faults.{fen_fault_name}
use Rattle.chess_cecp.specs.Session.{answers, declares, take_back_row}
use Rattle.chess_cecp_laws.specs.NormalGame.{normal_initial, normal_current, normal_rep, normal_claims, normal_verdict_now, normal_is_over}
use Rattle.chess_cecp_laws.specs.NormalPgn.{normal_pgn}

-- the game becomes `s`, and the answer is the board's verdict on it, if it has one
abbrev pub normal_becomes_judged : State → Response State
normal_becomes_judged s =
    says s (option_map_or (λ v. result_text (verdict_result v) ++ new_line ∷ []) (normal_verdict_now s) [])

-- the answer to `setboard`, by how its FEN was read: a game begins at that position, and the answer is the verdict on
-- it, if it has one; or the answer names the FEN's fault
abbrev pub normal_setboard_row : State → Result Setup FenFault → Response State
normal_setboard_row s (Ok start) = normal_becomes_judged (from_start start)
normal_setboard_row s (Err fault) =
    answers s (codes "tellusererror Illegal position (") (fen_fault_name fault ++ codes ")")

-- the answer to a move's text in the game `s`, by what it denotes: the move is played, or the text refused
abbrev pub normal_reading_row : State → List ℕ → Reading → Response State
normal_reading_row s text (reads.Move m) = normal_becomes_judged (played s m)
normal_reading_row s text reads.Ambiguous = answers s (codes "Error (ambiguous move): ") text
normal_reading_row s text _ = answers s (codes "Illegal move: ") text

-- the answer to a move's text in the game `s`: refused if the game is over or has `limit` half-moves; otherwise by what
-- the text denotes
abbrev pub normal_move_row : ℕ → State → List ℕ → Response State
normal_move_row limit s text =
    if normal_is_over s then answers s (codes "Illegal move (game over): ") text
    else if nat_le limit (length s.moves) then answers s (codes "Error (game too long): ") text
    else normal_reading_row s text (normal_reading (normal_current s) text)

-- the answer to `result` (`text` is the whole line): the result that its argument declares replaces any earlier one;
-- refused if there is none, or the board has a verdict with another outcome
abbrev pub normal_result_row : State → List ℕ → Option Declared → Response State
normal_result_row s text None = answers s (codes "Error (bad result): ") text
normal_result_row s text (Some d) =
    if contradicts_verdict (normal_verdict_now s) d.outcome
    then answers s (codes "Error (the board says otherwise): ") text
    else becomes (record s { declared = Some d })

-- the answer to `claim` in the game `s`: a draw is declared, if the game is not over and one can be claimed; otherwise
-- refused
abbrev pub normal_claim_row : State → Response State
normal_claim_row s =
    if normal_is_over s then answers s (codes "Error (command not legal now): ") (codes "claim")
    else option_map_or (λ claim. declares s (record { outcome = Draw; comment = claim_comment claim }))
    (draw_claim (normal_claims s.start s.moves)) (answers s (codes "Error (no claim): ") (codes "claim"))

-- the answer to `variant` (`text` is the whole line): only `normal` is accepted, and changes nothing
abbrev pub normal_variant_row : State → List ℕ → List ℕ → Response State
normal_variant_row s text argument =
    if bytes_eq argument (codes "normal") then becomes s else answers s (codes "Error (unsupported variant): ") text

-- the answer to `protover 2` and each later version: the features of an arbiter of normal chess
unfoldable pub normal_features_line : List ℕ
normal_features_line =
    codes "feature ping=1 setboard=1 playother=0 san=0 usermove=1 time=1 draw=1 sigint=0 sigterm=0 reuse=1 analyze=0 colors=0 debug=1 myname=\"CECP arbiter\" variants=\"normal\" done=1\n"

-- what `showmoves` writes after `# moves `, as in `20 b1a3 b1c3 ..`, castling by the king's squares
abbrev pub normal_moves_text : List Move → List ℕ
normal_moves_text ms = decimal (length ms) ++ flat_map (λ m. space ∷ coordinate m) ms

-- what `showstate` writes after `# state ply `: half-moves, how often the position occurred, halfmove clock, claims,
-- verdict and declared result, as in `0 rep 1 clock 0 claims none verdict none declared none`
unfoldable pub normal_state_text : State → List ℕ
normal_state_text s =
    decimal (length s.moves)
    ++ (codes " rep " ++ (decimal (normal_rep s.start s.moves) ++ (codes " clock "
    ++ (decimal (normal_current s).halfmove ++ (codes " claims " ++ (claims_text (normal_claims s.start s.moves)
    ++ (codes " verdict " ++ (option_map_or (λ v. result_text (verdict_result v)) (normal_verdict_now s) (codes "none")
    ++ (codes " declared " ++ option_map_or result_text s.declared (codes "none"))))))))))

-- the table of commands of an arbiter of normal chess: what a session does with a line in the game `s`. `text` is the
-- whole line, `argument` what follows its first word; `limit` is the most half-moves of a game
abbrev pub normal_row_of : Tags → ℕ → State → List ℕ → List ℕ → Command → Response State
normal_row_of tags limit s text argument New = becomes (from_start normal_initial)
normal_row_of tags limit s text argument SetBoard = normal_setboard_row s (normal_fen_reading argument)
normal_row_of tags limit s text argument UserMove = normal_move_row limit s argument
normal_row_of tags limit s text argument BareMove = normal_move_row limit s text
normal_row_of tags limit s text argument Undo = take_back_row 1 (codes "undo") s
normal_row_of tags limit s text argument Remove = take_back_row 2 (codes "remove") s
normal_row_of tags limit s text argument Declare = normal_result_row s text (read_result argument)
normal_row_of tags limit s text argument Claim = normal_claim_row s
normal_row_of tags limit s text argument (Ping n) = answers s (codes "pong ") (decimal n)
normal_row_of tags limit s text argument (Protover n) = if nat_lt n 2 then becomes s else says s normal_features_line
normal_row_of tags limit s text argument Variant = normal_variant_row s text argument
normal_row_of tags limit s text argument Go = answers s (codes "Error (the arbiter plays no side): ") (codes "go")
normal_row_of tags limit s text argument ShowFen = answers s (codes "# fen ") (normal_fen (normal_current s))
normal_row_of tags limit s text argument ShowMoves =
    answers s (codes "# moves ") (normal_moves_text (normal_moves (normal_current s)))
normal_row_of tags limit s text argument ShowState = answers s (codes "# state ply ") (normal_state_text s)
normal_row_of tags limit s text argument ShowPgn = says s (normal_pgn (codes "# ") tags s)
normal_row_of tags limit s text argument Quit = record (becomes s) { ends = true }
normal_row_of tags limit s text argument Silent = becomes s
normal_row_of tags limit s text argument BadNumber = answers s (codes "Error (bad number): ") text
normal_row_of tags limit s text argument Unknown = answers s (codes "Error (unknown command): ") text

-- whether a session that also plays Chess960 answers this command by this table, in a game of normal chess
abbrev pub has_normal_row : Command → Bool
has_normal_row Variant = false
has_normal_row (Protover n) = false
has_normal_row command = true
