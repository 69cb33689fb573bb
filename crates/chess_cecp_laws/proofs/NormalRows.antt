-- In a game of normal chess each row of the table of commands, but for `variant` and `protover`, is that of the table
-- for normal chess only (normal_rows, a case for each command). Lemmas for the rows that depend on the game say so, by
-- those of NormalGames on what the row shows or requires of it.
use Rattle.std.proofs.Common.{◌≡◌, ℕ, true, List, [], ◌∷◌, codes, Option, None, Some, Result, Ok, Err, refl, ap, ◌∙◌, IfOk, flat_map}
use Rattle.chess_base.specs.{declared.fen_fault.FenFault.FenFault, declared.man.Move.Move, declared.man.Variant.TheVariants.Normal, declared.setup.Setup.Setup, Coordinates.coordinate, MoveList.moves}
use Rattle.chess_fen.specs.{Reading.fen_reading_as, Writing.fen}
use Rattle.chess_fen_laws.specs.Normal.{normal_fen, normal_fen_reading}
use Rattle.chess_fen_laws.proofs.shared.Normal.{reading_kept, reading_is_normal, fen_kept}
use Rattle.chess_text.specs.{declared.reading.Reading.Reading, San.shown_move}
use Rattle.chess_text_laws.specs.Normal.{normal_moves, normal_reading}
use Rattle.chess_text.specs.declared.reading.Reading.TheVariants as reads
use Rattle.chess_text_laws.proofs.shared.Normal.{normal_kept as texts_kept}
use Rattle.chess_game.specs.declared.results.Declared.{Declared}
use Rattle.chess_game.specs.Game.{State, from_start, played, current}
use Rattle.chess_game.proofs.shared.Lines.{variant-position_after}
use Rattle.pgn_writer.specs.declared.tags.Tags.{Tags}
use Rattle.chess_cecp.specs.{declared.command.Command.Command, Declaring.read_result, Declaring.state_text, Serving.says, Serving.becomes}
use Rattle.chess_cecp.specs.declared.command.Command.TheVariants.{New, SetBoard, UserMove, BareMove, Declare, Claim, Protover, Variant, ShowFen, ShowMoves, ShowState, ShowPgn}
use Rattle.chess_cecp.specs.Session.{row, answers, becomes_judged, setboard_row, reading_row, move_row, result_row, claim_row, moves_text}
use Rattle.chess_cecp_laws.specs.NormalGame.{normal_current}
use Rattle.chess_cecp_laws.specs.Normal.{normal_becomes_judged, normal_setboard_row, normal_reading_row, normal_move_row, normal_result_row, normal_claim_row, normal_moves_text, normal_state_text, normal_row_of, has_normal_row}
use Rattle.chess_cecp_laws.proofs.NormalGames.{initial_kept, last_kept, rep_kept, verdict_kept, pgn_kept}

judged_kept : (s : State) → s.start.variant ≡ Normal → becomes_judged s ≡ normal_becomes_judged s
judged_kept s e = rw (verdict_kept s.start e s.moves)

-- ---- setboard

-- `setboard` where the FEN, if it was read, is of a position of normal chess
set_by : (s : State) (r : Result Setup FenFault) → IfOk r (λ p. p.variant ≡ Normal)
    → setboard_row s r ≡ normal_setboard_row s r
set_by s (Ok start) normal = judged_kept (from_start start) normal
set_by s (Err fault) normal = refl

set_kept : (s : State) → s.start.variant ≡ Normal → (argument : List ℕ)
    → setboard_row s (fen_reading_as s.start.variant argument) ≡ normal_setboard_row s (normal_fen_reading argument)
set_kept s e argument =
    ap (λ v. setboard_row s (fen_reading_as v argument)) e
    ∙ ap (setboard_row s) (reading_kept argument)
    ∙ set_by s (normal_fen_reading argument) (reading_is_normal argument)

-- ---- moves

reading_by : (s : State) → s.start.variant ≡ Normal → (text : List ℕ) (r : Reading)
    → reading_row s text r ≡ normal_reading_row s text r
reading_by s e text (reads.Move m) = judged_kept (played s m) e
reading_by s e text _ = refl

move_kept : (limit : ℕ) (s : State) → s.start.variant ≡ Normal → (text : List ℕ)
    → move_row limit s text ≡ normal_move_row limit s text
move_kept limit s e text =
    rw (
      (texts_kept (current s) (variant-position_after s.start s.moves ∙ e)).reading text,
      last_kept s.start e s.moves,
      verdict_kept s.start e s.moves,
      reading_by s e text (normal_reading (normal_current s) text),
    )

-- ---- results

result_kept : (s : State) → s.start.variant ≡ Normal → (text : List ℕ) (d : Option Declared)
    → result_row s text d ≡ normal_result_row s text d
result_kept s e text None = refl
result_kept s e text (Some d) = rw (verdict_kept s.start e s.moves)

claim_kept : (s : State) → s.start.variant ≡ Normal → claim_row s ≡ normal_claim_row s
claim_kept s e = rw (verdict_kept s.start e s.moves, rep_kept s.start e s.moves, last_kept s.start e s.moves)

-- ---- what is shown

fen_shown : (s : State) → s.start.variant ≡ Normal → fen (current s) ≡ normal_fen (normal_current s)
fen_shown s e =
    fen_kept (current s) (variant-position_after s.start s.moves ∙ e) ∙ ap normal_fen (last_kept s.start e s.moves)

-- in normal chess the moves shown are the moves' coordinates, as `e1g1` for castling
listed : (p : Setup) (ms : List Move) → p.variant ≡ Normal
    → flat_map (λ m. 32 ∷ shown_move p m) ms ≡ flat_map (λ m. 32 ∷ coordinate m) ms
listed p [] e = refl
listed p (m ∷ ms) e = rw ((texts_kept p e).shown m, listed p ms e)

-- what `showmoves` shows
moves_shown : (s : State) → s.start.variant ≡ Normal
    → moves_text (current s) (moves (current s)) ≡ normal_moves_text (normal_moves (normal_current s))
unfolding moves_text
moves_shown s e =
    let normal = variant-position_after s.start s.moves ∙ e in
    rw (
      listed (current s) (moves (current s)) normal,
      (texts_kept (current s) normal).moves,
      last_kept s.start e s.moves,
    )

state_kept : (s : State) → s.start.variant ≡ Normal → state_text s ≡ normal_state_text s
unfolding state_text normal_state_text
state_kept s e = rw (rep_kept s.start e s.moves, last_kept s.start e s.moves, verdict_kept s.start e s.moves)

-- all commands, one by one
pub normal_rows : (tags : Tags) (limit : ℕ) (s : State) (text argument : List ℕ) (command : Command)
    → s.start.variant ≡ Normal → has_normal_row command ≡ true →
    row tags limit s text argument command ≡ normal_row_of tags limit s text argument command
normal_rows tags limit s text argument New e h = ap (λ start. becomes (from_start start)) initial_kept
normal_rows tags limit s text argument SetBoard e h = set_kept s e argument
normal_rows tags limit s text argument UserMove e h = move_kept limit s e argument
normal_rows tags limit s text argument BareMove e h = move_kept limit s e text
normal_rows tags limit s text argument Declare e h = result_kept s e text (read_result argument)
normal_rows tags limit s text argument Claim e h = claim_kept s e
normal_rows tags limit s text argument (Protover n) e h = absurd (cc)
normal_rows tags limit s text argument Variant e h = absurd (cc)
normal_rows tags limit s text argument ShowFen e h = ap (answers s (codes "# fen ")) (fen_shown s e)
normal_rows tags limit s text argument ShowMoves e h = ap (answers s (codes "# moves ")) (moves_shown s e)
normal_rows tags limit s text argument ShowState e h = ap (answers s (codes "# state ply ")) (state_kept s e)
normal_rows tags limit s text argument ShowPgn e h = ap (says s) (pgn_kept (codes "# ") tags s e)
normal_rows tags limit s text argument _ e h = refl
