-- Moves that are accepted and taken back (CECP, version 2: `usermove` and `undo`).
use Rattle.std.specs.Prelude.{◌≡◌, ◌⊎◌, false, []}
use Rattle.text_lines.specs.Lines.{LineSeen}
use Rattle.chess_cecp.specs.Commands.{command_of}
use Rattle.chess_cecp.specs.Held.{SessionSeen}
use Rattle.chess_cecp.specs.Session.{IsRefusal, session_response}
use Rattle.chess_cecp.specs.declared.command.Command.TheVariants.{BareMove, Undo, UserMove}

-- a line that gives a move, such as `usermove e2e4` or `e2e4`
pub record IsMoveLine (line : LineSeen) : Type 0 where
  pub fits : line.too_long ≡ false
  pub command : (command_of line.text ≡ UserMove) ⊎ (command_of line.text ≡ BareMove)

-- a line `undo`
pub record IsUndoLine (line : LineSeen) : Type 0 where
  pub fits : line.too_long ≡ false
  pub command : command_of line.text ≡ Undo

-- in every session: `undo` after a move that was not refused has no answer, and leaves the session as it was before
abbrev pub UndoTakesAMoveBack : Type 0
UndoTakesAMoveBack = (session : SessionSeen) (move undo : LineSeen) → IsMoveLine move → IsUndoLine undo
    → (IsRefusal (session_response session move).text → ⊥)
    → (let undone = session_response (session_response session move).state undo in
    (undone.text ≡ []) × (undone.state ≡ session))
