-- `undo` after a move that was accepted gives back the session as it was. A move is accepted only in a game without a
-- declared result, and it only appends to the moves; `undo` drops the last move and clears what is declared.
use Rattle.std.proofs.Common.{◌≡◌, ◌∙◌, ◌-◌, ◌⊎◌, ℕ, suc, Bool, true, false, List, [], ◌∷◌, ◌++◌, length, take, nat_le, Option, None, Some, refl, sym, ap, subst, inl, inr, arith, length-append, codes, if◌then◌else◌, is_some}
use Rattle.std.proofs.lemmas.Bool.{or_parts}
use Rattle.byte_devices.specs.Bytes.{new_line}
use Rattle.chess_base.specs.declared.man.Move.{Move}
use Rattle.chess_text.specs.{Moves.reading, declared.reading.Reading.Reading}
use Rattle.chess_text.specs.declared.reading.Reading.TheVariants as reads
use Rattle.chess_game.specs.Game.{State, current, is_over, played, taken_back, verdict_now}
use Rattle.text_lines.specs.{Lines.LineSeen, Words.argument_of}
use Rattle.chess_cecp.specs.{Commands.command_of, Held.SessionSeen, Serving.Response, declared.command.Command.Command, declared.command.Command.TheVariants.BareMove, declared.command.Command.TheVariants.Undo, declared.command.Command.TheVariants.UserMove}
use Rattle.chess_cecp.specs.Session.{IsRefusal, answers, move_row, reading_row, row, session_response, take_back_row}
use Rattle.chess_cecp_laws.specs.Undo.{UndoTakesAMoveBack}

-- the response `r` has no text and leaves the game `s`
record Undone (s : State) (r : Response State) : Type 0 where
  pub text : r.text ≡ []
  pub state : r.state ≡ s

-- the moves with `m` after them, but without the last one, are the moves
without_last : (moves : List Move) (m : Move) → take (length (moves ++ m ∷ []) - 1) (moves ++ m ∷ []) ≡ moves
without_last [] m = refl
without_last (x ∷ moves) m =
    let longer = length-append moves (m ∷ []) in
    let n : length (x ∷ (moves ++ m ∷ [])) - 1 ≡ suc (length (moves ++ m ∷ []) - 1) = omega (arith, longer) in
    ap (λ (k : ℕ). take k (x ∷ (moves ++ m ∷ []))) n ∙ ap (λ (ms : List Move). x ∷ ms) (without_last moves m)

-- so a game in which nothing is declared comes back
comes_back : (s : State) (m : Move) → s.declared ≡ None → taken_back (played s m) 1 ≡ s
comes_back s m none =
    ap (λ (ms : List Move). (let g : State = record { start = s.start; moves = ms; declared = None } in g))
    (without_last s.moves m)
    ∙ ap (λ d. (let g : State = record { start = s.start; moves = s.moves; declared = d } in g)) (sym none)

undone_after : (s : State) (m : Move) → s.declared ≡ None
    → Undone s (take_back_row 1 (codes "undo") (played s m))
undone_after s m none = at (nat_le 1 (length (s.moves ++ m ∷ []))) refl some
  where
    some : nat_le 1 (length (s.moves ++ m ∷ [])) ≡ true
    some = (let longer = length-append s.moves (m ∷ []) in grind (arith, longer))

    at : (b : Bool) → nat_le 1 (length (s.moves ++ m ∷ [])) ≡ b
        → b ≡ true → Undone s (take_back_row 1 (codes "undo") (played s m))
    at true e on = rw e (record { text = refl; state = comes_back s m none })
    at false e on = absurd (let f : false ≡ true = on in cc)

-- a game that is not over has no declared result
not_declared : (s : State) → is_over s ≡ false → s.declared ≡ None
not_declared s e = none s.declared (or_parts (is_some (verdict_now s)) (is_some s.declared) e).1
  where
    none : {A : Type 0} (o : Option A) → is_some o ≡ false → o ≡ None
    none None h = refl
    none (Some d) h = absurd (let f : true ≡ false = h in cc)

-- a move's text whose answer is no refusal has been played, so `undo` gives the game back: each other case of
-- `move_row` answers a refusal
move_undone : (limit : ℕ) (s : State) (text : List ℕ) → (IsRefusal (move_row limit s text).text → ⊥)
    → Undone s (take_back_row 1 (codes "undo") (move_row limit s text).state)
move_undone limit s text accepted = at (is_over s) (nat_le limit (length s.moves)) (reading (current s) text) refl accepted
  where
    at : (over full : Bool) (r : Reading) → is_over s ≡ over
        → (IsRefusal (if over then answers s (codes "Illegal move (game over): ") text
        else if full then answers s (codes "Error (game too long): ") text else reading_row s text r).text → ⊥)
        → Undone s (take_back_row 1 (codes "undo")
        (if over then answers s (codes "Illegal move (game over): ") text
        else if full then answers s (codes "Error (game too long): ") text else reading_row s text r).state)
    at true full r over ok = absurd (ok (inr (inl (codes " (game over): " ++ (text ++ new_line ∷ []), refl))))
    at false true r over ok = absurd (ok (inl (codes " (game too long): " ++ (text ++ new_line ∷ []), refl)))
    at false false (reads.Move m) over ok = undone_after s m (not_declared s over)
    at false false reads.Ambiguous over ok =
        absurd (ok (inl (codes " (ambiguous move): " ++ (text ++ new_line ∷ []), refl)))
    at false false _ over ok = absurd (ok (inr (inl (codes ": " ++ (text ++ new_line ∷ []), refl))))

-- how a session responds to a line that is not too long, by its command
abbrev by_command : SessionSeen → LineSeen → Command → Response SessionSeen
by_command seen line command =
    let r = row seen.tags seen.limit seen.state line.text (argument_of line.text) command in
    record { text = r.text; state = record seen { state = r.state }; ends = r.ends }

-- the session's response to a line that is not too long and has this command is the one by the command's row
responds_by : (seen : SessionSeen) (line : LineSeen) (command : Command) → line.too_long ≡ false
    → command_of line.text ≡ command → session_response seen line ≡ by_command seen line command
unfolding session_response
responds_by seen line command fits is = rw (fits, is) refl

-- a session whose game is `g`
abbrev with_game : SessionSeen → State → SessionSeen
with_game seen g = record seen { state = g }

pub undo_takes_a_move_back : UndoTakesAMoveBack
undo_takes_a_move_back session move undo moves takes accepted = at moves.command
  where
    by_text : (text : List ℕ) (command : Command)
        → row session.tags session.limit session.state move.text (argument_of move.text) command
        ≡ move_row session.limit session.state text
        → command_of move.text ≡ command
        → (let undone = session_response (session_response session move).state undo in
        (undone.text ≡ []) × (undone.state ≡ session))
    by_text text command row_is is =
        let e = responds_by session move command moves.fits is in
        let texts : (session_response session move).text ≡ (move_row session.limit session.state text).text =
        ap (λ (r : Response SessionSeen). r.text) e ∙ ap (λ (r : Response State). r.text) row_is in
        let states : (session_response session move).state
        ≡ with_game session (move_row session.limit session.state text).state =
        ap (λ (r : Response SessionSeen). r.state) e
        ∙ ap (λ (r : Response State). with_game session r.state) row_is in
        let back = move_undone session.limit session.state text
        (λ refused. accepted (subst IsRefusal (sym texts) refused)) in
        let u = responds_by (with_game session (move_row session.limit session.state text).state) undo Undo takes.fits
        takes.command in (
          ap (λ (q : SessionSeen). (session_response q undo).text) states
              ∙ ap (λ (r : Response SessionSeen). r.text) u ∙ back.text,
          ap (λ (q : SessionSeen). (session_response q undo).state) states
              ∙ ap (λ (r : Response SessionSeen). r.state) u ∙ ap (with_game session) back.state,
        )

    at : (command_of move.text ≡ UserMove) ⊎ (command_of move.text ≡ BareMove)
        → (let undone = session_response (session_response session move).state undo in
        (undone.text ≡ []) × (undone.state ≡ session))
    at (inl is) = by_text (argument_of move.text) UserMove refl is
    at (inr is) = by_text move.text BareMove refl is
