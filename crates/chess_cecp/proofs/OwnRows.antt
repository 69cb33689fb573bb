-- How the code answers by the rows of the table. `showmoves` and `showpgn`, whose answers are not put together with the
-- others, only answer a text and keep the game, and the session continues; so the code may write the text after it has
-- obeyed the line (by_moves, by_pgn). After any other answer the session ends just if the row says so (text_go).
use Rattle.std.proofs.Common.{◌≡◌, List, ℕ, true, false, not, if◌then◌else◌, codes, refl, sym, ap, ◌∙◌, arith}
use Rattle.std.proofs.lemmas.Bool.{and_parts, not-true}
use Rattle.chess_base.specs.MoveList.{moves}
use Rattle.pgn_writer.specs.GameText.{pgn}
use Rattle.chess_cecp.specs.{Commands.command_of, Held.SessionSeen, Serving.Response, Serving.says, Session.row, Session.session_response, declared.session.Go.Go as Further, declared.session.Reply.TheVariants.Text, declared.session.Reply.TheVariants.Moves, declared.session.Reply.TheVariants.Pgn, declared.command.Command.Command, declared.command.Command.TheVariants.ShowMoves, declared.command.Command.TheVariants.ShowPgn}
use Rattle.text_lines.specs.{Words.argument_of, Lines.LineSeen}
use Rattle.chess_cecp.specs.ties.Replies.{moves_line, after_row, reply_to, shows_moves, shows_pgn, asks_for_moves, asks_for_pgn}
use Rattle.chess_game.specs.Game.{State, current}
use Rattle.chess_cecp.specs.declared.session.Go.TheVariants as further
use Rattle.chess_cecp.proofs.Rows.{line_row, line_ends}

is_show_moves : (c : Command) → shows_moves c ≡ true → c ≡ ShowMoves
is_show_moves ShowMoves e = refl
is_show_moves _ e = cc

is_show_pgn : (c : Command) → shows_pgn c ≡ true → c ≡ ShowPgn
is_show_pgn ShowPgn e = refl
is_show_pgn _ e = cc

-- the response of a session to a line that is not too long and has this command, if the command's row in the table of
-- commands only answers a text and keeps the game
said : (seen : SessionSeen) (line : LineSeen) (command : Command) (text : List ℕ) → line.too_long ≡ false
    → command_of line.text ≡ command
    → row seen.tags seen.limit seen.state line.text (argument_of line.text) command ≡ says seen.state text
    → session_response seen line ≡ says seen text
unfolding session_response
said seen line command text short is says_it =
    let at : line_row seen line ≡ says seen.state text =
    rw short (ap (row seen.tags seen.limit seen.state line.text (argument_of line.text)) is ∙ says_it) in
    ap (λ (r : Response State). record { text = r.text; state = after_row seen r; ends = r.ends }) at

-- the answers to `showmoves` and to `showpgn`, by the session
abbrev pub moves_text : SessionSeen → List ℕ
moves_text seen = moves_line (current seen.state) (moves (current seen.state))

abbrev pub pgn_text : SessionSeen → List ℕ
pgn_text seen = pgn (codes "# ") seen.tags seen.state

-- the legal moves are answered, and nothing changes
moves_row : (seen : SessionSeen) (line : LineSeen) → asks_for_moves line ≡ true
    → session_response seen line ≡ says seen (moves_text seen)
unfolding asks_for_moves
moves_row seen line asks =
    let both = and_parts (not line.too_long) (shows_moves (command_of line.text)) asks in
    said seen line ShowMoves (moves_text seen) (not-true line.too_long both.0)
    (is_show_moves (command_of line.text) both.1) refl

-- the game's text is answered, and nothing changes
pgn_row : (seen : SessionSeen) (line : LineSeen) → asks_for_pgn line ≡ true
    → session_response seen line ≡ says seen (pgn_text seen)
unfolding asks_for_pgn
pgn_row seen line asks =
    let both = and_parts (not line.too_long) (shows_pgn (command_of line.text)) asks in
    said seen line ShowPgn (pgn_text seen) (not-true line.too_long both.0)
    (is_show_pgn (command_of line.text) both.1) refl

-- the response to `line` is the text that `text_of` gives for the session `obeyed`, which is the one after the line;
-- and the session goes on
pub record IsOwnReply (text_of : SessionSeen → List ℕ) (seen obeyed : SessionSeen) (line : LineSeen) : Type 0 where
  pub text : (session_response seen line).text ≡ text_of obeyed
  pub goes_on : (session_response seen line).ends ≡ false

-- a row that answers `text_of` of the session before the line and keeps the session: so the text can be taken from the
-- session after the line, as the code does
by_row : (text_of : SessionSeen → List ℕ) (seen obeyed : SessionSeen) (line : LineSeen)
    → session_response seen line ≡ says seen (text_of seen)
    → obeyed ≡ (session_response seen line).state → IsOwnReply text_of seen obeyed line
by_row text_of seen obeyed line row is =
    let same : obeyed ≡ seen = is ∙ ap (λ (r : Response SessionSeen). r.state) row in
    record {
      text = ap (λ (r : Response SessionSeen). r.text) row ∙ ap text_of (sym same);
      goes_on = ap (λ (r : Response SessionSeen). r.ends) row;
    }

-- the two cases for the code: a line that is replied to by the legal moves, and one that is by the game's PGN
pub by_moves : (seen obeyed : SessionSeen) (line : LineSeen) → Moves ≡ reply_to line
    → obeyed ≡ (session_response seen line).state → IsOwnReply moves_text seen obeyed line
by_moves seen obeyed line e is =
    let asks : asks_for_moves line ≡ true = grind arith in
    by_row moves_text seen obeyed line (moves_row seen line asks) is

pub by_pgn : (seen obeyed : SessionSeen) (line : LineSeen) → Pgn ≡ reply_to line
    → obeyed ≡ (session_response seen line).state → IsOwnReply pgn_text seen obeyed line
by_pgn seen obeyed line e is =
    let asks : asks_for_pgn line ≡ true = grind arith in
    by_row pgn_text seen obeyed line (pgn_row seen line asks) is

-- after a line that is replied to by a text, the `Go` that the code returns is `Quit` just if the session's response
-- ends it
pub text_go : (seen : SessionSeen) (line : LineSeen) (go : Further) → Text go ≡ reply_to line
    → go ≡ (if (session_response seen line).ends then further.Quit else further.On)
text_go seen line go e = rw (line_ends seen line) (grind arith)
