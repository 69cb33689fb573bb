-- A text is read as the legal moves that its form denotes (reading_denoted of FormFacts), and one without a form as no
-- move (reading_nothing). Coordinates are read by the contract of `read_coordinates`.
use Rattle.std.proofs.Common.{sym, ◌∙◌}
use Rattle.chess_text.proofs.FormFacts.{reading_denoted, reading_nothing}
use Rattle.chess_text.proofs.reading.read_any_move.Goals as goal

pub returns-in_default-read_form : goal.returns-in_default-read_form
returns-in_default-read_form g c = reading_nothing _ c.args.text.now (sym c.in_default-read_form.ensures)

pub returns : goal.returns
returns g c = c.denoted.ensures ∙ reading_denoted (g.B.Board.position c.args.board.now) c.args.text.now
    c.in-Some-read_form.form (sym c.in-Some-read_form.ensures)
