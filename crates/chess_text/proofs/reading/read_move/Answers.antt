-- Value: a text of a usual shape is read as its parts, which say the kind of piece (usual_form, usual_one_kind of
-- UsualForms), and denotes what these denote (reading_denoted of FormFacts); for others `read_any_move` promises it.
-- From the value follow the other clauses: what is read is a legal move (reads_legal of FormFacts), and the result
-- shows whether the text has a move's shape (Shapes.read_shape).
use Rattle.std.proofs.Common.{ap, sym, ◌∙◌}
use Rattle.chess_text.specs.{Moves.has_shape, declared.form.Form.TheVariants.Piece}
use Rattle.chess_text.proofs.{Shapes.read_shape, FormFacts.reading_denoted, FormFacts.reads_legal, UsualForms.usual_form, UsualForms.usual_one_kind}
use Rattle.chess_text.proofs.reading.read_move.Goals as goal

pub denoted_usual-requires : goal.denoted_usual-requires
denoted_usual-requires g c = usual_one_kind c.without_mark.result.now c.in-Some.parts c.in-Some.ensures

pub returns-in-Some-clause-value : goal.returns-in-Some-clause-value
returns-in-Some-clause-value g c = c.denoted_usual.ensures
    ∙ reading_denoted (g.B.Board.position c.args.board.now) c.args.text.now (Piece c.in-Some.parts)
    (sym (usual_form c.args.text.now c.without_mark.result.now c.in-Some.parts c.without_mark.ensures c.in-Some.ensures))

pub returns-in-Some-clause-legal : goal.returns-in-Some-clause-legal
returns-in-Some-clause-legal g c = reads_legal (g.B.Board.position c.args.board.now) c.args.text.now
    c.denoted_usual.result (returns-in-Some-clause-value g c)

pub returns-in-Some-clause-shape : goal.returns-in-Some-clause-shape
returns-in-Some-clause-shape g c =
    ap has_shape (returns-in-Some-clause-value g c) ∙ read_shape _ c.args.text.now

pub returns-in-None-clause-legal : goal.returns-in-None-clause-legal
returns-in-None-clause-legal g c = reads_legal (g.B.Board.position c.args.board.now) c.args.text.now c.read_any_move.result
    c.read_any_move.ensures

pub returns-in-None-clause-shape : goal.returns-in-None-clause-shape
returns-in-None-clause-shape g c = ap has_shape c.read_any_move.ensures ∙ read_shape _ c.args.text.now
