-- The coordinate text of a legal move is read as it, that of any other move without a promotion as `NoSuch`
-- (coordinate_read, coordinate_of_none of CoordinateLaw); a mark after it changes nothing (reading_unmarked of
-- FormFacts).
use Rattle.std.proofs.Common.{◌≡◌, ◌<◌, sym, ap, subst, ◌∙◌}
use Rattle.chess_text.specs.Moves.{reading}
use Rattle.chess_text.proofs.{CoordinateLaw.coordinate_read, CoordinateLaw.coordinate_of_none, FormFacts.reading_unmarked}
use Rattle.chess_text.proofs.reading.read_coordinates.Goals as goal

pub returns-then-is_legal : goal.returns-then-is_legal
returns-then-is_legal g c =
    let p = g.B.Board.position c.args.board.now in
    reading_unmarked p c.args.text.now c.without_mark.result.now (sym c.without_mark.ensures)
    ∙ ap (reading p) c.in-Ok.ensures.0
    ∙ coordinate_read p c.in-Ok.m (sym c.is_legal.ensures ∙ c.if-is_legal.true)

pub returns-in-None : goal.returns-in-None
returns-in-None g c =
    let p = g.B.Board.position c.args.board.now in
    reading_unmarked p c.args.text.now c.without_mark.result.now (sym c.without_mark.ensures)
    ∙ ap (reading p) c.in-Ok.ensures.0
    ∙ coordinate_of_none p c.in-Ok.m
    (subst (λ n. n < 64) c.number-start.ensures.value c.number-start.ensures.in_range)
    (subst (λ n. n < 64) c.number-end.ensures.value c.number-end.ensures.in_range) c.in-None.is
    (sym c.is_legal.ensures ∙ c.if-is_legal.false)
