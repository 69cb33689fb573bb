-- At the loop's beginning: each legal move that the form denotes begins on a square of the set, and all end on one
-- square, so those from the set's squares to that one are all (denoted_from of Origins). A round takes a square from
-- the set and adds its moves to what was found, so both together stay the same (more_found).
use Rattle.std.proofs.Common.{ap, ◌∙◌}
use Rattle.chess_base.specs.MoveList.{promotions}
use Rattle.chess_text.specs.ties.Forms.{end_square, denoted_with, with_moves}
use Rattle.chess_text.specs.declared.reading.Reading.TheVariants as reads
use Rattle.chess_text.proofs.Origins.{denoted_from, one_found, more_found}
use Rattle.chess_text.proofs.reading.denoted_from_origins.Goals as goal

pub loop-from-init : goal.loop-from-init
loop-from-init g c =
    ap (with_moves reads.NoSuch)
    (denoted_from c.args.form.now (g.B.Board.position c.args.board.now) c.form_origins-rest.result
    c.form_origins-rest.ensures) ∙ one_found _

pub loop-from-preserved : goal.loop-from-preserved
loop-from-preserved g c =
    let p = g.B.Board.position c.args.board.now in
    more_found (λ a. denoted_with c.args.form.now p a (end_square c.args.form.now p) promotions) c.loop-from.found _ _
    c.in-Some.from _ _ c.in-Some.ensures c.loop-from.invariant
    (c.with_denoted_between-found.ensures
    ∙ ap (λ b. with_moves c.loop-from.found (denoted_with c.args.form.now p c.in-Some.from b promotions))
    (c.end_square-to.ensures ∙ ap (end_square c.args.form.now) c.setup.ensures.value))
