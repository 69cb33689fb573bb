-- The loop's invariant: what was found, with the denoted legal moves of the promotions that are left, gives the reading
-- before the loop with those of all promotions.
use Rattle.std.proofs.Common.{◌≡◌, drop}
use Rattle.chess_text.specs.ties.Forms.{denoted_with, with_moves}
use Rattle.chess_text.proofs.reading.with_denoted.Given as goal

abbrev pub invariant-loop-promotion : goal.invariant-loop-promotion
invariant-loop-promotion g l =
    with_moves l.found (denoted_with l.form (g.B.Board.position l.board) l.from l.to
    (drop l.promotion-index l.promotions)) ≡ with_moves l.fn.before
    (denoted_with l.form (g.B.Board.position l.board) l.from l.to l.promotions)
