-- The loop's invariant: what was found, with the denoted legal moves from the squares in `rest`, gives the reading of
-- all legal moves that the form denotes. Its measure is the number of squares in `rest`.
use Rattle.std.proofs.Common.{◌≡◌, length, filter, flat_map}
use Rattle.chess_base.specs.MoveList.{promotions, moves}
use Rattle.chess_moves.specs.Sets.{members}
use Rattle.chess_text.specs.Moves.{one_of}
use Rattle.chess_text.specs.ties.Forms.{is_denoted, end_square, denoted_with, with_moves}
use Rattle.chess_text.proofs.reading.denoted_from_origins.Given as goal

abbrev pub invariant-loop-from : goal.invariant-loop-from
invariant-loop-from g l =
    with_moves l.found (flat_map
    (λ a. denoted_with l.form (g.B.Board.position l.board) a (end_square l.form (g.B.Board.position l.board))
    promotions)
    (members l.rest)) ≡ one_of
    (filter (λ m. is_denoted l.form (g.B.Board.position l.board) m) (moves (g.B.Board.position l.board)))

abbrev pub decreases-loop-from : goal.decreases-loop-from
decreases-loop-from g l = length (members l.rest)
