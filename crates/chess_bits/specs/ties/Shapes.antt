-- The squares on which a piece could capture on an empty board, ranks and files, diagonals, and the rays.
use Rattle.std.specs.Prelude.{ℕ, ◌==◌, nat_le, Bool, not, ◌&&◌, ◌||◌}
use Rattle.std.specs.Int.{abs_diff}
use Rattle.chess_base.specs.Squares.{file, rank, share_rank_or_file, share_diagonal}
use Rattle.chess_base.specs.shared.Parts.{is_rank_ahead}
use Rattle.chess_bits.specs.declared.table.Shape.{Shape}
use Rattle.chess_bits.specs.declared.table.Shape.TheVariants.{King, Knight, Pawn, Lines, Diagonals, Ray}
use Rattle.chess_bits.specs.ties.Rays.{is_on_ray}

-- square b belongs to the given shape from square a: a king, knight or pawn on a attacks b; or b is another square of
-- a's rank or file, of its diagonals, or of the given ray from a
unfoldable pub in_shape : Shape → ℕ → ℕ → Bool
in_shape King a b = not (a == b) && nat_le (abs_diff (file a) (file b)) 1 && nat_le (abs_diff (rank a) (rank b)) 1
in_shape Knight a b =
    ((abs_diff (file a) (file b) == 1) && (abs_diff (rank a) (rank b) == 2))
    || ((abs_diff (file a) (file b) == 2) && (abs_diff (rank a) (rank b) == 1))
in_shape (Pawn c) a b = (abs_diff (file a) (file b) == 1) && is_rank_ahead c a b
in_shape Lines a b = not (b == a) && share_rank_or_file b a
in_shape Diagonals a b = not (b == a) && share_diagonal b a
in_shape (Ray l up) a b = is_on_ray l up a b
