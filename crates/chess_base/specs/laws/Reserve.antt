-- What captures and pawn moves use up, the moves from which the 50 move rule counts (Laws of Chess 2023, article 9.3).
use Rattle.std.specs.Prelude.{ℕ, ◌+◌, Option, Some, None, sum, if◌then◌else◌, map}
use Rattle.std.specs.Int.{abs_diff}
use Rattle.chess_base.specs.declared.man.Colour.{Colour}
use Rattle.chess_base.specs.declared.man.Kind.TheVariants.{Pawn}
use Rattle.chess_base.specs.declared.man.Man.{Man}
use Rattle.chess_base.specs.Squares.{rank, squares}
use Rattle.chess_base.specs.Men.{Men, man_at, same_kind, other, first_rank}

-- how many ranks a pawn of colour c on square s is from its last rank: 6 for White's on e2
abbrev pub ranks_to_go : Colour → ℕ → ℕ
ranks_to_go c s = abs_diff (rank s) (first_rank (other c))

-- what the content of square s counts: 1 for a piece, and for a pawn 1 more for each rank that it still has to go
abbrev pub weight : ℕ → Option Man → ℕ
weight s None = 0
weight s (Some x) = if same_kind Pawn x.kind then 1 + ranks_to_go x.colour s else 1

-- a count of what captures and pawn moves use up: 1 for each piece, and for a pawn 1 more for each rank that it still
-- has to go
unfoldable pub reserve : Men → ℕ
reserve men = sum (map (λ s. weight s (man_at men s)) squares)
