-- When a move must name a promotion.
use Rattle.std.specs.Prelude.{ℕ, ◌==◌, Bool, ◌&&◌}
use Rattle.chess_base.specs.declared.man.Kind.TheVariants.{Pawn}
use Rattle.chess_base.specs.declared.setup.Setup.{Setup}
use Rattle.chess_base.specs.Squares.{rank}
use Rattle.chess_base.specs.Men.{man_at, is_man, other, first_rank}

-- square a has a pawn of the side on move, and b is on its last rank: so a move from a to b names a promotion
unfoldable pub would_promote : Setup → ℕ → ℕ → Bool
would_promote p a b = is_man p.side Pawn (man_at p.men a) && (rank b == first_rank (other p.side))
