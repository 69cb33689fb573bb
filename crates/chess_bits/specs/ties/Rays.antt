-- Rays, which are the squares of a line through a square, above it in number or below it; and whether a set leaves the
-- way between two squares open.
use Rattle.std.specs.Prelude.{ℕ, Bool, not, ◌&&◌}
use Rattle.chess_base.specs.Squares.{is_between, each_square}
use Rattle.chess_base.specs.declared.line.Line.{Line}
use Rattle.chess_base.specs.shared.Lines.{same_line}
use Rattle.chess_moves.specs.Sets.{contains, is_beyond}

-- x is on a's line of kind l, with a greater number than a if `up`, otherwise with a smaller one
abbrev pub is_on_ray : Line → Bool → ℕ → ℕ → Bool
is_on_ray l up a x = same_line l a x && is_beyond up a x

-- no square of the set w lies strictly between the squares a and b
unfoldable pub is_open : ℕ → ℕ → ℕ → Bool
is_open w a b = each_square (λ x. not (is_between a b x && contains w x))
