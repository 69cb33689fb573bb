-- What changes on the board when a move is made or taken back: first the mover and perhaps a second piece leave, and
-- only then perhaps a second piece and the mover arrive, since in Chess960 a castling king and rook may change places.
use Rattle.std.specs.Prelude.{ℕ, ◌==◌, ◌||◌, Option, None, if◌then◌else◌, map}
use Rattle.chess_base.specs.declared.man.Man.{Man}
use Rattle.chess_base.specs.declared.steps.Steps.{Steps}
use Rattle.chess_base.specs.Squares.{is_at, squares}
use Rattle.chess_base.specs.Men.{Men, man_at}

-- what is on square s after the steps t; `men` are the pieces before
abbrev pub man_stepped : Men → Steps → ℕ → Option Man
man_stepped men t s =
    if t.to == s then t.mover
    else if is_at t.second_to s then t.second
    else if is_at t.second_from s || (t.from == s) then None
    else man_at men s

-- the pieces on all 64 squares after the steps t
unfoldable pub men_stepped : Men → Steps → Men
men_stepped men t = map (man_stepped men t) squares
