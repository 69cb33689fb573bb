-- The pieces with one square changed.
use Rattle.std.specs.Prelude.{ℕ, Option, Some, None, slice_set}
use Rattle.chess_base.specs.declared.man.Man.{Man}
use Rattle.chess_base.specs.Men.{Men}

-- the pieces with `man` (a piece, or none to empty it) put on the given square; unchanged if no square is given
abbrev pub with_man : Men → Option ℕ → Option Man → Men
with_man men None man = men
with_man men (Some s) man = slice_set men s man
