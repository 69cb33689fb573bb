-- What is left after a value of one colour was lent for writing.
use Rattle.std.specs.Borrow.{Fml, Lends, MutBor, RattleType}
use Rattle.chess_base.specs.ByColour.{with_colour}
use Rattle.chess_base.specs.contracts.by_colour.ByColour.{the_row}
use Rattle.chess_base.specs.declared.by_colour.ByColour.{ByColour}
use Rattle.chess_base.specs.declared.man.Colour.{Colour}

-- `r` mutably borrows colour c's value (of type T) of the two that `s` refers to: in the end it is what was last
-- written through `r`, and the other colour's is as before
abbrev pub LendsOfColour : (T : RattleType) → MutBor (ByColour T.Denot) → Colour → MutBor T.Denot → Fml
LendsOfColour T s c r = Lends (the_row T) T s r (with_colour s.now c)
