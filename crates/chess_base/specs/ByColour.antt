-- A value for each colour.
use Rattle.chess_base.specs.declared.by_colour.ByColour.{ByColour}
use Rattle.chess_base.specs.declared.man.Colour.{Colour}
use Rattle.chess_base.specs.declared.man.Colour.TheVariants.{White, Black}

-- of two values, White's and Black's, the one of the given colour
abbrev pub by_colour : {A : Type 0} → A → A → Colour → A
by_colour white black White = white
by_colour white black Black = black

-- of `values`, White's and Black's, the given colour's
abbrev pub of_colour : {A : Type 0} → ByColour A → Colour → A
of_colour values = by_colour values.white values.black

-- these values, with the given colour's replaced by `value`
abbrev pub with_colour : {A : Type 0} → ByColour A → Colour → A → ByColour A
with_colour values White value = record values { white = value }
with_colour values Black value = record values { black = value }
