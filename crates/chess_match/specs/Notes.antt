-- What a witness of a match, such as the log, is given: events, and bytes sent to engines.
use Rattle.std.specs.Prelude.{ℕ, List, ◌++◌}
use Rattle.chess_base.specs.declared.man.Colour.{Colour}
use Rattle.chess_match.specs.Events.{Event}

-- what a witness is given at one time
pub data Note : Type 0 where
  -- this event; a failed write only if it ended the match
  Happened : (event : Event) → Note
  -- that side's engine is to be sent these bytes, a whole block; this may fail
  Gives : (side : Colour) → (text : List ℕ) → Note

-- what contracts see of a witness: that it may have held this text at first, and been given just these notes since.
-- Each kind of witness has its own
abbrev pub Noted : Type 1
Noted = List ℕ → List Note → Type 0

-- from its state `old` to `new` a witness was given just the notes `more`, in order, after those that it had in `old`
pub record WasNoted (old new : Noted) (more : List Note) : Type 0 where
  pub extends : (before : List ℕ) (notes : List Note) → old before notes → new before (notes ++ more)
