-- What happens in a match, and what is known of an engine.
use Rattle.std.specs.Prelude.{ℕ, Bool, List, Option}
use Rattle.chess_base.specs.declared.man.Colour.{Colour}
use Rattle.cecp_engine.specs.Items.{Item}

-- what happens in a match. `moment` is what the clock showed right after it: milliseconds since an arbitrary start
pub data Event : Type 0 where
  -- a line of that side's engine was read (`None`: it was too long)
  Line : (side : Colour) → (text : Option (List ℕ)) → (moment : ℕ) → Event
  -- the lines that open that side's turn were all sent; its time runs from `moment`
  Opened : (side : Colour) → (moment : ℕ) → Event
  -- a look for a line of that side's engine found no whole line
  Silent : (side : Colour) → (moment : ℕ) → Event
  -- the engine's output ended
  OutputEnds : (side : Colour) → Event
  -- a read of that side's engine failed
  FailsToRead : (side : Colour) → Event
  -- a write or flush to that side's engine failed
  FailsToWrite : (side : Colour) → Event

-- what is known of one side's engine
pub record Seat : Type 0 where
  -- the items of its handshake's `feature` lines, such as `ping=1`, in order
  pub items : List Item
  -- the milliseconds that each of its moves took, in order
  pub used : List ℕ
  -- whether its draw offer is open: made, and the other side has not moved since
  pub offers : Bool
