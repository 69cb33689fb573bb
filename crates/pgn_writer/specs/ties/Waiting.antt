-- Text that waits before it is written.
use Rattle.std.specs.Prelude.{◌≡◌, ℕ, List, ◌++◌, Result, Ok, Err}
use Rattle.byte_devices.specs.Devices.{OutputState, Took, CutShort}

-- a text was added to a buffer that held `waiting` and now holds `left`: the writer, which went from `old` to `new`,
-- took `out`; `waiting` and then the text are `out` and then `left`
pub record TookSome (old new : OutputState) (waiting left text : List ℕ) : Type 0 where
  pub out : List ℕ
  pub took : Took old new out
  pub is : waiting ++ text ≡ out ++ left

-- the result of adding a text to a buffer that held `waiting` and now holds `left`. `Ok`: the text was added, and the
-- writer took what isn't left (`TookSome`). `Err`: the writer failed, and took a beginning of `waiting` and the text
abbrev pub Adds : {A E : Type 0} → OutputState → OutputState → List ℕ → List ℕ → Result A E → List ℕ → Type 0
Adds old new waiting left (Ok _) text = TookSome old new waiting left text
Adds old new waiting left (Err e) text = CutShort old new (waiting ++ text)
