-- Values and lists that may be missing.
use Rattle.std.specs.Prelude.{Bool, if◌then◌else◌, List, [], Option, option_and_then}

infixl 10 ◌>>=◌
-- `f` of the value in `o`; `None` if `o` is `None`
abbrev pub ◌>>=◌ : {A B : Type 0} → Option A → (A → Option B) → Option B
o >>= f = option_and_then f o

-- the list `xs` if `b`, otherwise the empty list
abbrev pub list_if : {A : Type 0} → Bool → List A → List A
list_if b xs = if b then xs else []
