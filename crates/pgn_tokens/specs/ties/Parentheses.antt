-- Where a text has no `(`.
use Rattle.std.specs.Prelude.{◌≡◌, ℕ, ◌<◌, ◌≤◌, false, List, slice_index, ◌==◌}
use Rattle.byte_devices.specs.Bytes.{byte}

-- no `(` is in the text from the offset `a` up to just before the offset `b`
abbrev pub HasNone : List ℕ → ℕ → ℕ → Type 0
HasNone text a b = (place : ℕ) → a ≤ place → place < b → (slice_index text place == byte "(") ≡ false
