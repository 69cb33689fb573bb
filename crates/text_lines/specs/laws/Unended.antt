-- Bytes that end no line.
use Rattle.std.specs.Prelude.{◌≢◌, ℕ, List, [], ◌∷◌}
use Rattle.byte_devices.specs.Bytes.{new_line}

-- none of these bytes is `\n`
abbrev pub HasNoEnd : List ℕ → Type 0
HasNoEnd [] = Unit {0}
HasNoEnd (c ∷ cs) = (c ≢ new_line) × HasNoEnd cs
