-- How a word begins.
use Rattle.std.specs.Prelude.{ℕ, Bool, false, List, [], ◌∷◌, nat_le}
use Rattle.byte_devices.specs.Bytes.{byte}

-- whether a word's first byte is `A` or greater: a letter or `_`, so that it is no number, outcome or mark
abbrev pub begins_as_move : List ℕ → Bool
begins_as_move [] = false
begins_as_move (c ∷ cs) = nat_le (byte "A") c
