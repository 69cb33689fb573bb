-- Which words are marks (PGN standard of 1994, section 8.2.3.8).
use Rattle.std.specs.Prelude.{ℕ, Bool, not, ◌&&◌, ◌||◌, List, length, ◌==◌}
use Rattle.std.specs.List.{list_all}
use Rattle.byte_devices.specs.Bytes.{byte}

-- whether a word is marks: one or more of `!` and `?` (the standard has six, as `!?`)
abbrev pub is_marks : List ℕ → Bool
is_marks word = not (length word == 0) && list_all (λ c. c == byte "!" || c == byte "?") word
