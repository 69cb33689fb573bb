-- The value of an item (`NAME=VALUE`), as code cuts it from a text.
use Rattle.std.specs.Prelude.{ℕ, ◌+◌, ◌==◌, ◌&&◌, nat_lt, true, false, if◌then◌else◌, List, [], ◌∷◌, length, take, drop, Option, None, Some}
use Rattle.std.specs.List.{position_or_len, prefix_len}
use Rattle.byte_devices.specs.Bytes.{byte, is_digit}
use Rattle.cecp_engine.specs.Items.{Value}

-- the value that a text begins with, and the text after it (`value_of`), as code cuts them: at the index of the next
-- double quote, or after as many bytes as there are digits
abbrev pub value_cut : List ℕ → Option (Value × List ℕ)
value_cut [] = None
value_cut (c ∷ cs) = let closing = position_or_len (λ b. b == byte "\"") cs in let n = prefix_len is_digit (c ∷ cs) in
    if c == byte "\"" && nat_lt closing (length cs)
    then Some (record { quoted = true; text = take closing cs }, drop (closing + 1) cs)
    else if is_digit c then Some (record { quoted = false; text = take n (c ∷ cs) }, drop n (c ∷ cs)) else None
