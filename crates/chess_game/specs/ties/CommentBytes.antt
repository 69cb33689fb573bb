-- How the code replaces a byte of a comment.
use Rattle.std.specs.Prelude.{ℕ, ◌==◌, ◌||◌, if◌then◌else◌}
use Rattle.byte_devices.specs.Bytes.{byte, shown_byte}

-- the byte c in the comment on a result: `?` if c is a brace or not printable ASCII, otherwise c itself
abbrev pub comment_byte : ℕ → ℕ
comment_byte c = if (c == byte "{") || (c == byte "}") then byte "?" else shown_byte c
