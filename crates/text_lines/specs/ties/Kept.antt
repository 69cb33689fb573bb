-- What the reader of lines keeps of a line while its bytes come.
use Rattle.std.specs.Prelude.{ℕ, Bool, true, false, List, [], ◌∷◌, ◌++◌, ◌≡◌, ◌<◌, ◌≤◌, length, Option, None, Some, Result, Ok, Err}
use Rattle.byte_devices.specs.Devices.{InputState, GavePiece, FailedToRead}
use Rattle.text_lines.specs.Lines.{LineSeen, Held, lines_from, lines_held}
use Rattle.text_lines.specs.declared.lines.TheConstants.{PIECE_LEN}

-- a stand-in for the bytes that have come of a line: those that the code kept, and, if it dropped some (`true`), one
-- more byte, 0, for all of these; so a line that is too long has a stand-in that is too long
abbrev pub kept_part : List ℕ → Bool → List ℕ
kept_part bytes true = bytes ++ 0 ∷ []
kept_part bytes false = bytes

-- `part` and `part'`, two beginnings of a line, lead to the same lines, whatever bytes follow, and whether the stream
-- then ends or not; a line of more than `n` bytes is too long
abbrev pub SameLines : ℕ → List ℕ → List ℕ → Type 0
SameLines n part part' = (at_end : Bool) (bytes : List ℕ)
    → lines_from n at_end part bytes ≡ lines_from n at_end part' bytes

-- what a look for a whole line in the bytes read and not yet returned (`held` before, `held'` after) found: the first
-- line in them; or `None`, and then none of them is left to look at. Lines of more than `n` bytes are too long
abbrev pub HeldLine : ℕ → Held → Held → Option LineSeen → Type 0
HeldLine n held held' (Some line) =
    (line.ended ≡ true) × (length held'.coming < length held.coming)
    × ((at_end : Bool) (rest : List ℕ) → lines_held n at_end held rest ≡ line ∷ lines_held n at_end held' rest)
HeldLine n held held' None =
    (lines_held n false held [] ≡ []) × (held'.coming ≡ [])
    × ((at_end : Bool) (rest : List ℕ) → lines_held n at_end held rest ≡ lines_held n at_end held' rest)

-- a read took the input from its state `r` to `r'`, and gave the bytes `coming`, whose number is the result; or it
-- failed, and gave none
abbrev pub Filled : {E : Type 0} → InputState → InputState → Result ℕ E → List ℕ → Type 0
Filled r r' (Ok n) coming = (n ≡ length coming) × (n ≤ PIECE_LEN) × GavePiece r r' coming
Filled r r' (Err e) coming = (coming ≡ []) × FailedToRead r r'
