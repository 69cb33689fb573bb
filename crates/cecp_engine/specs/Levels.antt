-- Time controls: how they are written, and the time that they give (CECP, version 2: command `level`; decimals are an
-- addition to CECP). `x ← o` in a `do` is `let x = o?` in Rust.
use Rattle.std.specs.Prelude.{ℕ, ◌+◌, ◌-◌, ◌*◌, ◌/◌, ◌%◌, ◌^◌, ◌==◌, ◌||◌, nat_lt, if◌then◌else◌, List, [], ◌∷◌, ◌++◌, length, take, drop, codes, decimal, Option, None, Some, Result, Ok, Err, option_map}
use Rattle.std.specs.List.{position_or_len}
use Rattle.std.specs.Result.{result_ok}
use Rattle.byte_devices.specs.Bytes.{byte}
use Rattle.text_lines.specs.Words.{short_number, word_of, argument_of}
use Rattle.text_lines.specs.Lines.{without_front_blanks}
use Rattle.chess_base.specs.Options.{◌>>=◌}
use Rattle.cecp_engine.specs.declared.level_fault.LevelFault.{LevelFault}
use Rattle.cecp_engine.specs.declared.level_fault.LevelFault.TheVariants.{Words, Moves, Base, Increment}

-- a time control: `moves` per session (0: one session for the whole game); in milliseconds, the `base` time of each
-- session and the `increment` per move. The base of `level 40 5 0`, 5 minutes, is 300,000
pub record LevelSeen : Type 0 where
  pub moves : ℕ
  pub base : ℕ
  pub increment : ℕ

-- ---- denotation

-- the thousandths that 1 to 3 decimals denote: `5` is 500, `25` is 250; otherwise `None`
unfoldable pub thousandths_of : List ℕ → Option ℕ
thousandths_of decimals = option_map (λ n. n * 10 ^ (3 - length decimals)) (short_number 3 decimals)

-- the milliseconds that a text of seconds denotes: 1 to `most` digits (`2` is 2000), perhaps with a point and 1 to 3
-- decimals (`0.25` is 250); otherwise `None`
unfoldable pub milliseconds_of : ℕ → List ℕ → Option ℕ
milliseconds_of most text = let point = position_or_len (λ c. c == byte ".") text in do
  seconds ← short_number most (take point text)
  thousandths ← if point == length text then Some 0 else thousandths_of (drop (point + 1) text)
  Some (1000 * seconds + thousandths)

-- the base time that a text denotes, in milliseconds: minutes of 1 to 3 digits (`5` is 300,000), perhaps with a colon
-- and seconds below 60 of 1 or 2 digits (`1:5` is 65,000; with decimals, `0:08.5` is 8,500); otherwise `None`
unfoldable pub base_of : List ℕ → Option ℕ
base_of text = let colon = position_or_len (λ c. c == byte ":") text in do
  minutes ← short_number 3 (take colon text)
  milliseconds ← if colon == length text then Some 0 else milliseconds_of 2 (drop (colon + 1) text)
  if nat_lt milliseconds 60000 then Some (60000 * minutes + milliseconds) else None

-- the time control of these parts, or the fault of the first that is `None`: its text is malformed
abbrev pub level_with : Option ℕ → Option ℕ → Option ℕ → Result LevelSeen LevelFault
level_with None base increment = Err Moves
level_with (Some moves) None increment = Err Base
level_with (Some moves) (Some base) None = Err Increment
level_with (Some moves) (Some base) (Some increment) =
    Ok (record { moves = moves; base = base; increment = increment })

-- the time control that three words denote, such as `40 5 0` or `0 0:10 0.1`: moves per session (1 to 3 digits), base
-- time, and increment in seconds; otherwise the first fault, `Words` if there aren't three
unfoldable pub level_reading : List ℕ → Result LevelSeen LevelFault
level_reading text = let first = without_front_blanks text in let second = argument_of first in
    let third = argument_of second in
    if length third == 0 || nat_lt 0 (length (argument_of third)) then Err Words
    else level_with (short_number 3 (word_of first)) (base_of (word_of second)) (milliseconds_of 3 (word_of third))

-- the time control that a text denotes; `None` if it denotes none
abbrev pub level_of : List ℕ → Option LevelSeen
level_of text = result_ok (level_reading text)

-- the short name of a level's fault
abbrev pub level_fault_name : LevelFault → List ℕ
level_fault_name Words = codes "words"
level_fault_name Moves = codes "moves"
level_fault_name Base = codes "base"
level_fault_name Increment = codes "increment"

-- ---- writing

-- a number below 100 as two digits, such as `05`
abbrev pub two_digits : ℕ → List ℕ
two_digits n = (byte "0" + n / 10) ∷ (byte "0" + n % 10) ∷ []

-- milliseconds below 1,000 as decimals after whole seconds: nothing for 0, `.5` for 500, `.08` for 80
unfoldable pub decimals_text : ℕ → List ℕ
decimals_text n = if n == 0 then []
    else if n % 100 == 0 then byte "." ∷ (byte "0" + n / 100) ∷ []
    else if n % 10 == 0 then byte "." ∷ two_digits (n / 10)
    else byte "." ∷ (byte "0" + n / 100) ∷ two_digits (n % 100)

-- a base time in milliseconds, as written: `5` for 300,000, `0:08.5` for 8,500
unfoldable pub base_text : ℕ → List ℕ
base_text base = decimal (base / 60000) ++ (if base % 60000 == 0 then [] else byte ":" ∷
    (two_digits (base % 60000 / 1000) ++ decimals_text (base % 1000)))

-- an increment in milliseconds, written in seconds: `2` for 2,000, `0.1` for 100
unfoldable pub increment_text : ℕ → List ℕ
increment_text increment = decimal (increment / 1000) ++ decimals_text (increment % 1000)

-- a time control as written after `level`, such as `0 0:10 0.1`
unfoldable pub level_text : LevelSeen → List ℕ
level_text level =
    decimal level.moves ++ (codes " " ++ (base_text level.base ++ (codes " " ++ increment_text level.increment)))

-- ---- time

-- the milliseconds given to a side in all, after `k` of its moves: the base time for each session begun, and the
-- increment for each move. By `level 40 5 0`: 300,000 after 39 moves, 600,000 after 40
unfoldable pub allotted : LevelSeen → ℕ → ℕ
allotted level k = level.base * (if level.moves == 0 then 1 else 1 + k / level.moves) + level.increment * k
