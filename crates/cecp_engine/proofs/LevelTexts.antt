-- The text of a level whose numbers are within bounds (`IsLevel`), such as `40 0:30 0.5`, is ASCII: digits, points,
-- colons and spaces. A lemma for each part of it, from a digit on, and last the whole (level_ascii).
use Rattle.std.proofs.Common.{◌≡◌, ℕ, ◌+◌, ◌/◌, ◌%◌, ◌<◌, ◌≤◌, Bool, true, false, eqb, List, [], ◌∷◌, ◌++◌, refl, arith, IsAscii, decimal, append-nil}
use Rattle.std.proofs.{lemmas.Fmt.IsAscii-decimal, lemmas.Str.IsAscii-append, lemmas.Str.Ascii.IsAscii-nil, lemmas.Str.Ascii.IsAscii-cons}
use Rattle.byte_devices.specs.Bytes.{byte}
use Rattle.cecp_engine.specs.ties.Bounds.{IsLevel}
use Rattle.cecp_engine.specs.Levels.{LevelSeen, level_text, base_text, two_digits, decimals_text, increment_text}

digit_ascii : (n : ℕ) (rest : List ℕ) → n < 10 → IsAscii rest → IsAscii ((48 + n) ∷ rest)
digit_ascii n rest h is = IsAscii-cons (48 + n) rest (omega arith) is

two_digits_ascii : (n : ℕ) → n < 100 → IsAscii (two_digits n)
two_digits_ascii n h =
    digit_ascii (n / 10) ((48 + n % 10) ∷ []) (omega arith) (digit_ascii (n % 10) [] (omega arith) IsAscii-nil)

decimals_ascii : (n : ℕ) → n < 1000 → IsAscii (decimals_text n)
unfolding decimals_text
decimals_ascii n h = by_tests (eqb n 0) (eqb (n % 100) 0) (eqb (n % 10) 0) refl refl refl
  where
    by_tests : (a b c : Bool) → eqb n 0 ≡ a → eqb (n % 100) 0 ≡ b → eqb (n % 10) 0 ≡ c → IsAscii (decimals_text n)
    by_tests true b c e f g = rw e IsAscii-nil
    by_tests false true c e f g =
        rw (e, f) (IsAscii-cons 46 ((48 + n / 100) ∷ []) (omega arith)
        (digit_ascii (n / 100) [] (omega arith) IsAscii-nil))
    by_tests false false true e f g =
        rw (e, f, g) (IsAscii-cons 46 (two_digits (n / 10)) (omega arith) (two_digits_ascii (n / 10) (omega arith)))
    by_tests false false false e f g =
        rw (e, f, g) (IsAscii-cons 46 ((48 + n / 100) ∷ two_digits (n % 100)) (omega arith)
        (digit_ascii (n / 100) (two_digits (n % 100)) (omega arith) (two_digits_ascii (n % 100) (omega arith))))

base_ascii : (base : ℕ) → base ≤ 59999999 → IsAscii (base_text base)
unfolding base_text
base_ascii base h = by_seconds (eqb (base % 60000) 0) refl
  where
    minutes : IsAscii (decimal (base / 60000))
    minutes = IsAscii-decimal (base / 60000) (omega arith)

    seconds : List ℕ
    seconds = two_digits (base % 60000 / 1000) ++ decimals_text (base % 1000)

    seconds_ascii : IsAscii seconds
    seconds_ascii = IsAscii-append (two_digits (base % 60000 / 1000)) (decimals_text (base % 1000))
        (two_digits_ascii (base % 60000 / 1000) (omega arith)) (decimals_ascii (base % 1000) (omega arith))

    by_seconds : (whole : Bool) → eqb (base % 60000) 0 ≡ whole → IsAscii (base_text base)
    by_seconds true e = rw (e, append-nil (decimal (base / 60000))) minutes
    by_seconds false e =
        rw e (IsAscii-append (decimal (base / 60000)) (byte ":" ∷ seconds) minutes
        (IsAscii-cons 58 seconds (omega arith) seconds_ascii))

increment_ascii : (increment : ℕ) → increment ≤ 999999 → IsAscii (increment_text increment)
unfolding increment_text
increment_ascii increment h = IsAscii-append (decimal (increment / 1000)) (decimals_text (increment % 1000))
    (IsAscii-decimal (increment / 1000) (omega arith)) (decimals_ascii (increment % 1000) (omega arith))

pub level_ascii : (level : LevelSeen) → IsLevel level → IsAscii (level_text level)
unfolding level_text
level_ascii level is =
    let few = is.moves in
    let last = IsAscii-cons 32 (increment_text level.increment) (omega arith)
    (increment_ascii level.increment is.increment) in
    let base = IsAscii-append (base_text level.base) (byte " " ∷ increment_text level.increment)
    (base_ascii level.base is.base) last in
    IsAscii-append (decimal level.moves) (byte " " ∷ (base_text level.base ++ byte " " ∷ increment_text level.increment))
    (IsAscii-decimal level.moves (omega (arith, few)))
    (IsAscii-cons 32 (base_text level.base ++ byte " " ∷ increment_text level.increment) (omega arith) base)
