-- For the loop of `read_all`: its text is all that was read so far (HasRead), at most 16777216 bytes. A read more keeps
-- this (more_read, still_few); the loop ends at the input's end (all_read), at more than 16777216 bytes (too_long), or
-- if there is no memory for what a read gave (no_room).
use Rattle.std.proofs.Common.{◌≡◌, ◌≤◌, ◌<◌, ◌-◌, ◌==◌, nat_eq, length-append, ◌∙◌, ℕ, List, [], ◌++◌, length, take, false, if◌then◌else◌, refl, ap, subst, append-nil, arith, length-take-le}
use Rattle.std.specs.Io.KnownBytes.{Consumes}
use Rattle.byte_devices.specs.Devices.{InputState, GavePiece, saturating_increment}
use Rattle.byte_devices.proofs.shared.Devices.{consumes_more}
use Rattle.pgn_verifier.specs.{declared.fault.VerifyFault.TheVariants.NoMemory, declared.fault.VerifyFault.TheVariants.InputTooLong, ties.OnTheWay.IsAll, ties.OnTheWay.IsNotAll}
use Rattle.pgn_pieces.specs.Pieces.{HasRead}

-- the end was reported
pub all_read : (r r' r'' : InputState) (text buf : List ℕ) (n : ℕ) → HasRead false r r' text → length text ≤ 16777216
    → GavePiece r' r'' (take n buf) → n ≡ 0 → IsAll r r'' text
all_read r r' r'' text buf n front few gave is =
    let gave' : GavePiece r' r'' [] = subst (λ k. GavePiece r' r'' (take k buf)) is gave in (
      record {
        bytes = subst (Consumes r.known_bytes r''.known_bytes) (append-nil text)
            (consumes_more r.known_bytes r'.known_bytes r''.known_bytes text [] front.bytes gave'.bytes);
        failures = gave'.failures ∙ front.failures;
        ends = gave'.ends ∙ ap saturating_increment front.ends;
        silences = gave'.silences ∙ front.silences;
        at_end = λ e. gave'.at_end refl;
      },
      few,
    )

-- a read that gave some bytes counts no end
not_ended : (a b n : ℕ) (buf : List ℕ) → 0 < n → n ≤ length buf
    → a ≡ (if length (take n buf) == 0 then saturating_increment b else b)
    → a ≡ b
not_ended a b n buf some within is =
    let len = length-take-le n buf within in
    let e : nat_eq (length (take n buf)) 0 ≡ false = grind (arith, len, some) in
    is ∙ rw e refl

-- a piece more
pub more_read : (r r' r'' : InputState) (text buf : List ℕ) (n : ℕ) → HasRead false r r' text
    → GavePiece r' r'' (take n buf) → 0 < n → n ≤ length buf
    → HasRead false r r'' (text ++ take n buf)
more_read r r' r'' text buf n front gave some within = record {
  bytes = consumes_more r.known_bytes r'.known_bytes r''.known_bytes text (take n buf) front.bytes gave.bytes;
  failures = gave.failures ∙ front.failures;
  ends = not_ended r''.end_count r'.end_count n buf some within gave.ends ∙ front.ends;
  silences = gave.silences ∙ front.silences;
  at_end = λ e. absurd (cc);
}

-- no memory for a piece: not all was read
pub no_room : (r r' r'' : InputState) (text buf : List ℕ) (n : ℕ) → HasRead false r r' text
    → GavePiece r' r'' (take n buf) → 0 < n → n ≤ length buf → IsNotAll r r'' NoMemory
no_room r r' r'' text buf n front gave some within =
    (text ++ take n buf, more_read r r' r'' text buf n front gave some within)

-- the piece makes more bytes than may be read: not all was read
pub too_long : (r r' r'' : InputState) (text buf : List ℕ) (n len : ℕ) → HasRead false r r' text
    → GavePiece r' r'' (take n buf) → len ≡ length text
    → length text ≤ 16777216 → 16777216 - len < n → n ≤ length buf → IsNotAll r r'' InputTooLong
too_long r r' r'' text buf n len front gave is few past within =
    let all = length-append text (take n buf) in
    let some = length-take-le n buf within in (
      text ++ take n buf,
      more_read r r' r'' text buf n front gave (omega (arith, past)) within,
      omega
          (arith, all, some, is, few, past),
    )

-- a piece that fits leaves no more bytes than may be read
pub still_few : (text buf : List ℕ) (n len : ℕ) → len ≡ length text → length text ≤ 16777216 → n ≤ 16777216 - len
    → n ≤ length buf → length (text ++ take n buf) ≤ 16777216
still_few text buf n len is few room within =
    let all = length-append text (take n buf) in
    let some = length-take-le n buf within in
    omega (arith, all, some)
