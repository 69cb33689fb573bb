-- For crates that read an input bit by bit. What was read of it so far: at first nothing (nothing_read); after a read
-- that gave bytes, these too, and after one that gave none, its end (read_on); after one that failed, that it broke off
-- there (broke_off).
use Rattle.std.proofs.Common.{◌≡◌, ℕ, ◌==◌, Bool, true, false, if◌then◌else◌, List, [], ◌++◌, length, refl, ap, subst, append-nil, ◌∙◌, arith}
use Rattle.std.proofs.lemmas.Bool.Decides.{nat_tests}
use Rattle.byte_devices.specs.Devices.{InputState, GavePiece, FailedToRead, saturating_increment}
use Rattle.byte_devices.proofs.shared.Devices.{consumes_more, consumes_none, consumes_kept}
use Rattle.std.specs.Io.KnownBytes.{Consumes}
use Rattle.pgn_pieces.specs.Pieces.{GaveThenFailed, HasRead}

-- where nothing changes, nothing was read
pub nothing_read : (r : InputState) → HasRead false r r []
nothing_read r =
    record { bytes = consumes_none r.known_bytes; failures = refl; ends = refl; silences = refl; at_end = λ e. absurd (cc) }

-- a list whose length passes the test for 0 has the length 0
is_none : (xs : List ℕ) → (length xs == 0) ≡ true → length xs ≡ 0
is_none xs h = grind (arith, nat_tests, h)

-- a read gives more, or the end
pub read_on : (b : Bool) (r r' r'' : InputState) (text more : List ℕ) → (length more == 0) ≡ b
    → HasRead false r r' text → GavePiece r' r'' more → HasRead b r r'' (text ++ more)
read_on b r r' r'' text more h front gave = record {
  bytes = consumes_more r.known_bytes r'.known_bytes r''.known_bytes text more front.bytes gave.bytes;
  failures = gave.failures ∙ front.failures;
  ends = gave.ends ∙ ap (λ c. if c then saturating_increment r'.end_count else r'.end_count) h
      ∙ ap (λ n. if b then saturating_increment n else n) front.ends;
  silences = gave.silences ∙ front.silences;
  at_end = λ e. gave.at_end (is_none more (h ∙ e));
}

-- a text was read, and then a read failed
pub broke_off : (r r' r'' : InputState) (text : List ℕ) → HasRead false r r' text → FailedToRead r' r''
    → GaveThenFailed r r'' text
broke_off r r' r'' text front failed = record {
  bytes = subst (Consumes r.known_bytes r''.known_bytes) (append-nil text)
      (consumes_more r.known_bytes r'.known_bytes r''.known_bytes text [] front.bytes
      (consumes_kept r'.known_bytes r''.known_bytes failed.bytes));
  failures = failed.failures ∙ ap saturating_increment front.failures;
  ends = failed.ends ∙ front.ends;
  silences = failed.silences ∙ front.silences;
}
