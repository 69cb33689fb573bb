-- How `Counted` counts its device's answers, and what it returns for them.
use Rattle.std.specs.Prelude.{ℕ, ◌+◌, ◌==◌, ◌&&◌, nat_lt, if◌then◌else◌, Result, Ok, Err}
use Rattle.byte_devices.specs.Devices.{saturating_increment, saturating_add}
use Rattle.byte_devices.specs.declared.counted.Counts.{Counts}

-- the counts before the first call: all 0
abbrev pub no_counts : Counts
no_counts = record { failures = 0; ends = 0; last = 0; pieces = 0; silences = 0; unflushed = 0 }

-- the counts with one more failed call, and all else as it was
abbrev pub one_failure_more : Counts → Counts
one_failure_more c = record {
  failures = saturating_increment c.failures;
  ends = c.ends;
  last = c.last;
  pieces = c.pieces;
  silences = c.silences;
  unflushed = c.unflushed;
}

-- a device's result with its value kept, and each error replaced by the given fault
abbrev pub passed_on : {A E F : Type 0} → F → Result A E → Result A F
passed_on fault (Ok value) = Ok value
passed_on fault (Err e) = Err fault

-- the counts after a read for which the device returned this: `Ok 0` is an end of the input, `Ok n` gave n bytes of it,
-- `Err` is a failure; both `Ok` count as a piece of the input
abbrev pub counts_after_read : {E : Type 0} → Counts → Result ℕ E → Counts
counts_after_read c (Ok n) = record {
  failures = c.failures;
  ends = if n == 0 then saturating_increment c.ends else c.ends;
  last = n;
  pieces = c.pieces + 1;
  silences = c.silences;
  unflushed = c.unflushed;
}
counts_after_read c (Err e) = one_failure_more c

-- the result of a write of `len` bytes, from what the device returned: each error becomes the given fault, and so does
-- `Ok 0` if `len` is not 0
abbrev pub write_passed_on : {E F : Type 0} → F → ℕ → Result ℕ E → Result ℕ F
write_passed_on fault len (Ok n) = if (n == 0) && nat_lt 0 len then Err fault else Ok n
write_passed_on fault len (Err e) = Err fault

-- the counts after a write with this result: `Ok n` adds n unflushed bytes, `Err` is a failure
abbrev pub counts_after_write : {E : Type 0} → Counts → Result ℕ E → Counts
counts_after_write c (Ok n) = record {
  failures = c.failures;
  ends = c.ends;
  last = c.last;
  pieces = c.pieces;
  silences = c.silences;
  unflushed = saturating_add c.unflushed n;
}
counts_after_write c (Err e) = one_failure_more c

-- the counts after a flush with this result: `Ok` leaves no byte unflushed, `Err` is a failure
abbrev pub counts_after_flush : {A E : Type 0} → Counts → Result A E → Counts
counts_after_flush c (Ok value) = record {
  failures = c.failures;
  ends = c.ends;
  last = c.last;
  pieces = c.pieces;
  silences = c.silences;
  unflushed = 0;
}
counts_after_flush c (Err e) = one_failure_more c
