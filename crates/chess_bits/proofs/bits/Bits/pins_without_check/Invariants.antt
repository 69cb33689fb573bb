-- The loop's invariant: each free piece is an own one, not the king, and if it leaves, the way to the king opens from
-- none of the possible pinners looked at so far (`KeepsClosed`); each legal move of a piece that is neither free nor
-- the king ends on an evasion; and `rest` has possible pinners only. The measure is the number of squares in `rest`.
use Rattle.std.proofs.Common.{◌≡◌, ◌<◌, ℕ, not, ◌&&◌, ◌==◌, length, true, false}
use Rattle.chess_base.specs.Men.{man_at, is_of}
use Rattle.chess_bits.specs.ties.Pins.{aims_from, KeepsClosed, AreEvasions}
use Rattle.chess_moves.specs.Sets.{contains, members}
use Rattle.chess_bits.proofs.bits.Bits.pins_without_check.Given as goal

abbrev pub invariant-loop-from : goal.invariant-loop-from
invariant-loop-from l = record {
  own : (a : ℕ) → a < 64 → contains l.pins.free a ≡ true
      → (is_of l.self.side (man_at l.self.men a) && not (a == l.king)) ≡ true;
  aims : (b : ℕ) → b < 64 → contains l.rest b ≡ true → aims_from l.self b l.king ≡ true;
  closed : (a b : ℕ) → a < 64 → b < 64 → contains l.pins.free a ≡ true → aims_from l.self b l.king ≡ true
      → contains l.rest b ≡ false → KeepsClosed l.self a b l.king;
  evasions : AreEvasions l.self l.pins.free l.pins.evasions;
}

abbrev pub decreases-loop-from : goal.decreases-loop-from
decreases-loop-from l = length (members l.rest)
