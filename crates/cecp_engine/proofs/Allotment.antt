-- A move in time: the time that a level allots never falls with a move more, so a side's used time stays within it
-- (within_more); since at most 2 ^ 62 milliseconds are allotted, the sum doesn't overflow (room_more).
use Rattle.std.proofs.Common.{ℕ, ◌+◌, ◌-◌, ◌≤◌, ◌<◌, arith}
use Rattle.cecp_engine.specs.{Levels.LevelSeen, Levels.allotted, Clocks.SideSeen, Clocks.side_charged, ties.Bounds.IsWithin}
use Rattle.chess_base.specs.declared.setup.TheConstants.{MOST_MOVES}
use Rattle.cecp_engine.proofs.shared.Levels.{allotted_grows}

-- a side that used no more than its time, and then no more than it had left, used no more than its time after the move
pub within_more : (s : SideSeen) (used : ℕ) → IsWithin s → used ≤ allotted s.level s.moves - s.used
    → s.moves < MOST_MOVES → IsWithin (side_charged s used)
within_more s used w in_time few =
    let g = allotted_grows s.level s.moves in
    let u = w.used in
    record { moves = omega (arith, few); used = omega (arith, g, u, in_time) }

-- used time and that of the move are together no more than what is allotted, at most 2 ^ 62, so below 2 ^ 64
pub room_more : (l : LevelSeen) (k used more : ℕ) → used ≤ allotted l k → more ≤ allotted l k - used
    → allotted l k ≤ 4611686018427387904 → used + more < 18446744073709551616
room_more l k used more u t b = omega (arith, u, t, b)
