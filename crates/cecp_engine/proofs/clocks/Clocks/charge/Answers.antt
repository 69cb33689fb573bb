-- For White and for Black: a move in time keeps the time used within what the level gives, which never falls with a
-- move more (Allotment.within_more), so the invariant of clocks holds. The level gives at most 2 ^ 62 milliseconds, so
-- the sum doesn't overflow (Allotment.room_more).
use Rattle.std.proofs.Common.{arith, sym, ◌≤◌, ◌<◌, ◌+◌, ◌-◌}
use Rattle.cecp_engine.specs.Levels.{allotted}
use Rattle.cecp_engine.proofs.Allotment.{within_more, room_more}
use Rattle.cecp_engine.proofs.clocks.Clocks.charge.Goals as goal
use Rattle.chess_base.specs.declared.setup.TheConstants.{MOST_MOVES}

pub overflow_add-self-in-White : goal.overflow_add-self-in-White
overflow_add-self-in-White c =
    let t : c.args.used ≤ allotted c.self.inside.white.level c.self.inside.white.moves - c.self.inside.white.used =
    rw (sym c.self.view_is, c.in-White.is) at c.requires.in_time in
    let b : allotted c.self.inside.white.level c.self.inside.white.moves ≤ 4611686018427387904 =
    rw (← c.allotted-bound.ensures.value) c.allotted-bound.ensures.bound in
    let h : c.self.inside.white.used + c.args.used < 18446744073709551616 =
    room_more c.self.inside.white.level c.self.inside.white.moves _ _ c.self.invariant.0.used t b in
    omega arith

pub invariant_of-self : goal.invariant_of-self
invariant_of-self c =
    let t : c.args.used ≤ allotted c.self.inside.white.level c.self.inside.white.moves - c.self.inside.white.used =
    rw (sym c.self.view_is, c.in-White.is) at c.requires.in_time in
    let f : c.self.inside.white.moves < MOST_MOVES = rw (sym c.self.view_is, c.in-White.is) at c.requires.few in
    (within_more _ c.args.used c.self.invariant.0 t f, c.self.invariant.1)

pub overflow_add-self-in-Black-2 : goal.overflow_add-self-in-Black-2
overflow_add-self-in-Black-2 c =
    let t : c.args.used ≤ allotted c.self.inside.black.level c.self.inside.black.moves - c.self.inside.black.used =
    rw (sym c.self.view_is, c.in-Black.is) at c.requires.in_time in
    let b : allotted c.self.inside.black.level c.self.inside.black.moves ≤ 4611686018427387904 =
    rw (← c.allotted-bound-in-Black.ensures.value) c.allotted-bound-in-Black.ensures.bound in
    let h : c.self.inside.black.used + c.args.used < 18446744073709551616 =
    room_more c.self.inside.black.level c.self.inside.black.moves _ _ c.self.invariant.1.used t b in
    omega arith

pub invariant_of-self-in-Black : goal.invariant_of-self-in-Black
invariant_of-self-in-Black c =
    let t : c.args.used ≤ allotted c.self.inside.black.level c.self.inside.black.moves - c.self.inside.black.used =
    rw (sym c.self.view_is, c.in-Black.is) at c.requires.in_time in
    let f : c.self.inside.black.moves < MOST_MOVES = rw (sym c.self.view_is, c.in-Black.is) at c.requires.few in
    (c.self.invariant.0, within_more _ c.args.used c.self.invariant.1 t f)
