-- For crates above too: the time that a level allots to a side never falls with one move more (allotted_grows), since
-- the number of sessions begun doesn't fall (sessions_grow), and each move adds an increment.
use Rattle.std.proofs.Common.{◌≡◌, ℕ, zero, suc, ◌+◌, ◌*◌, ◌/◌, ◌≤◌, ◌<◌, arith, ne_eqb, false, div-mul-le_self, mul-le-mul_left, if◌then◌else◌, ◌==◌}
use Rattle.std.proofs.lemmas.Nat.{le-div}
use Rattle.cecp_engine.specs.Levels.{LevelSeen, allotted}

-- the quotient by m doesn't fall from k to k + 1
div_grows : (m k : ℕ) → 0 < m → k / m ≤ (k + 1) / m
div_grows m k some = let low : k / m * m ≤ k = div-mul-le_self k m in le-div (k / m) (k + 1) m some (omega arith)

-- the sessions begun after k moves are no more than those after k + 1, for a session of m moves (0: the whole game)
sessions_grow : (m k : ℕ) → (if m == 0 then 1 else 1 + k / m) ≤ (if m == 0 then 1 else 1 + (k + 1) / m)
sessions_grow zero k = omega arith
sessions_grow (suc m) k =
    let some : 0 < suc m = omega arith in
    let d : k / suc m ≤ (k + 1) / suc m = div_grows (suc m) k some in
    let e : (suc m == 0) ≡ false = ne_eqb (suc m) 0 (omega arith) in
    rw e (omega arith)

-- after one move more no less time was allotted
pub allotted_grows : (l : LevelSeen) (k : ℕ) → allotted l k ≤ allotted l (k + 1)
unfolding allotted
allotted_grows l k =
    let s : l.base * (if l.moves == 0 then 1 else 1 + k / l.moves) ≤ l.base *
    (if l.moves == 0 then 1 else 1 + (k + 1) / l.moves) = mul-le-mul_left l.base (sessions_grow l.moves k) in
    let i : l.increment * k ≤ l.increment * (k + 1) = mul-le-mul_left l.increment (omega arith) in
    omega arith
