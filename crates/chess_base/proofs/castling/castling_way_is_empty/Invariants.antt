-- The loop's invariant: each square before `number` is empty, or the castling doesn't need it empty.
use Rattle.std.proofs.Common.{◌≡◌, ℕ, ◌<◌, true, not, ◌||◌, is_none}
use Rattle.chess_base.specs.{Men.man_at, Castling.castling_needs_empty}
use Rattle.chess_base.proofs.castling.castling_way_is_empty.Given as goal

abbrev pub invariant-loop-number : goal.invariant-loop-number
invariant-loop-number l = (k : ℕ) → k < l.number → (not (castling_needs_empty l.castle k) || is_none (man_at l.men k))
    ≡ true
