-- The loop's invariant, after `number` squares from h8 down: bit 0 of `occupied` says whether the square looked at last
-- is occupied, bit 1 says it of the one before it, and so on up to h8, whose bit is `number` - 1.
use Rattle.std.proofs.Common.{◌≡◌, ℕ, ◌<◌, ◌+◌, ◌-◌, not, is_none}
use Rattle.chess_base.specs.Men.{man_at}
use Rattle.chess_moves.specs.Sets.{contains}
use Rattle.chess_bits.proofs.placing.occupied_by.Given as goal

abbrev pub invariant-loop-number : goal.invariant-loop-number
invariant-loop-number l = (k : ℕ) → k < l.number
    → contains l.occupied k ≡ not (is_none (man_at l.men (k + (64 - l.number))))
