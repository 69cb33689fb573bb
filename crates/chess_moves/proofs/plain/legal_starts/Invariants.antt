-- The loop's invariant: the set has just those squares before `number` that hold a piece of this kind, of the side on
-- move, whose move to `to` without a promotion is legal.
use Rattle.std.proofs.Common.{◌≡◌, ℕ, ◌&&◌, None, nat_lt}
use Rattle.chess_base.specs.{Men.man_at, Men.is_man, MoveList.move_of, Moves.is_legal}
use Rattle.chess_moves.specs.Sets.{contains}
use Rattle.chess_moves.proofs.plain.legal_starts.Given as goal

abbrev pub invariant-loop-number : goal.invariant-loop-number
invariant-loop-number l = (k : ℕ) → contains l.set k ≡ (nat_lt k l.number
    && (is_man l.setup.side l.kind (man_at l.setup.men k) && is_legal l.setup (move_of k l.to None)))
