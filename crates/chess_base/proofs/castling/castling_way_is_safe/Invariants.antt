-- The loop's invariant: each square before `number` is off the king's way, or not attacked.
use Rattle.std.proofs.Common.{◌≡◌, ℕ, ◌<◌, true, not, ◌||◌}
use Rattle.chess_base.specs.{Men.other, Attacks.is_attacked, Castling.is_on_way}
use Rattle.chess_base.proofs.castling.castling_way_is_safe.Given as goal

abbrev pub invariant-loop-number : goal.invariant-loop-number
invariant-loop-number l = (k : ℕ) → k < l.number
    → (not (is_on_way l.castle.king_from l.castle.king_to k) || not (is_attacked l.men k (other l.colour))) ≡ true
