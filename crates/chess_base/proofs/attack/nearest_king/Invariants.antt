-- The loop's invariant: on none of the first `number` squares, counted from the colour's own side, is its king.
use Rattle.std.proofs.Common.{◌≡◌, ℕ, ◌<◌, false}
use Rattle.chess_base.specs.{declared.man.Kind.TheVariants.King, Men.man_at, Men.is_man, ties.Lines.square_from_side}
use Rattle.chess_base.proofs.attack.nearest_king.Given as goal

abbrev pub invariant-loop-number : goal.invariant-loop-number
invariant-loop-number l = (k : ℕ) → k < l.number
    → is_man l.colour King (man_at l.men (square_from_side l.colour k)) ≡ false
