-- The loop's invariant: `is_found` is whether a bishop is on a square of the colour that `parity` names, with a number
-- below `number`.
use Rattle.std.proofs.Common.{◌≡◌, ◌+◌, ◌%◌, ◌==◌, ◌&&◌}
use Rattle.chess_base.specs.{declared.man.Kind.TheVariants.Bishop, Men.man_at, Squares.file, Squares.rank, shared.Below.some_below}
use Rattle.chess_game.specs.Ends.{is_kind}
use Rattle.chess_game.proofs.verdicts.has_bishop_on.Given as goal

abbrev pub invariant-loop-number : goal.invariant-loop-number
invariant-loop-number l =
    l.is_found
    ≡ some_below l.number (λ s. ((file s + rank s) % 2 == l.parity) && is_kind Bishop (man_at l.men s))
