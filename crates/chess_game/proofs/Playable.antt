-- If a move may be played (`play_refusal` gives no reason against it), the game is not over, has room for it, and the
-- move is legal: by the cases of these three tests.
use Rattle.std.proofs.Common.{◌≡◌, Bool, true, false, None, Some, refl, if◌then◌else◌}
use Rattle.std.specs.Option.{option_or}
use Rattle.chess_base.specs.{declared.man.Move.Move, Moves.is_legal}
use Rattle.chess_game.specs.Game.{Seen, current, is_over, is_full, play_refusal}
use Rattle.chess_game.specs.declared.game.PlayRefusal.TheVariants.{Over, TooLong, Illegal}

-- the three tests: the game is over (o), it is full (f), the move is legal (l)
pub record MayPlay (o f l : Bool) : Type 0 where
  pub on : o ≡ false
  pub room : f ≡ false
  pub legal : l ≡ true

by_tests : (o f l : Bool) → option_or (if o then Some Over else if f then Some TooLong else None)
    (if l then None else Some Illegal) ≡ None → MayPlay o f l
by_tests true f l h = absurd cc
by_tests false true l h = absurd cc
by_tests false false false h = absurd cc
by_tests false false true h = record { on = refl; room = refl; legal = refl }

pub may_play : (g : Seen) (m : Move) → play_refusal g m ≡ None
    → MayPlay (is_over g.state) (is_full g) (is_legal (current g.state) m)
may_play g m h = by_tests (is_over g.state) (is_full g) (is_legal (current g.state) m) h
