-- The steps of a move give the pieces after it, and the steps back those before it, whatever was saved
-- (men_after_by_steps and men_before_by_steps of chess_base's shared/MenAfter).
use Rattle.chess_base.proofs.shared.MenAfter.{men_after_by_steps, men_before_by_steps}
use Rattle.chess_base_laws.proofs.laws.moves_go_in_steps.Goals as goal

pub returns : goal.returns
returns c = λ p m. record { on = men_after_by_steps p m; back = λ s. men_before_by_steps p m s }
