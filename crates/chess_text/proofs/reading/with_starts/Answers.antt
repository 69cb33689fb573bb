-- Before the first square nothing is found (`NoSuch`), and `NoSuch` with the moves from all squares is what `one_of`
-- reads of their list (one_found of Origins).
use Rattle.chess_text.proofs.Origins.{one_found}
use Rattle.chess_text.proofs.reading.with_starts.Goals as goal

pub loop-from-init : goal.loop-from-init
loop-from-init c = one_found _
