-- The text of each fault is logged part by part (Logged.adds_more), with the command that can't be started, or the
-- number of the game and the reason.
use Rattle.std.proofs.Common.{List, ℕ, ◌++◌, ap, codes}
use Rattle.match_runner.proofs.Logged.{adds_as, adds_more}
use Rattle.match_runner.proofs.log.Pending.add_fault.Goals as goal

pub returns-in-CanNotStart : goal.returns-in-CanNotStart
returns-in-CanNotStart g c =
    let start : List ℕ = codes "can not start " in
    rw c.in-CanNotStart.is (adds_as _ _ _ _ _ _ (ap (λ (t : List ℕ). start ++ t) c.as_bytes.ensures.value)
    (adds_more _ _ _ _ _ _ start c.as_bytes.result.now c.add_text-in-CanNotStart.ensures
    c.add_text-in-CanNotStart-2.ensures))
