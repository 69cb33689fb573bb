-- The moment, the mark and the engine's name are logged one after another (Logged.adds_more).
use Rattle.std.proofs.Common.{ℕ, List, [], ◌∷◌, ◌++◌, ap, decimal}
use Rattle.match_runner.proofs.Logged.{adds_as, adds_more}
use Rattle.match_runner.proofs.log.Pending.add_head.Goals as goal

pub returns : goal.returns
returns g c =
    let number : List ℕ = decimal c.args.moment in
    let mark : List ℕ = 32 ∷ c.args.mark ∷ [] in
    adds_as _ _ _ _ _ _ (ap (λ (t : List ℕ). (number ++ mark) ++ t) c.engine_text.ensures)
    (adds_more _ _ _ _ _ _ (number ++ mark) c.engine_text.result.now
    (adds_more _ _ _ _ _ _ number mark c.add_number.ensures c.add_text.ensures) c.add_text-2.ensures)
