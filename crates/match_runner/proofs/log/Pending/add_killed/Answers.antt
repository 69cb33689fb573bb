-- The parts of the line are logged one after another (Logged.adds_more), from `arbiter: game ` to the `\n`.
use Rattle.std.proofs.Common.{ℕ, List, [], ◌∷◌, ◌++◌, ap, codes, decimal}
use Rattle.chess_match.specs.Reasons.{colour_name}
use Rattle.match_runner.proofs.Logged.{adds_as, adds_more}
use Rattle.match_runner.proofs.log.Pending.add_killed.Goals as goal

pub returns-clause-adds : goal.returns-clause-adds
returns-clause-adds g c =
    let start : List ℕ = codes "arbiter: game " in
    let number : List ℕ = start ++ decimal c.args.number in
    let before : List ℕ = number ++ codes ": " in
    let name : List ℕ = before ++ colour_name c.args.side in
    let text : List ℕ = name ++ codes " did not exit, and was killed" in
    adds_more _ _ _ _ _ _ text (10 ∷ [])
    (adds_more _ _ _ _ _ _ name (codes " did not exit, and was killed")
    (adds_as _ _ _ _ _ _ (ap (λ (t : List ℕ). before ++ t) c.colour_name.ensures)
    (adds_more _ _ _ _ _ _ before c.colour_name.result.now
    (adds_more _ _ _ _ _ _ number (codes ": ")
    (adds_more _ _ _ _ _ _ start (decimal c.args.number) c.add_text.ensures
    (adds_as _ _ _ _ _ _ (ap (λ (n : ℕ). decimal n) c.from.ensures) c.add_number.ensures)) c.add_text-2.ensures)
    c.add_text-3.ensures))
    c.add_text-4.ensures)
    c.add.ensures.adds
