-- The first line is what comes before the first `\n`, or the whole text if it has none (Logged.line_split).
use Rattle.std.proofs.Common.{List, ℕ, ◌∷◌, ◌∙◌, ap, sym, take}
use Rattle.match_runner.specs.Log.{lines_in}
use Rattle.match_runner.proofs.Logged.{line_split}
use Rattle.match_runner.proofs.log.split_line.Goals as goal

pub returns-clause-lines : goal.returns-clause-lines
returns-clause-lines c =
    line_split _ _ _ c.requires c.len_before-len.ensures.count c.min-next.ensures
    ∙ ap (λ (t : List ℕ). take c.len_before-len.result c.args.text.now ∷ lines_in t) (sym c.split_at.ensures.back)
