-- `split` gives the names in the list (YieldsList-from_str_split), and `any` tries each.
use Rattle.std.proofs.Common.{bytes_eq, lit<, rules, tests}
use Rattle.std.proofs.lemmas.Iterator.{Search.any_from_yields_List, Splits.YieldsList-from_str_split}
use Rattle.arbiter_cli.proofs.ignored.has_name.Goals as goal

pub returns : goal.returns
returns c =
    any_from_yields_List (bytes_eq c.args.name.now) _ _ _ c.any.ensures.ran
    (YieldsList-from_str_split 44 c.args.list.now (lit< tt) c.split.ensures.text c.split.ensures.has_more
    c.split.ensures.pattern) (λ x b q k. search (rules, tests))
