-- `split` gives the names in the list (YieldsList-from_str_split), and `all` tries each.
use Rattle.std.proofs.Common.{lit<, rules, tests}
use Rattle.std.proofs.lemmas.Iterator.{Search.all_from_yields_List, Splits.YieldsList-from_str_split}
use Rattle.arbiter_cli.specs.ties.Requests.{is_kind}
use Rattle.arbiter_cli.proofs.ignored.are_kinds.Goals as goal

pub returns : goal.returns
returns c =
    all_from_yields_List is_kind _ _ _ c.all.ensures.ran
    (YieldsList-from_str_split 44 c.args.list.now (lit< tt) c.split.ensures.text c.split.ensures.has_more
    c.split.ensures.pattern) (λ x b q k. search (rules, tests))
