-- Each feature is set by its name and the item alone, so what it is after one item more follows from what it was
-- (FeatureRuns.features-snoc).
use Rattle.cecp_engine.specs.Seen.{item_seen}
use Rattle.cecp_engine.proofs.FeatureRuns.{features-snoc}
use Rattle.cecp_engine.proofs.features.Features.with_item.Goals as goal

pub returns : goal.returns
returns c items e =
    rw (
      c.says_or.ensures,
      c.says_or-2.ensures,
      c.says_or-3.ensures,
      c.says_or-4.ensures,
      c.says_or-5.ensures,
      c.says_or-6.ensures,
      c.names_fischerandom_or.ensures,
    )
    (features-snoc c.args.self items (item_seen c.args.item.now) e)
