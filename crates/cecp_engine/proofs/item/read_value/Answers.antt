-- A quote that is not closed gives no value, in the code as in the definition (shared.Items.unclosed); the check finds
-- all other cases itself.
use Rattle.cecp_engine.proofs.shared.Items.{unclosed}
use Rattle.cecp_engine.proofs.item.read_value.Goals as goal

pub returns-else-at-tail : goal.returns-else-at-tail
returns-else-at-tail c =
    unclosed c.args.text.now c.len_before-at.result c.if-first-eq34.true c.len_before-at.ensures.count c.if-at-tail.false
