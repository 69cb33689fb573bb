-- The texts are noted at the game with this index, which starts no engine and leaves all other games as they are.
use Rattle.std.proofs.Common.{ap, arith}
use Rattle.match_runner.proofs.MemorySteps.{none_there, others_stay, sent_there, started_stay}
use Rattle.match_runner.proofs.memory_host.MemoryHost.note_sent.Goals as goal

pub returns-then-number-len-clause-started : goal.returns-then-number-len-clause-started
returns-then-number-len-clause-started c =
    started_stay _ _ _ c.index_mut.result.now (ap (λ g. g.commands) c.index_mut.ensures.value)

pub returns-then-number-len-clause-noted : goal.returns-then-number-len-clause-noted
returns-then-number-len-clause-noted c = sent_there c.args.self.now.games.items c.args.number _

pub returns-then-number-len-clause-others : goal.returns-then-number-len-clause-others
returns-then-number-len-clause-others c = λ k apart. others_stay c.args.self.now.games.items c.args.number _ k apart

pub returns-else-number-len-clause-noted : goal.returns-else-number-len-clause-noted
returns-else-number-len-clause-noted c = none_there c.args.self.now.games.items c.args.number _ (omega arith)
