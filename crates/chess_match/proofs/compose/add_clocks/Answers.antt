-- The bytes put are those of the lines that the definition `clocks` gives this side: `time` and `otim` if the features
-- kept of its engine have `time` on, otherwise none (Sends.clocks_kept, in both cases of the `if`).
use Rattle.std.proofs.Common.{sym, true, false, append-nil}
use Rattle.chess_match.specs.Lines.{bytes_of}
use Rattle.chess_match.proofs.Sends.{clocks_kept}
use Rattle.chess_match.proofs.compose.add_clocks.Goals as goal

pub returns-then-features-clause-text : goal.returns-then-features-clause-text
returns-then-features-clause-text c r played m s =
    let k = clocks_kept r c.args.core.now played m c.args.side c.features.result true s c.features.ensures
    c.if-features.true in
    rw (← k, ← c.other.ensures, ← c.remaining-own.ensures, ← c.remaining-others.ensures) c.add_times.ensures.text

pub returns-else-features-clause-text : goal.returns-else-features-clause-text
unfolding bytes_of
returns-else-features-clause-text c r played m s =
    let k = clocks_kept r c.args.core.now played m c.args.side c.features.result false s c.features.ensures
    c.if-features.false in
    rw (← k) (sym (append-nil c.args.block.now.items))
