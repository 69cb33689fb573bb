-- Either both engines were started, each with its text (MemorySteps.both_start), or none, with the fault of this start
-- (none_starts): so the step is one that might come next.
use Rattle.std.proofs.{Common.refl, lemmas.Result.err_from_is_err_and}
use Rattle.match_runner.proofs.MemorySteps.{both_start, none_starts}
use Rattle.match_runner.proofs.memory_host.MemoryHostHost.start.Goals as goal

pub returns-in_err-starts-clause-passes : goal.returns-in_err-starts-clause-passes
returns-in_err-starts-clause-passes c =
    let p = err_from_is_err_and c.from_residual.result c.from_residual.ensures.1 in
    rw (p.1, p.2)
    (none_starts _ _ _ _ _ c.in_err-starts.field-0.0 refl refl refl c.in_err-starts.ensures.cause)

pub returns-in_default-clause-passes : goal.returns-in_default-clause-passes
returns-in_default-clause-passes c =
    let t = c.in_ok-starts.ensures in
    let s = c.in_default.ensures in
    none_starts _ _ _ _ _ _ s.engines s.moments s.same (rw (t.white_text, t.black_text) refl)

pub returns-clause-passes : goal.returns-clause-passes
returns-clause-passes c =
    let s = c.in_ok-starts.ensures in
    let n = c.in-Ok.ensures in
    both_start _ _ _ _ _ _ _ _ _ _ n.engines n.moments n.noted s.white_command s.black_command s.white_text s.black_text c.ends.ensures c.ends-2.ensures
