-- A byte's run puts its squares after those read so far. With fewer than eight the invariant is kept (more of
-- RankBytes), with eight the rank is read (whole); with more, or where the text ends before, no rank is read (overfull,
-- cut_short of RankBytes).
use Rattle.std.proofs.Common.{◌≡◌, ◌+◌, ◌<◌, arith}
use Rattle.chess_fen.proofs.RankBytes.{more, whole, overfull, cut_short}
use Rattle.chess_fen.proofs.rank.read_rank.Goals as goal

pub returns-then-file-eq8-clause-read : goal.returns-then-file-eq8-clause-read
returns-then-file-eq8-clause-read c =
    let run = c.run_of-run.result in
    let all : c.loop-index.file + run.squares ≡ 8 = omega arith in
    rw c.split_at.ensures.back
    (whole c.args.text.now c.loop-index.row c.loop-index.file c.loop-index.index run c.loop-index.invariant
    c.loop-index-test.true c.run_of-run.ensures.squares c.run_of-run.ensures.some all)

pub returns-else-file-eq8-clause-none : goal.returns-else-file-eq8-clause-none
returns-else-file-eq8-clause-none c =
    let run = c.run_of-run.result in
    let over : 8 < c.loop-index.file + run.squares = omega arith in
    overfull c.args.text.now c.loop-index.row c.loop-index.file c.loop-index.index run c.loop-index.invariant
    c.loop-index-test.true c.run_of-run.ensures.squares c.run_of-run.ensures.some over

pub loop-index-preserved : goal.loop-index-preserved
loop-index-preserved c =
    let run = c.run_of-run.result in
    let under : c.loop-index.file + run.squares < 8 = omega arith in
    more c.args.text.now c.loop-index.row c.loop-index.file c.loop-index.index run c.loop-index.invariant
    c.loop-index-test.true c.run_of-run.ensures.squares c.run_of-run.ensures.some under

pub returns-clause-none : goal.returns-clause-none
returns-clause-none c =
    cut_short c.args.text.now c.loop-index.row c.loop-index.file c.loop-index.index c.loop-index.invariant
    (omega arith)
