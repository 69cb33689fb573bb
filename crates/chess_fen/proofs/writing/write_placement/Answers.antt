-- The invariant holds at first, where nothing is appended, and after a rank and its slash: the text so far, with that
-- of the ranks still to come, is the text of all eight (more_ranks of WrittenRanks). A rank takes at most eight bytes
-- and a slash, and the last has no slash: 71 bytes at most.
use Rattle.std.proofs.Common.{◌≡◌, ◌-◌, ◌+◌, ◌*◌, take, drop, refl, ap, arith}
use Rattle.chess_fen.specs.Writing.{placement_text}
use Rattle.chess_fen.proofs.WrittenRanks.{more_ranks}
use Rattle.chess_fen.proofs.writing.write_placement.Goals as goal

pub loop-rank-init : goal.loop-rank-init
unfolding placement_text
loop-rank-init c = record { text = refl; len = omega arith; last = λ e. omega arith }

pub loop-rank-preserved-then-rank-gt0 : goal.loop-rank-preserved-then-rank-gt0
loop-rank-preserved-then-rank-gt0 c =
    let men = c.args.men.now in
    let from = 8 * (c.loop-rank.rank - 1) in
    let eight : (from + 8) - from ≡ 8 = omega arith in
    record {
      text = more_ranks c.loop-rank.rank men (take ((from + 8) - from) (drop from men)) c.loop-rank.out.items
          c.write_rank.new.out.items c.push.new.self.items _ c.if-rank-gt0.true c.loop-rank.invariant.text
          (ap (λ n. take n (drop from men)) eight) c.write_rank.ensures.text c.push.ensures.items;
      len = omega arith;
      last = λ e. omega arith;
    }
