-- The sum of the four sets is the number of these pawns' legal moves: each pawn has one for each of the four ways (one
-- step, two steps, a capture left or right) that is open to it (pawns_counted of PawnsCounted), and the sets computed
-- are those of the pawns to which each way is open (ways_are).
use Rattle.std.proofs.Common.{◌≡◌, ◌<◌, ◌==◌, ℕ, true, false, ap, ◌∙◌}
use Rattle.chess_base.specs.{declared.man.Kind.TheVariants.Pawn, Men.man_at, Men.is_of, Squares.rank}
use Rattle.chess_moves.specs.Sets.{contains}
use Rattle.chess_bits.specs.ties.Goes.{goes_specially, AreFree}
use Rattle.chess_bits.proofs.PawnsCounted.{AreSets, summed, ways_are, pawns_counted}
use Rattle.chess_bits.proofs.bits.Bits.count_ordinary_pawns.Goals as goal

pub returns : goal.returns
returns c =
    let p = c.self.inside.setup in
    let free : AreFree p Pawn c.args.pawns = rw c.self.view_is c.requires.free in
    let ordinary : (k : ℕ) → k < 64 → contains c.args.pawns k ≡ true → goes_specially p k ≡ false =
    rw c.self.view_is c.requires.ordinary in
    let sets : AreSets p c.args.pawns c.occupied.result c.behind-blocked.result c.behind.result c.of_rank-home.result
    c.all-theirs.result c.attacking_left.result c.attacking_right.result c.without-once.result c.intersection.result
    c.without-twice.result c.intersection-left.result c.intersection-right.result = record {
      all = (c.occupied.ensures p.men c.self.invariant.1).of_men;
      blocked = c.behind-blocked.ensures;
      further = c.behind.ensures;
      home = λ k low. c.of_rank-home.ensures k low ∙ ap (λ n. rank k == n) c.pawn_rank.ensures;
      theirs = λ k low.
          c.all-theirs.ensures p.men c.self.invariant.1 k low ∙ ap (λ o. is_of o (man_at p.men k)) c.other.ensures;
      from_left = c.attacking_left.ensures;
      from_right = c.attacking_right.ensures;
      once = c.without-once.ensures;
      both = c.intersection.ensures;
      twice = c.without-twice.ensures;
      left = c.intersection-left.ensures;
      right = c.intersection-right.ensures;
    } in
    let alone = rw (← c.self.view_is) at c.king-king.ensures.alone in
    let ways = ways_are p c.args.pawns _ _ _ _ _ _ _ _ _ _ _ _ c.self.invariant.0 free ordinary sets in
    rw (← c.self.view_is)
    (summed c.len.ensures c.len-2.ensures c.len-3.ensures c.len-4.ensures
    ∙ pawns_counted p c.king-king.result c.args.pawns c.without-once.result c.without-twice.result
    c.intersection-left.result c.intersection-right.result c.self.invariant.0 c.king-king.ensures.in_range
    alone free ordinary ways)
