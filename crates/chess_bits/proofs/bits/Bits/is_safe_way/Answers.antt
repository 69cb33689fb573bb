-- That `any` finds no attacked square among the members of `way` is the same as that each of the 64 squares is outside
-- `way` or not attacked (none_of of CastlingBySets).
use Rattle.std.proofs.Common.{rules, ◌≡◌, ℕ, Bool, not, ap, ◌∙◌}
use Rattle.chess_base.specs.{Attacks.is_attacked, Men.other}
use Rattle.chess_bits.proofs.CastlingBySets.{none_of}
use Rattle.chess_bits.proofs.bits.Bits.is_safe_way.Goals as goal

pub returns : goal.returns
returns c =
    let p = c.args.self.now in
    let by : c.other-by.result ≡ other p.side = rw (← c.self.view_is) c.other-by.ensures in
    let q : ℕ → Bool = λ x. is_attacked p.men x (other p.side) in
    ap not (c.any.ensures q (λ k low on r e. search rules)) ∙ none_of q c.args.way
