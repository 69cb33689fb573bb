-- The result is whether a legal move begins on the square: the legal moves to all its targets are those from it
-- (from_targets of Listed), and there are some exactly if there are some to one of the targets (any_of of Counted).
use Rattle.std.proofs.Common.{nat_lt, length, ap, ◌∙◌, rules}
use Rattle.chess_moves.specs.{shared.MovesBySquares.moves_between, Sets.members}
use Rattle.chess_bits.proofs.{Counted.any_of, Listed.from_targets}
use Rattle.chess_bits.proofs.bits.Bits.has_move_from.Goals as goal

pub returns : goal.returns
returns c =
    let p = c.args.self.now in
    let a = c.args.from in
    c.any.ensures (λ b. nat_lt 0 (length (moves_between p a b))) (λ k low on r e. search rules)
    ∙ any_of (λ b. moves_between p a b) (members c.targets.result)
    ∙ ap (λ ms. nat_lt 0 (length ms)) (from_targets p a c.targets.result c.targets.ensures.complete)
