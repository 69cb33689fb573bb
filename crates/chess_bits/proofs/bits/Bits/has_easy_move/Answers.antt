-- If a knight that is free has a legal move, or the ordinary pawns have one, there is one: the legal moves of some
-- pieces are among all legal moves (some_of of Counted).
use Rattle.std.proofs.Common.{nat_lt, length, sym, ap, ◌∙◌, rules}
use Rattle.chess_moves.specs.{shared.MovesBySquares.moves_from, Sets.members}
use Rattle.chess_bits.proofs.Counted.{any_of, some_of}
use Rattle.chess_bits.proofs.bits.Bits.has_easy_move.Goals as goal

pub returns-then-any : goal.returns-then-any
returns-then-any c = λ _.
    let p = c.args.self.now in
    let some = c.any.ensures (λ a. nat_lt 0 (length (moves_from p a))) (λ k low on r e. search rules)
    ∙ any_of (λ a. moves_from p a) (members c.intersection-knights.result) in
    sym (some_of p c.intersection-knights.result (sym some ∙ c.if-any.true))

pub returns : goal.returns
returns c = λ some.
    sym (some_of c.args.self.now c.intersection-pawns.result (sym (ap (λ n. nat_lt 0 n) c.count_ordinary_pawns.ensures) ∙ some))
