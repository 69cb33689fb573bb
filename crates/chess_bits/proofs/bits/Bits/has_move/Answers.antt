-- The result is whether there is a legal move. If `has_easy_move` finds one, or the king has one (some_from of
-- Counted), there is one. Otherwise all own pieces are asked, whose moves are all legal moves (from_men of Listed).
-- What `count_king` requires: a king is on the square that `king` returns.
use Rattle.std.proofs.Common.{◌≡◌, ◌<◌, ℕ, nat_lt, length, refl, sym, ap, subst, ◌∙◌, rules, eq-eqb}
use Rattle.chess_base.specs.Men.{man_at, is_of}
use Rattle.chess_moves.specs.{shared.MovesBySquares.moves_from, Sets.contains, Sets.members}
use Rattle.chess_bits.proofs.{Counted.any_of, Counted.some_from, Listed.from_men}
use Rattle.chess_bits.proofs.bits.Bits.has_move.Goals as goal

pub returns-then-has_easy_move : goal.returns-then-has_easy_move
returns-then-has_easy_move c = sym (c.has_easy_move.ensures c.if-has_easy_move.true)

pub count_king-requires : goal.count_king-requires
count_king-requires c =
    let alone = rw (← c.self.view_is) at c.king-king.ensures.alone in
    rw (← c.self.view_is)
    (alone c.king-king.result c.king-king.ensures.in_range ∙ eq-eqb c.king-king.result c.king-king.result refl)

pub returns-then-count_king-gt0 : goal.returns-then-count_king-gt0
returns-then-count_king-gt0 c =
    some_from c.args.self.now c.king-king.result c.king-king.ensures.in_range
    (subst (λ n. 0 < n) c.count_king.ensures c.if-count_king-gt0.true)

pub returns : goal.returns
returns c =
    let p = c.args.self.now in
    let own : (k : ℕ) → k < 64 → contains c.all.result k ≡ is_of p.side (man_at p.men k) =
    rw (← c.self.view_is) (c.all.ensures c.self.inside.setup.men c.self.invariant.1) in
    c.any.ensures (λ a. nat_lt 0 (length (moves_from p a))) (λ k low on r e. search rules)
    ∙ any_of (λ a. moves_from p a) (members c.all.result)
    ∙ ap (λ ms. nat_lt 0 (length ms)) (from_men p c.all.result own)
