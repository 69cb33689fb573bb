-- The result has each square between king and enemy piece, that piece's square, and the en passant target. If some
-- square is between, the two are on one line (line_between of Pins), so the table has just the squares between them.
use Rattle.std.proofs.Common.{◌≡◌, ◌==◌, ◌||◌, ◌<◌, inl, inr, subst, ◌∙◌}
use Rattle.std.proofs.lemmas.Bool.{or_cases, or_left, or_right}
use Rattle.chess_base.specs.Squares.{is_between, is_at}
use Rattle.chess_moves.specs.Sets.{contains}
use Rattle.chess_bits.proofs.Pins.{line_between}
use Rattle.chess_bits.proofs.bits.Bits.evasions.Goals as goal

pub returns : goal.returns
returns c = λ k low h.
    let king : c.args.king < 64 =
    subst (λ n. n < 64) c.number-king.ensures.value c.number-king.ensures.in_range in
    let from : c.args.from < 64 =
    subst (λ n. n < 64) c.number-from.ensures.value c.number-from.ensures.in_range in
    let target : contains c.set_of.result k ≡ is_at c.args.self.now.target k =
    rw (← c.self.view_is) (c.set_of.ensures k) in
    c.union.ensures k
    ∙ elim
    (or_cases (is_between c.args.king c.args.from k || (k == c.args.from)) (is_at c.args.self.now.target k) h) [
      | inr passing ↦ or_right (contains c.union-met.result k) (contains c.set_of.result k)
          (target ∙ passing)
      | inl near ↦
          or_left (contains c.union-met.result k) (contains c.set_of.result k)
          (c.union-met.ensures k
          ∙ elim (or_cases (is_between c.args.king c.args.from k) (k == c.args.from) near) [
            | inl inside ↦
                let line = line_between c.args.king c.args.from k king from low inside in
                or_left (contains c.between-between.result k) (contains c.single.result k)
                (c.between-between.ensures line.0 line.1 k low ∙ inside)
            | inr there ↦ or_right (contains c.between-between.result k) (contains c.single.result k)
                (c.single.ensures.value k ∙ there)
          ])
    ]
