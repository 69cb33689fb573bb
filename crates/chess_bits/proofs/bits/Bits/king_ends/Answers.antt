-- The result has just the ends of the king's legal moves: each such move is a legal castling or a legal step
-- (steps_or_castles of KingListed), and the result joins the ends of both.
use Rattle.std.proofs.Common.{◌≡◌, ◌&&◌, ◌||◌, inl, inr, None, ap, rules, ◌∙◌, ◌<◌, subst, sym, true}
use Rattle.std.proofs.lemmas.Bool.{cases_Bool}
use Rattle.chess_base.specs.{MoveList.move_of, Moves.is_legal, Moves.man_moves}
use Rattle.chess_bits.proofs.{KingListed.steps_or_castles, KingSteps.steps_are}
use Rattle.chess_moves.specs.Sets.{contains}
use Rattle.chess_bits.proofs.bits.Bits.king_ends.Goals as goal

pub returns : goal.returns
returns c = λ k low.
    let p = c.args.self.now in
    let a = c.args.king in
    let start : a < 64 = subst (λ n. n < 64) c.number-start.ensures.value c.number-start.ensures.in_range in
    let step : contains c.targets_by_attack-steps.result k ≡ man_moves p (move_of a k None) =
    c.targets_by_attack-steps.ensures k low ∙ steps_are p a k c.requires in
    let safe : contains c.filter-safe.result k
    ≡ (contains c.targets_by_attack-steps.result k && is_legal p (move_of a k None)) =
    elim (cases_Bool (contains c.targets_by_attack-steps.result k)) [
      | inl on ↦
          let king = c.requires in
          let moves : man_moves p (move_of a k None) ≡ true = sym step ∙ on in
          let tested = c.filter-safe.ensures.inside k low on in
          rw on (search rules)
      | inr off ↦ rw off (c.filter-safe.ensures.outside k low off)
    ] in
    c.union.ensures k ∙ ap (λ t. contains c.castling_ends.result k || t) safe
    ∙ steps_or_castles p a k (contains c.castling_ends.result k) (contains c.targets_by_attack-steps.result k)
    c.requires start low
    (c.castling_ends.ensures k low) step
