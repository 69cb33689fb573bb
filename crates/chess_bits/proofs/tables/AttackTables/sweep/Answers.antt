-- The result has just the squares of the ray with no occupied square between (`is_open`): the ray without the one that
-- continues from its first blocker or, without a blocker, from the board's last square, where no ray continues
-- (swept_to of Blockers).
use Rattle.std.proofs.Common.{◌≡◌, ℕ, ◌<◌, ◌&&◌, ap, ◌∙◌}
use Rattle.chess_moves.specs.Sets.{contains}
use Rattle.chess_bits.specs.{ties.Shapes.in_shape, ties.Rays.is_on_ray}
use Rattle.chess_bits.proofs.Blockers.{swept_to}
use Rattle.chess_bits.proofs.tables.AttackTables.sweep.Goals as goal

pub returns : goal.returns
unfolding in_shape
returns c =
    λ k h.
    let on : (x : ℕ) → x < 64 → contains c.at-all.result x ≡ is_on_ray c.args.line c.args.up c.args.from x =
    λ x m. (rw c.table-ray.ensures at (c.at-all.ensures x m)) in
    let past : contains c.at.result k ≡ is_on_ray c.args.line c.args.up c.nearest.result k =
    (rw c.table-ray.ensures at (c.at.ensures k h)) in
    c.without.ensures k h ∙ rw (on k h, past)
    (swept_to c.args.line c.args.up c.args.from k c.args.occupied c.intersection-blockers.result c.nearest.result
    c.nearest.ensures.in_range h
    (λ x m. c.intersection-blockers.ensures x ∙ ap (λ t. t && contains c.args.occupied x) (on x m))
    c.nearest.ensures.nearer c.nearest.ensures.beyond)
