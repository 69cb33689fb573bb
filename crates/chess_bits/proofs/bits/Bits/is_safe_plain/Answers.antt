-- The result is whether the move is legal, with whatever promotion, as `is_safe_at` answers it: such a move fills its
-- end square and changes its two squares (fills_end and changes_both of Quiet), and the king stays where it is
-- (king_stays of KingAfter), since no king arrives (no_king_arrives of Pins).
use Rattle.std.proofs.Common.{◌≡◌, ◌==◌, ◌||◌, ℕ, ◌<◌, ap, ◌∙◌}
use Rattle.chess_base.specs.MoveList.{move_of}
use Rattle.chess_base.proofs.shared.MoveKinds.{moves_from_pattern}
use Rattle.chess_moves.specs.Sets.{contains}
use Rattle.chess_bits.specs.ties.Changes.{is_changed, is_filled}
use Rattle.chess_bits.proofs.{Pins.no_king_arrives, KingAfter.king_stays, Quiet.fills_end, Quiet.changes_both}
use Rattle.chess_bits.proofs.bits.Bits.is_safe_plain.Goals as goal

pub returns : goal.returns
returns c =
    let p = c.self.inside.setup in
    let alone = rw (← c.self.view_is) at c.king-king.ensures.alone in
    let safe = rw (← c.self.view_is) at c.is_safe_at.ensures in
    rw (← c.self.view_is)
    (λ promotion plain.
    let m = move_of c.args.from c.args.to promotion in
    let filled : (k : ℕ) → k < 64 → contains c.single-filled.result k ≡ is_filled p m k =
    λ k low. c.single-filled.ensures.value k ∙ fills_end p m k plain.no_king plain.no_passing in
    let changed : (k : ℕ) → k < 64 → contains c.union-changed.result k ≡ is_changed p m k =
    λ k low. c.union-changed.ensures k
    ∙ ap (λ t. contains c.single-filled.result k || t) (c.single.ensures.value k)
    ∙ ap (λ t. t || (k == c.args.from)) (c.single-filled.ensures.value k)
    ∙ changes_both p m k plain.no_king plain.no_passing in
    let there = king_stays p m c.king-king.result c.self.invariant.0 plain.pattern alone
    (no_king_arrives p m plain.no_king (moves_from_pattern p m plain.pattern).kind) in
    safe m plain.pattern c.king-king.ensures.in_range there filled changed)
