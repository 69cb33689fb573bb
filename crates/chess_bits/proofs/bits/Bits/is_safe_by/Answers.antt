-- The result is whether the move is legal, as `is_safe_at` answers it: the squares that the steps fill and change are
-- the move's, and `king` is where the king is after it (`king_after`).
use Rattle.std.proofs.Common.{◌≡◌, ◌==◌, ◌||◌, ℕ, ◌<◌, refl, ap, ◌∙◌}
use Rattle.chess_base.specs.{declared.steps.Steps.Steps, Squares.is_at}
use Rattle.chess_moves.specs.Sets.{contains}
use Rattle.chess_bits.specs.ties.Changes.{is_changed, is_filled}
use Rattle.chess_bits.proofs.bits.Bits.is_safe_by.Goals as goal

pub returns : goal.returns
returns c = λ m pattern steps.
    let p = c.args.self.now in
    let filled : (k : ℕ) → k < 64 → contains c.filled_by-filled.result k ≡ is_filled p m k =
    λ k low. c.filled_by-filled.ensures k
    ∙ ap (λ (t : Steps). (t.to == k) || is_at t.second_to k) steps in
    let emptied : (k : ℕ) → contains c.emptied_by.result k ≡ _ =
    λ k. c.emptied_by.ensures k
    ∙ ap (λ (t : Steps). is_at t.second_from k || (t.from == k)) steps in
    let changed : (k : ℕ) → k < 64 → contains c.union-changed.result k ≡ is_changed p m k =
    λ k low. c.union-changed.ensures k ∙ rw (filled k low, emptied k) refl in
    c.is_safe_at.ensures m pattern c.king_after-king.ensures.in_range (c.king_after-king.ensures.there m pattern steps)
    filled changed
