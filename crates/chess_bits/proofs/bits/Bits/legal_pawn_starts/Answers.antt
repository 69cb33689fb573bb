-- What `safe_starts` requires, where `to` is neither the en passant target nor on the last rank: each move of a pawn of
-- `pawns_to` there is pseudo-legal and changes its two squares alone (pawns_plain of PawnStarts).
use Rattle.std.proofs.Common.{◌≡◌, ◌<◌, ◌==◌, false, sym, subst, ◌∙◌}
use Rattle.chess_base.specs.{Men.first_rank, Men.other, Squares.is_at, Squares.rank}
use Rattle.chess_bits.proofs.PawnStarts.{pawns_plain}
use Rattle.chess_bits.proofs.bits.Bits.legal_pawn_starts.Goals as goal

pub safe_starts-requires : goal.safe_starts-requires
safe_starts-requires c =
    let p = c.args.self.now in
    let high : c.args.to < 64 = subst (λ n. n < 64) c.number-end.ensures.value c.number-end.ensures.in_range in
    let off : (rank c.args.to == first_rank (other p.side)) ≡ false =
    sym c.is_on_last_rank.ensures ∙ c.if-is_on_last_rank.false in
    let free : is_at p.target c.args.to ≡ false = rw (← c.self.view_is, ← c.is_at.ensures) c.if-is_at.false in
    pawns_plain p c.args.to c.pawns_to-men.result high off free c.pawns_to-men.ensures
