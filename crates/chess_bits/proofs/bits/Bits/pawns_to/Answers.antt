-- The result has just the pawns that advance or capture to the square: on a pawn's square `advance_starts` is whether
-- it advances there by its contract, and `capture_starts` whether it captures there (captures_are of PawnStarts).
use Rattle.std.proofs.Common.{◌≡◌, ◌&&◌, ◌||◌, None, refl, ap, ◌∙◌}
use Rattle.chess_base.specs.{Men.is_man, Men.man_at, declared.man.Kind.TheVariants.Pawn, MoveList.move_of, Moves.pawn_advances, Moves.pawn_captures}
use Rattle.chess_moves.specs.Sets.{contains}
use Rattle.chess_bits.proofs.PawnStarts.{captures_are, held}
use Rattle.chess_bits.proofs.bits.Bits.pawns_to.Goals as goal

pub returns : goal.returns
returns c = λ k low.
    let p = c.self.inside.setup in
    let own : contains c.men_of-own.result k ≡ is_man p.side Pawn (man_at p.men k) =
    rw (← c.self.view_is) at (c.men_of-own.ensures k low) in
    let straight = rw (← c.self.view_is) at (c.advance_starts.ensures k low) in
    let aslant = rw (← c.self.view_is) at (c.capture_starts.ensures k low) in
    rw (← c.self.view_is)
    (c.intersection.ensures k ∙ ap (λ t. t && contains c.union-starts.result k) own
    ∙ held (is_man p.side Pawn (man_at p.men k)) (contains c.union-starts.result k)
    (pawn_advances p (move_of k c.args.to None) || pawn_captures p (move_of k c.args.to None))
    (λ pawn. c.union-starts.ensures k ∙ rw (straight pawn, aslant, captures_are p k c.args.to pawn) refl))
