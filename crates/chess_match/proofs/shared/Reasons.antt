-- A match that is over by a failed write to a side is over for no other reason: whatever its reason is,
-- `is_write_fault_of` is true of it and that side (`unwritten`).
use Rattle.std.proofs.Common.{◌≡◌, true, sym, ap, ◌∙◌}
use Rattle.chess_base.specs.declared.man.Colour.{Colour}
use Rattle.chess_base.proofs.shared.Men.{same_colour-self}
use Rattle.chess_match.specs.{Effects.Over, Reasons.is_write_fault_of, declared.reason.MatchFault.TheVariants.Write, declared.reason.Reason.Reason, declared.reason.Reason.TheVariants.Faulted}

-- the reason of a match that is over by a failed write to S is such a failed write
pub unwritten : (S : Colour) (reason : Reason) → Over (Faulted S Write) ≡ Over reason → is_write_fault_of reason S ≡ true
unwritten S reason e = let same : Faulted S Write ≡ reason = cc in
    ap (λ (x : Reason). is_write_fault_of x S) (sym same) ∙ same_colour-self S
