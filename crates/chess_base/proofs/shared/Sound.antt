-- For crates that read positions: a setup of 64 squares is sound exactly if it has no fault (IsSound-from_no_fault,
-- no_fault_from_IsSound), condition by condition. If letters may name rights wrongly, the first fault is as if that
-- were a condition of its own, before the one of rights (first_failing-conditions_if).
use Rattle.std.proofs.Common.{◌≡◌, Bool, true, false, not, ◌&&◌, cond, ◌∷◌, ◌++◌, take, drop, Option, Some, None, length, refl}
use Rattle.std.proofs.lemmas.Bool.{and_parts}
use Rattle.chess_base.specs.{declared.man.Colour.TheVariants.White, declared.man.Colour.TheVariants.Black, declared.setup.Setup.Setup, declared.fen_fault.FenFault.FenFault, Men.other, Attacks.is_in_check, shared.Parts.counters_fit}
use Rattle.chess_base.specs.declared.fen_fault.FenFault.TheVariants.{Counters, Kings, Pawns, Men, Castling, EnPassant, Check}
use Rattle.chess_base.specs.Sound.{IsSound, has_one_king, no_pawn_on_end_ranks, has_at_most_16, target_is_sound}
use Rattle.chess_base.specs.Faults.{conditions, conditions_if, first_failing, rights_are_sound, setup_fault}

-- where the first fault of a list is none, its first test passes, and the rest has no fault
passes : (a : Bool) (f : FenFault) (rest : Option FenFault) → cond a rest (Some f) ≡ None → (a ≡ true) × (rest ≡ None)
passes true f rest e = (refl, e)
passes false f rest e = cc

-- a position without a fault is sound
pub IsSound-from_no_fault : (p : Setup) → length p.men ≡ 64 → setup_fault p ≡ None → IsSound p
unfolding setup_fault rights_are_sound
IsSound-from_no_fault p l e =
    let counters = passes (counters_fit p) Counters _ e in
    let kings = passes (has_one_king p.men White && has_one_king p.men Black) Kings _ counters.1 in
    let pawns = passes (no_pawn_on_end_ranks p.men) Pawns _ kings.1 in
    let men = passes (has_at_most_16 p.men White && has_at_most_16 p.men Black) Men _ pawns.1 in
    let castling = passes (rights_are_sound p) Castling _ men.1 in
    let passed = passes (target_is_sound p) EnPassant _ castling.1 in
    let calm = passes (not (is_in_check p.men (other p.side))) Check _ passed.1 in
    let c2 = and_parts _ _ counters.0 in
    let c1 = and_parts _ _ c2.0 in
    let k = and_parts _ _ kings.0 in
    let m = and_parts _ _ men.0 in
    let r3 = and_parts _ _ castling.0 in
    let r2 = and_parts _ _ r3.0 in
    let r1 = and_parts _ _ r2.0 in
    record {
      board = l;
      white_king = k.0;
      black_king = k.1;
      pawns = pawns.0;
      white_men = m.0;
      black_men = m.1;
      white_king_side = r1.0;
      white_queen_side = r1.1;
      black_king_side = r2.1;
      black_queen_side = r3.1;
      target = passed.0;
      check = calm.0;
      halfmove = c1.0;
      fullmove_low = c1.1;
      fullmove_high = c2.1;
    }

-- the first fault is the same if the condition that letters name rights well (`named`) is one of its own, right before
-- the one that the rights are sound
pub first_failing-conditions_if : (named : Bool) (p : Setup) → first_failing (conditions_if named p)
    ≡ first_failing (take 4 (conditions p) ++ ((Castling, named) ∷ drop 4 (conditions p)))
first_failing-conditions_if true p = refl
first_failing-conditions_if false p = refl

-- a sound position has no fault
pub no_fault_from_IsSound : (p : Setup) → IsSound p → setup_fault p ≡ None
unfolding setup_fault rights_are_sound
no_fault_from_IsSound p h =
    rw (
      h.halfmove,
      h.fullmove_low,
      h.fullmove_high,
      h.white_king,
      h.black_king,
      h.pawns,
      h.white_men,
      h.black_men,
      h.white_king_side,
      h.white_queen_side,
      h.black_king_side,
      h.black_queen_side,
      h.target,
      h.check,
    ) refl
