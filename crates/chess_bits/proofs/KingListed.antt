-- A king's move without a promotion is legal exactly if it is a legal castling or a legal step (steps_or_castles).
-- Since a king promotes to nothing, its legal moves are one to each square where one of them ends (king_listed), so as
-- many as these squares (king_counted).
use mathlib.Core.Bool.{or-false}
use Rattle.std.proofs.Common.{◌≡◌, ℕ, ◌<◌, inl, inr, Bool, true, false, ◌&&◌, ◌||◌, Option, Some, None, cond, [], ◌∷◌, length, map, refl, sym, ap, ◌∙◌, arith}
use Rattle.std.proofs.{lemmas.List.length-map, lemmas.Bool.cases_Bool}
use Rattle.chess_base.specs.{declared.castling.Castle.Castle, declared.man.Kind.TheVariants.King, declared.setup.Setup.Setup, Castling.castle_of, Men.man_at, Men.is_man, MoveList.move_of, Moves.is_legal, Moves.man_moves}
use Rattle.chess_moves.specs.{shared.MovesBySquares.moves_between, shared.MovesBySquares.moves_from, Promoting.would_promote, Sets.contains, Sets.members}
use Rattle.chess_moves.proofs.shared.Members.{flat_map_members}
use Rattle.chess_bits.specs.ties.Goes.{legal_or}
use Rattle.chess_bits.proofs.{ByKind.king_otherwise, Listed.all_ones, Listed.each_member, Listed.one_between, Patterns.not_promoting, TargetsOf.man_told}

-- a king's move without a promotion is legal exactly if it is a legal castling (`end`) or a step (`step`) that is legal
pub steps_or_castles : (p : Setup) (a b : ℕ) (end step : Bool) → is_man p.side King (man_at p.men a) ≡ true → a < 64 → b < 64
    → end ≡ legal_or p (move_of a b None) (castle_of p (move_of a b None)) false
    → step ≡ man_moves p (move_of a b None)
    → (end || (step && is_legal p (move_of a b None))) ≡ is_legal p (move_of a b None)
steps_or_castles p a b end step king low high ends steps =
    elim (cases_Bool step) [
      | inl there ↦ rw (there, ends) (either (castle_of p (move_of a b None)) (is_legal p (move_of a b None)) refl)
      | inr away ↦
          rw (away, or-false end) (ends ∙ king_otherwise p a b king low high (sym steps ∙ away))
    ]
  where
    either : (o : Option Castle) (t : Bool) → t ≡ is_legal p (move_of a b None)
        → (legal_or p (move_of a b None) o false || (true && t)) ≡ t
    either None t e = refl
    either (Some castle) t e = rw (← e) (grind arith)

king_stays_king : (p : Setup) (a b : ℕ) → is_man p.side King (man_at p.men a) ≡ true → would_promote p a b ≡ false
king_stays_king p a b king = not_promoting p a b _ (man_told p.side King (man_at p.men a) king) refl

-- a king promotes nothing, so it has one legal move to each square where one ends
pub king_listed : (p : Setup) (a w : ℕ) → is_man p.side King (man_at p.men a) ≡ true
    → ((k : ℕ) → k < 64 → contains w k ≡ is_legal p (move_of a k None))
    → moves_from p a ≡ map (λ b. move_of a b None) (members w)
unfolding moves_from
king_listed p a w king ends =
    sym (flat_map_members (λ b. moves_between p a b) w
    (λ b low out. one_between p a b (king_stays_king p a b king)
    ∙ ap (λ t. cond t (move_of a b None ∷ []) []) (sym (ends b low) ∙ out)))
    ∙ all_ones (λ b. moves_between p a b) (λ b. move_of a b None) (members w)
    (each_member w (λ b. moves_between p a b ≡ move_of a b None ∷ [])
    (λ b low on. one_between p a b (king_stays_king p a b king)
    ∙ ap (λ t. cond t (move_of a b None ∷ []) []) (sym (ends b low) ∙ on)))

-- so a king has as many legal moves as there are squares where one ends
pub king_counted : (p : Setup) (a w : ℕ) → is_man p.side King (man_at p.men a) ≡ true
    → ((k : ℕ) → k < 64 → contains w k ≡ is_legal p (move_of a k None)) → length (members w) ≡ length (moves_from p a)
king_counted p a w king ends = sym (ap length (king_listed p a w king ends)
    ∙ length-map (members w) (λ b. move_of a b None))
