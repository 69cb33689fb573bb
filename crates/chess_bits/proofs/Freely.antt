-- Each pseudo-legal move of a free piece (`IsFree`: its king is not attacked even with the piece taken off the board)
-- is legal, promotions and en passant left aside (free_is_legal, by stays_safe of Quiet). If it is ordinary too, which
-- is no pawn or one that neither promotes nor takes en passant (ordinary_from), each square to which it goes gives one
-- legal move (free_listed). Without check, a piece other than the king is free if no line to the king opens when it
-- leaves (freed).
use Rattle.std.proofs.Common.{◌≡◌, ℕ, ◌+◌, ◌<◌, ◌≤◌, ◌⊎◌, inl, inr, Bool, true, false, not, ◌&&◌, ◌||◌, ◌==◌, Option, Some, None, cond, [], ◌∷◌, map, refl, sym, ap, ◌∙◌, subst, arith}
use Rattle.std.proofs.lemmas.Bool.{and_parts, and_from, and_right, or_cases, or_left, or_right, or_parts, eqb-false, eqb-true, eq-eqb, ne_eqb, cases_Bool, and_left}
use Rattle.chess_base.specs.{declared.man.Colour.Colour, declared.man.Colour.TheVariants.White, declared.man.Colour.TheVariants.Black, declared.man.Kind.Kind, declared.man.Man.Man, declared.man.Move.Move, declared.setup.Setup.Setup, shared.Parts.is_rank_ahead, shared.Splits.could_capture_as, Castling.castle_of, MoveList.move_of, Sound.IsSound, Sound.no_pawn_on_end_ranks}
use Rattle.chess_base.specs.declared.man.Kind.TheVariants.{King, Queen, Rook, Bishop, Pawn}
use Rattle.chess_base.specs.Attacks.{attacks, is_in_check, is_attacked, could_capture}
use Rattle.chess_base.specs.Men.{man_at, same_kind, other, is_of, is_man, forward, first_rank, pawn_rank}
use Rattle.chess_base.specs.Moves.{is_pseudo_legal, is_legal, is_en_passant, men_after, pawn_advances, pawn_captures}
use Rattle.chess_base.specs.Squares.{rank, is_at, share_rank_or_file, share_diagonal}
use Rattle.chess_base.proofs.{shared.Changes.advance_goes, shared.Changes.pawn_attack, shared.Squares.each_square-at, shared.Men.is_of-none}
use Rattle.chess_bits.proofs.{Lifted.lifted_at, AfterSets.check_is, KingAfter.king_stays, KingAfter.check_after, KingAfter.legal_is, OriginsOf.off_lowest, Patterns.pawn_goes, Reached.pawn_from, TargetsOf.man_told, TargetsOf.no_king_castles}
use Rattle.chess_moves.specs.{shared.MovesBySquares.moves_between, shared.MovesBySquares.moves_from, Promoting.would_promote, Sets.contains, Sets.members}
use Rattle.chess_bits.specs.declared.table.Shape.TheVariants as shape
use Rattle.chess_bits.specs.{ties.Shapes.in_shape, ties.Pins.aims_from, ties.Pins.KeepsClosed}
use Rattle.chess_bits.specs.ties.Goes.{goes, aims_at, IsFree, lifted}
use Rattle.chess_bits.proofs.Listed.{all_ones, each_member, from_targets, one_between, unpromoted}
use Rattle.chess_bits.proofs.Quiet.{attacked_before, capture_before, enemy_before, lands_same, plain_by, stays_safe}

-- ---- the king stays safe

-- a free piece's pseudo-legal move is legal, if it is neither a promotion nor en passant
pub free_is_legal : (p : Setup) (a b king : ℕ) → IsSound p → IsFree p a → a < 64 → king < 64
    → ((k : ℕ) → k < 64 → is_man p.side King (man_at p.men k) ≡ (k == king))
    → goes p a b ≡ true → would_promote p a b ≡ false → is_en_passant p (move_of a b None) ≡ false
    → is_legal p (move_of a b None) ≡ true
free_is_legal p a b king sound free low there one go stays no_passing =
    let m = move_of a b None in
    let pattern : is_pseudo_legal p m ≡ true = unpromoted p a b go stays in
    let here : is_man p.side King (man_at p.men king) ≡ true = one king there ∙ eq-eqb king king refl in
    let no_king : is_man p.side King (man_at p.men a) ≡ false = one a low ∙ free.apart king there here in
    let no_castle : castle_of p m ≡ None = no_king_castles p m no_king in
    let plain = plain_by p m pattern no_castle no_passing in
    let safe : is_attacked (men_after p m) king (other p.side) ≡ false =
    stays_safe p m king sound.board low plain (free.safe king there here) in
    let king_there : is_man p.side King (man_at (men_after p m) king) ≡ true =
    king_stays p m king sound pattern one (ap (λ o. is_man p.side King o) (lands_same (man_at p.men a)) ∙ no_king) in
    sym (legal_is p m pattern) ∙ ap not (check_after p m king sound pattern there king_there ∙ safe)

-- ---- what is no pawn, and pawns that neither promote nor take en passant

-- no move of the piece on a promotes or takes en passant
pub record IsOrdinary (p : Setup) (a : ℕ) : Type 0 where
  pub stays : (b : ℕ) → b < 64 → goes p a b ≡ true → would_promote p a b ≡ false
  pub passes : (b : ℕ) → is_en_passant p (move_of a b None) ≡ false

pub no_pawn_ordinary : (p : Setup) (a : ℕ) → is_man p.side Pawn (man_at p.men a) ≡ false → IsOrdinary p a
unfolding would_promote is_en_passant
no_pawn_ordinary p a no_pawn = record { stays = λ b low go. rw no_pawn refl; passes = λ b. rw no_pawn refl }

-- a pawn that is not on its last rank but one does not come to the last rank, by an advance or by a capture
advance_stays : (c : Colour) (a b : ℕ) → 8 ≤ a → a < 64 → (rank a ≡ pawn_rank (other c) → ⊥)
    → (b ≡ forward c a) ⊎ ((rank a ≡ pawn_rank c) × (b ≡ forward c (forward c a)))
    → rank b ≡ first_rank (other c) → ⊥
advance_stays White a b high low off (inl e) = λ last. off (omega (arith, e, last))
advance_stays White a b high low off (inr e) = λ last. absurd (omega (arith, e.0, e.1, last))
advance_stays Black a b high low off (inl e) = λ last. off (omega (arith, e, last, high))
advance_stays Black a b high low off (inr e) = λ last. absurd (omega (arith, e.0, e.1, last))

capture_stays : (c : Colour) (a b : ℕ) → (rank a ≡ pawn_rank (other c) → ⊥) → is_rank_ahead c a b ≡ true
    → rank b ≡ first_rank (other c) → ⊥
capture_stays White a b off ahead = λ last. let e = eqb-true (rank b) (rank a + 1) ahead in off (omega (arith, e, last))
capture_stays Black a b off ahead = λ last. let e = eqb-true (rank a) (rank b + 1) ahead in off (omega (arith, e, last))

-- a pawn that doesn't attack the target doesn't take there
not_taken : (p : Setup) (a b : ℕ) (o : Option ℕ) → is_man p.side Pawn (man_at p.men a) ≡ true
    → aims_at o p.side a ≡ false
    → ((is_man p.side Pawn (man_at p.men a) && attacks p.men a b) && is_at o b) ≡ false
unfolding attacks
not_taken p a b None pawn off = and_right (is_man p.side Pawn (man_at p.men a) && attacks p.men a b) false refl
not_taken p a b (Some t) pawn off =
    elim (cases_Bool (t == b)) [
      | inl same ↦
          let at : t ≡ b = eqb-true t b same in
          let miss : could_capture p.men p.side Pawn a b ≡ false =
          sym (pawn_from p.men p.side a b) ∙ ap (λ s. in_shape (shape.Pawn p.side) a s) (sym at) ∙ off in
          let free : attacks p.men a b ≡ false =
          ap (λ x. could_capture_as p.men x a b) (man_told p.side Pawn (man_at p.men a) pawn) ∙ miss in
          and_left (is_man p.side Pawn (man_at p.men a) && attacks p.men a b) (t == b)
          (and_right (is_man p.side Pawn (man_at p.men a)) (attacks p.men a b) free)
      | inr apart ↦ and_right (is_man p.side Pawn (man_at p.men a) && attacks p.men a b) (t == b) apart
    ]

-- so a pawn that is not on that rank, and does not attack the target, is ordinary
pub pawn_ordinary : (p : Setup) (a : ℕ) → IsSound p → a < 64 → is_man p.side Pawn (man_at p.men a) ≡ true
    → aims_at p.target p.side a ≡ false → (rank a ≡ pawn_rank (other p.side) → ⊥) → IsOrdinary p a
unfolding would_promote is_en_passant no_pawn_on_end_ranks pawn_captures
pawn_ordinary p a sound low pawn no_target off = record {
  stays = λ b high go. and_right (is_man p.side Pawn (man_at p.men a)) (rank b == first_rank (other p.side))
      (ne_eqb (rank b) (first_rank (other p.side)) (last b high go));
  passes = λ b. not_taken p a b p.target pawn no_target;
}
  where
    last : (b : ℕ) → b < 64 → goes p a b ≡ true → rank b ≡ first_rank (other p.side) → ⊥
    last b high go =
        let told : (pawn_advances p (move_of a b None) || pawn_captures p (move_of a b None)) ≡ true =
        sym (pawn_goes p a b _ (man_told p.side Pawn (man_at p.men a) pawn) refl refl low high) ∙ go in
        elim (or_cases (pawn_advances p (move_of a b None)) (pawn_captures p (move_of a b None)) told) [
          | inl ahead ↦ advance_stays p.side a b (off_lowest p.men p.side a pawn (each_square-at _ sound.pawns a low))
              low off (advance_goes p (move_of a b None) ahead)
          | inr takes ↦
              capture_stays p.side a b off
              (pawn_attack p.men p.side a b pawn (and_parts (attacks p.men a b)
              (is_of (other p.side) (man_at p.men b) || is_at p.target b) takes).0).1
        ]

-- a piece that passes the code's test is ordinary: it is no pawn, or one that is not on the last rank but one and does
-- not attack the target
pub ordinary_from : (p : Setup) (a : ℕ) → IsSound p → a < 64
    → (is_man p.side Pawn (man_at p.men a) && (aims_at p.target p.side a || (rank a == pawn_rank (other p.side))))
    ≡ false → IsOrdinary p a
ordinary_from p a sound low h =
    elim (cases_Bool (is_man p.side Pawn (man_at p.men a))) [
      | inr e ↦ no_pawn_ordinary p a e
      | inl e ↦
          let neither = or_parts (aims_at p.target p.side a) (rank a == pawn_rank (other p.side)) (rw e at h) in
          pawn_ordinary p a sound low e neither.0 (eqb-false (rank a) (pawn_rank (other p.side)) neither.1)
    ]

-- ---- so each square is the end of one legal move

-- a free and ordinary piece has one legal move to each square where it goes
pub free_between : (p : Setup) (a b king : ℕ) → IsSound p → IsFree p a → IsOrdinary p a → a < 64 → b < 64 → king < 64
    → ((k : ℕ) → k < 64 → is_man p.side King (man_at p.men k) ≡ (k == king)) → goes p a b ≡ true
    → moves_between p a b ≡ move_of a b None ∷ []
free_between p a b king sound free ordinary low high there one go =
    let stays = ordinary.stays b high go in
    one_between p a b stays
    ∙ ap (λ t. cond t (move_of a b None ∷ []) [])
    (free_is_legal p a b king sound free low there one go stays (ordinary.passes b))

-- if w is the set of its targets (it goes to each, and each legal move of it ends on one), a free and ordinary piece
-- has one legal move to each square of w
pub free_listed : (p : Setup) (a king w : ℕ) → IsSound p → IsFree p a → IsOrdinary p a → a < 64 → king < 64
    → ((k : ℕ) → k < 64 → is_man p.side King (man_at p.men k) ≡ (k == king))
    → ((k : ℕ) → k < 64 → contains w k ≡ true → goes p a k ≡ true)
    → ((m : Move) → is_legal p m ≡ true → m.from ≡ a → contains w m.to ≡ true)
    → moves_from p a ≡ map (λ b. move_of a b None) (members w)
free_listed p a king w sound free ordinary low there one sets all =
    sym (from_targets p a w all)
    ∙ all_ones (λ b. moves_between p a b) (λ b. move_of a b None) (members w)
    (each_member w (λ b. moves_between p a b ≡ move_of a b None ∷ [])
    (λ b high h. free_between p a b king sound free ordinary low high there one (sets b high h)))

-- ---- the set of the free pieces

-- what holds of the square `king` holds of each square with a king of the side on move
at_king : (p : Setup) (a king : ℕ) (P : ℕ → Type 0)
    → ((k : ℕ) → k < 64 → is_man p.side King (man_at p.men k) ≡ (k == king)) → P king
    → (k : ℕ) → k < 64 → is_man p.side King (man_at p.men k) ≡ true → P k
at_king p a king P one h k low man = subst P (sym (eqb-true k king (sym (one k low) ∙ man))) h

-- a piece of colour c that is of kind j or k passes one of the tests for these kinds
of_kinds : (c : Colour) (x : Man) (j k : Kind) → is_of c (Some x) ≡ true
    → (same_kind j x.kind || same_kind k x.kind) ≡ true → (is_man c j (Some x) || is_man c k (Some x)) ≡ true
unfolding is_of is_man
of_kinds c x j k own h = rw own h

-- an enemy on b that could capture the king with the piece on a taken off could so before, if this opens no line of b's
hits_before : (p : Setup) (a b king : ℕ) (o : Option Man) → man_at p.men b ≡ o → is_of (other p.side) o ≡ true
    → (aims_from p b king ≡ true → KeepsClosed p a b king)
    → could_capture_as (lifted p.men a) o b king ≡ true → could_capture_as p.men o b king ≡ true
hits_before p a b king None at own keeps e = cc
hits_before p a b king (Some x) at own keeps e =
    capture_before p.men (lifted p.men a) x.colour x.kind b king
    (λ h on. keeps (or_left (straight && (not (b == king) && share_rank_or_file b king))
    (aslant && (not (b == king) && share_diagonal b king))
    (and_from straight _ (rw at (of_kinds (other p.side) x Rook Queen own h)) on)))
    (λ h on. keeps (or_right (straight && (not (b == king) && share_rank_or_file b king))
    (aslant && (not (b == king) && share_diagonal b king))
    (and_from aslant _ (rw at (of_kinds (other p.side) x Bishop Queen own h)) on))) e
  where
    straight : Bool
    straight = is_man (other p.side) Rook (man_at p.men b) || is_man (other p.side) Queen (man_at p.men b)

    aslant : Bool
    aslant = is_man (other p.side) Bishop (man_at p.men b) || is_man (other p.side) Queen (man_at p.men b)

-- so a piece (not the king) is free if there is no check, and no enemy's line to the king opens when the piece leaves
pub freed : (p : Setup) (a king : ℕ) → IsSound p → a < 64 → king < 64 → is_in_check p.men p.side ≡ false
    → ((k : ℕ) → k < 64 → is_man p.side King (man_at p.men k) ≡ (k == king))
    → (a == king) ≡ false → ((b : ℕ) → b < 64 → aims_from p b king ≡ true → KeepsClosed p a b king) → IsFree p a
freed p a king sound low there calm one out keeps = record {
  apart = at_king p a king (λ k. (a == k) ≡ false) one out;
  safe = at_king p a king (λ k. is_attacked (lifted p.men a) k (other p.side) ≡ false) one
      (attacked_before p.men (lifted p.men a) king (other p.side)
      (λ b l own. lifted_at p.men a b sound.board low
      ∙ enemy_before (b == a) None (man_at p.men b) (other p.side) (is_of-none (other p.side) None refl)
      (rw (lifted_at p.men a b sound.board low) at own))
      (λ b l was. hits_before p a b king (man_at p.men b) refl was (keeps b l))
      (sym (check_is p.men p.side king there one) ∙ calm));
}

-- a test whose negation fails holds
pub from_not : (b : Bool) → not b ≡ false → b ≡ true
from_not true h = refl
from_not false h = cc
