-- After a pseudo-legal move the mover's king is where the mover lands, if that is the king (king_lands), otherwise
-- where it was (king_stays), since only own pieces arrive (mover_own). The move is legal exactly if its side is not in
-- check then (legal_is), and check is an attack on the king's square (check_after): a side keeps one king.
use Rattle.chess_base.proofs.{shared.Kings.one_king_of, shared.LegalMoves.change_of, shared.LegalMoves.one_king_after, shared.MoveKinds.moves_from_pattern, shared.Men.is_man-rook_as_king}
use Rattle.std.proofs.Common.{◌≡◌, ℕ, ◌<◌, inl, inr, Bool, true, false, not, ◌||◌, ◌==◌, cond, count_by, Option, Some, None, is_none, refl, sym, ap, ◌∙◌, arith}
use Rattle.std.proofs.lemmas.Bool.{and_left, cases_Bool, eqb-true}
use Rattle.chess_base.specs.{declared.man.Colour.Colour, declared.man.Kind.Kind, declared.man.Kind.TheVariants.King, declared.man.Kind.TheVariants.Rook, declared.man.Man.Man, declared.man.Move.Move, declared.setup.Setup.Setup, Attacks.is_attacked, Attacks.is_in_check, Squares.is_at, Castling.mover_end, Castling.castling_rook_to, Sound.IsSound, Sound.has_one_king}
use Rattle.chess_base.specs.Men.{man_at, other, is_of, is_man}
use Rattle.chess_base.specs.Moves.{is_pseudo_legal, is_legal, after, arriving_man, men_after, second_square_emptied}
use Rattle.chess_base.proofs.shared.MenAfter.{man_after, man_at-men_after, length-men_after, man_after-to}
use Rattle.chess_bits.proofs.{AfterSets.check_is, AfterSets.kept_by, BoardSets.theirs_of, OneKing.none_counted, OneKing.alone}

-- ---- the mover arrives

-- what arrives by a pseudo-legal move is a piece, and not of the other colour
lands_some : (x : Man) (o : Option Kind) → is_none (arriving_man (Some x) o) ≡ false
lands_some x None = refl
lands_some x (Some k) = refl

lands_own : (x : Man) (o : Option Kind) (c : Colour) → x.colour ≡ c → is_of (other c) (arriving_man (Some x) o)
    ≡ false
lands_own x None c e = theirs_of c x e
lands_own x (Some k) c e = theirs_of c (record { colour = x.colour; kind = k }) e

pub mover_some : (p : Setup) (m : Move) → is_pseudo_legal p m ≡ true
    → is_none (arriving_man (man_at p.men m.from) m.promotion) ≡ false
mover_some p m e = let moves = moves_from_pattern p m e in rw moves.at_from (lands_some moves.mover m.promotion)

pub mover_own : (p : Setup) (m : Move) → is_pseudo_legal p m ≡ true
    → is_of (other p.side) (arriving_man (man_at p.men m.from) m.promotion) ≡ false
mover_own p m e = let moves = moves_from_pattern p m e in
    rw moves.at_from (lands_own moves.mover m.promotion p.side moves.own)

-- ---- the king

-- a square has no king after a move, if the mover is none as it arrives (a) and none was there (o)
king_only : (t r l : Bool) (a o : Option Man) (c : Colour) → is_man c King a ≡ false → is_man c King o ≡ false
    → is_man c King (cond t a (cond r (Some (record { colour = c; kind = Rook })) (cond l None o))) ≡ false
king_only t r l a o c h g = sym (kept_by t r l a o c c King h (is_man-rook_as_king c)) ∙ and_left _ _ g

-- if the mover is no king, a square without the own king has none after the move
elsewhere : (p : Setup) (m : Move) (k : ℕ) → is_man p.side King (arriving_man (man_at p.men m.from) m.promotion)
    ≡ false
    → is_man p.side King (man_at p.men k) ≡ false → k < 64 → is_man p.side King (man_at (men_after p m) k) ≡ false
unfolding man_after
elsewhere p m k mover none low =
    rw (man_at-men_after p m k low)
    (king_only (mover_end p m == k) (is_at (castling_rook_to p m) k)
    (is_at (second_square_emptied p m) k || (m.from == k))
    (arriving_man (man_at p.men m.from) m.promotion) (man_at p.men k) p.side mover none)

one_after : (p : Setup) (m : Move) → IsSound p → is_pseudo_legal p m ≡ true → has_one_king (men_after p m) p.side ≡ true
one_after p m sound pattern = one_king_after p m p.side sound.board (change_of p m sound pattern)
    (one_king_of p sound p.side)

-- if what arrives is no king, the king of the side on move is after the move on the square where it was
pub king_stays : (p : Setup) (m : Move) (king : ℕ) → IsSound p → is_pseudo_legal p m ≡ true
    → ((k : ℕ) → k < 64 → is_man p.side King (man_at p.men k) ≡ (k == king))
    → is_man p.side King (arriving_man (man_at p.men m.from) m.promotion) ≡ false
    → is_man p.side King (man_at (men_after p m) king) ≡ true
unfolding has_one_king
king_stays p m king sound pattern one mover =
    elim (cases_Bool (is_man p.side King (man_at (men_after p m) king))) [
      | inl here ↦ here
      | inr gone ↦
          let long = length-men_after p m in
          let none : count_by (λ o. is_man p.side King o) (men_after p m) ≡ 0 = none_counted (λ o. is_man p.side King o)
          None (men_after p m) (λ k l. nowhere gone k (omega (arith, long, l))) in
          let counted = eqb-true (count_by (λ o. is_man p.side King o) (men_after p m)) 1
          (one_after p m sound pattern) in
          absurd (omega (arith, none, counted))
    ]
  where
    nowhere : is_man p.side King (man_at (men_after p m) king) ≡ false → (k : ℕ) → k < 64
        → is_man p.side King (man_at (men_after p m) k) ≡ false
    nowhere gone k low =
        elim (cases_Bool (k == king)) [
          | inl same ↦ ap (λ s. is_man p.side King (man_at (men_after p m) s)) (eqb-true k king same) ∙ gone
          | inr apart ↦ elsewhere p m k mover (one k low ∙ apart) low
        ]

-- if what arrives is the king of the side on move, it is after the move on the square where the mover lands
pub king_lands : (p : Setup) (m : Move) (to : ℕ) → to ≡ mover_end p m → to < 64
    → is_man p.side King (arriving_man (man_at p.men m.from) m.promotion) ≡ true
    → is_man p.side King (man_at (men_after p m) to) ≡ true
king_lands p m to there low mover =
    ap (λ s. is_man p.side King (man_at (men_after p m) s)) there
    ∙ ap (is_man p.side King) (man_at-men_after p m (mover_end p m) (rw (← there) low) ∙ man_after-to p m)
    ∙ mover

-- check after the move is an attack on the square where the king then is
pub check_after : (p : Setup) (m : Move) (king : ℕ) → IsSound p → is_pseudo_legal p m ≡ true → king < 64
    → is_man p.side King (man_at (men_after p m) king) ≡ true
    → is_in_check (men_after p m) p.side ≡ is_attacked (men_after p m) king (other p.side)
check_after p m king sound pattern low here =
    check_is (men_after p m) p.side king low
    (alone (men_after p m) p.side king (length-men_after p m) (one_after p m sound pattern) here)

-- a pseudo-legal move is legal exactly if its side is not in check after it
pub legal_is : (p : Setup) (m : Move) → is_pseudo_legal p m ≡ true → not (is_in_check (men_after p m) p.side) ≡ is_legal p m
unfolding is_legal after
legal_is p m e = rw e refl
