-- The board after a move, from the sets before it (later_after: `IsLater`): occupied are the squares that the move
-- fills, and those that were occupied and that it does not change; the enemy's pieces are those on squares that it does
-- not change. By cases of a square: where the mover or the castling rook arrives, what a piece leaves, or neither. And
-- check is an attack on the king's square, where that is known (check_is).
use mathlib.Core.Bool.{and-true}
use Rattle.std.proofs.Common.{◌≡◌, ℕ, ◌<◌, inl, inr, Bool, true, false, not, ◌&&◌, ◌||◌, ◌==◌, cond, refl, Option, Some, None, is_none}
use Rattle.std.proofs.lemmas.Bool.{and_right, cases_Bool, eqb-true, eq-eqb}
use Rattle.chess_base.specs.{declared.man.Colour.Colour, declared.man.Kind.Kind, declared.man.Kind.TheVariants.King, declared.man.Kind.TheVariants.Rook, declared.man.Man.Man, declared.man.Move.Move, Squares.is_at, Attacks.is_attacked, Attacks.is_in_check, declared.setup.Setup.Setup, Moves.arriving_man, Moves.men_after, Moves.second_square_emptied, Castling.mover_end, Castling.castling_rook_to}
use Rattle.chess_base.specs.Men.{Men, man_at, other, is_of, is_man}
use Rattle.chess_base.proofs.{shared.MenAfter.man_after, shared.MenAfter.man_at-men_after, shared.Men.not_is_man, shared.Squares.some_square-at, shared.Squares.some_square-none}
use Rattle.chess_moves.specs.Sets.{contains}
use Rattle.chess_bits.proofs.BoardSets.{theirs_of}
use Rattle.chess_bits.specs.{ties.Changes.is_changed, ties.Changes.is_filled, ties.Occupancy.IsLater}

-- one square after a move: t says that the mover arrives there (as a), r that the castling rook does, l that a piece
-- leaves it, and k is what was there. It is occupied if a piece arrives, or if it was and nothing changes there
filled_by : (t r l : Bool) (a k : Option Man) (c : Colour) → is_none a ≡ false
    → ((t || r) || (not (is_none k) && not (t || r || l)))
    ≡ not (is_none (cond t a (cond r (Some (record { colour = c; kind = Rook })) (cond l None k))))
filled_by true r l a k c h = rw h refl
filled_by false true l a k c h = refl
filled_by false false true a k c h = and_right (not (is_none k)) false refl
filled_by false false false a k c h = and-true (not (is_none k))

-- the square has an enemy piece (of colour d, which neither mover nor rook is) after the move exactly if it had one and
-- nothing changes there
pub kept_by : (t r l : Bool) (a k : Option Man) (c d : Colour) (kind : Kind)
    → is_man d kind a ≡ false → is_man d kind (Some (record { colour = c; kind = Rook })) ≡ false
    → (is_man d kind k && not (t || r || l))
    ≡ is_man d kind (cond t a (cond r (Some (record { colour = c; kind = Rook })) (cond l None k)))
unfolding is_man
kept_by true r l a k c d x h e = rw h (and_right (is_man d x k) false refl)
kept_by false true l a k c d x h e = rw e (and_right (is_man d x k) false refl)
kept_by false false true a k c d x h e = and_right (is_man d x k) false refl
kept_by false false false a k c d x h e = and-true (is_man d x k)

-- if colour c has its one king on the square `king`, it is in check exactly if that square is attacked
pub check_is : (men : Men) (c : Colour) (king : ℕ) → king < 64
    → ((k : ℕ) → k < 64 → is_man c King (man_at men k) ≡ (k == king))
    → is_in_check men c ≡ is_attacked men king (other c)
unfolding is_in_check
check_is men c king l one =
    elim (cases_Bool (is_attacked men king (other c))) [
      | inl hit ↦ rw hit (some_square-at _ king l (rw (one king l, eq-eqb king king refl) hit))
      | inr free ↦
          rw free
          (some_square-none _
          (λ k h.
          elim (cases_Bool (k == king)) [
            | inl same ↦ let at : k ≡ king = eqb-true k king same in rw (one k h, same, at) free
            | inr apart ↦ rw (one k h, apart) refl
          ]))
    ]

-- if `changed` and `filled` are the squares that move m changes and fills, the occupied squares and the enemy's pieces
-- after it follow from them (`IsLater`); what arrives is a piece, and not the enemy's
pub later_after : (p : Setup) (m : Move) (changed filled : ℕ)
    → is_none (arriving_man (man_at p.men m.from) m.promotion) ≡ false
    → is_of (other p.side) (arriving_man (man_at p.men m.from) m.promotion) ≡ false
    → ((k : ℕ) → k < 64 → contains changed k ≡ is_changed p m k)
    → ((k : ℕ) → k < 64 → contains filled k ≡ is_filled p m k)
    → IsLater changed filled (other p.side) p.men (men_after p m)
unfolding man_after
later_after p m changed filled some own c f = record {
  of_all = λ k l.
      rw (c k l, f k l, man_at-men_after p m k l)
      (filled_by (mover_end p m == k) (is_at (castling_rook_to p m) k)
      (is_at (second_square_emptied p m) k || (m.from == k))
      (arriving_man (man_at p.men m.from) m.promotion) (man_at p.men k) p.side some);
  of_man = λ x k l.
      rw (c k l, man_at-men_after p m k l)
      (kept_by (mover_end p m == k) (is_at (castling_rook_to p m) k)
      (is_at (second_square_emptied p m) k || (m.from == k))
      (arriving_man (man_at p.men m.from) m.promotion) (man_at p.men k) p.side (other p.side) x
      (not_is_man (other p.side) x (arriving_man (man_at p.men m.from) m.promotion) own)
      (not_is_man (other p.side) x _ (theirs_of p.side (record { colour = p.side; kind = Rook }) refl)));
}
