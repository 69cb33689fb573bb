-- For lists and texts of moves, from the definitions: a move that castles is a king's, and its squares name the
-- castling (castling_says); its four squares (castle_there), and where the mover lands, castling or not
-- (lands_on_castled, lands_on_to). A right of a sound position has king and rook where castling begins
-- (placed_for_right, castling_rook_is_there). Files and squares of castling are on the board.
use Rattle.std.proofs.Common.{◌≡◌, ◌⊎◌, inl, inr, Bool, true, false, cond, ℕ, ◌<◌, Option, Some, None, refl, ap, ◌∙◌, arith}
use Rattle.std.proofs.lemmas.Bool.{and_parts}
use Rattle.chess_base.specs.{declared.man.Colour.Colour, declared.man.Variant.Variant, declared.man.Kind.TheVariants.King, declared.man.Kind.TheVariants.Rook, declared.man.CastlingSide.CastlingSide, declared.man.CastlingSide.TheVariants.KingSide, declared.man.CastlingSide.TheVariants.QueenSide, declared.man.Move.Move, Men.man_at, Men.is_man, Men.Men, declared.setup.Setup.Setup, shared.Splits.names_castling, shared.Splits.castle_with, shared.Splits.right_is_sound_at, Before.mover_to, Before.castle_by, declared.man.Colour.TheVariants.White, declared.man.Colour.TheVariants.Black, declared.man.Variant.TheVariants.Normal, declared.man.Variant.TheVariants.Fischerandom, Sound.IsSound}
use Rattle.chess_base.specs.Castling.{home_square, right_of, castling, is_castling_to, castled_king_file, castled_rook_file, castle_from, castle_of, mover_end, are_placed_for_castling, right_is_sound}

-- the side chosen by two tests, king's side first, is one whose test passes
castling_by : (a b : Bool) (w : CastlingSide) → cond a (Some KingSide) (cond b (Some QueenSide) None) ≡ Some w
    → ((w ≡ KingSide) × (a ≡ true)) ⊎ ((w ≡ QueenSide) × (b ≡ true))
castling_by true b w e = inl (cc, refl)
castling_by false true w e = inr (cc, refl)
castling_by false false w e = cc

-- the side to which a move castles passes the test `is_castling_to`
pub says_from_castling : (p : Setup) (m : Move) (w : CastlingSide) → castling p m ≡ Some w → is_castling_to p m w ≡ true
unfolding castling
says_from_castling p m w e =
    elim (castling_by (is_castling_to p m KingSide) (is_castling_to p m QueenSide) w e) [
      | inl k ↦ rw k.0 k.1
      | inr q ↦ rw q.0 q.1
    ]

-- a move that castles is made by a king of the side on move, and its squares name that castling
pub castling_says : (p : Setup) (m : Move) (w : CastlingSide) → is_castling_to p m w ≡ true
    → (is_man p.side King (man_at p.men m.from) ≡ true)
    × (names_castling p.variant p.side m w (right_of p.rights p.side w) ≡ true)
unfolding is_castling_to
castling_says p m w e = and_parts _ _ e

-- squares name a castling only if its right is there
right_named : (v : Variant) (c : Colour) (m : Move) (w : CastlingSide) (o : Option ℕ) → names_castling v c m w o ≡ true
    → (r : ℕ) × (o ≡ Some r)
right_named v c m w None e = cc
right_named v c m w (Some r) e = (r, refl)

-- the squares of the castling that a move is
pub castle_there : (p : Setup) (m : Move) (w : CastlingSide) → castling p m ≡ Some w → (r : ℕ)
    × (right_of p.rights p.side w ≡ Some r) × (castle_of p m ≡ Some (castle_from p.side w m.from r))
unfolding castle_of
castle_there p m w e =
    let right = right_named p.variant p.side m w (right_of p.rights p.side w)
    (castling_says _ _ _ (says_from_castling _ _ _ e)).1 in
    (right.0, right.1, ap (castle_by p.side p.rights m) e ∙ ap (castle_with p.side w m.from) right.1)

-- a move that is castling to neither side has no castle
pub no_castle : (p : Setup) (m : Move) → castling p m ≡ None → castle_of p m ≡ None
unfolding castle_of
no_castle p m e = ap (castle_by p.side p.rights m) e

-- where a move does not castle, the mover lands on the end square that it names
pub lands_on_to : (p : Setup) (m : Move) → castling p m ≡ None → mover_end p m ≡ m.to
unfolding mover_end
lands_on_to p m e = ap (mover_to m) (no_castle p m e)

-- and castling takes the king to its file for that side
pub lands_on_castled : (p : Setup) (m : Move) (w : CastlingSide) → castling p m ≡ Some w
    → mover_end p m ≡ home_square p.side (castled_king_file w)
unfolding mover_end
lands_on_castled p m w e = ap (mover_to m) (castle_there p m w e).2

-- in a sound position each castling right is sound
pub right_is_sound_of : (p : Setup) → IsSound p → (c : Colour) (w : CastlingSide) → right_is_sound p c w ≡ true
right_is_sound_of p h White KingSide = h.white_king_side
right_is_sound_of p h White QueenSide = h.white_queen_side
right_is_sound_of p h Black KingSide = h.black_king_side
right_is_sound_of p h Black QueenSide = h.black_queen_side

-- pieces placed for castling have the colour's rook on the right's square
rook_of_right : (v : Variant) (men : Men) (c : Colour) (w : CastlingSide) (s : ℕ)
    → are_placed_for_castling v men c w s ≡ true → is_man c Rook (man_at men s) ≡ true
rook_of_right Normal men c w s h = (and_parts _ _ h).1
rook_of_right Fischerandom men c w s h = (and_parts _ _ h).1

-- a sound right that is there has its king and rook where castling begins
pub placed_for_right : (v : Variant) (men : Men) (c : Colour) (w : CastlingSide) (o : Option ℕ) (e : ℕ)
    → right_is_sound_at v men c w o ≡ true → o ≡ Some e → are_placed_for_castling v men c w e ≡ true
placed_for_right v men c w None e h at = cc
placed_for_right v men c w (Some s) e h at = let here : s ≡ e = cc in rw (← here) h

-- the rook with which a colour may castle is on its square
pub castling_rook_is_there : (p : Setup) (c : Colour) (w : CastlingSide) (e : ℕ) → right_is_sound p c w ≡ true
    → right_of p.rights c w ≡ Some e → is_man c Rook (man_at p.men e) ≡ true
unfolding right_is_sound
castling_rook_is_there p c w e h at =
    rook_of_right p.variant p.men c w e (placed_for_right p.variant p.men c w (right_of p.rights c w) e h at)

-- the king ends on a file of the board
pub castled_king_file-below : (w : CastlingSide) → castled_king_file w < 8
castled_king_file-below KingSide = omega arith
castled_king_file-below QueenSide = omega arith

-- so does the rook
pub castled_rook_file-below : (w : CastlingSide) → castled_rook_file w < 8
castled_rook_file-below KingSide = omega arith
castled_rook_file-below QueenSide = omega arith

-- the square of a file on a colour's first rank is on the board
pub home_square-below : (c : Colour) (f : ℕ) → f < 8 → home_square c f < 64
home_square-below White f h = omega (arith, h)
home_square-below Black f h = omega (arith, h)
