-- Castling with a right that is there, in a sound position. In normal chess the king is at home (at_home). In both
-- variants the king's move to the square that names this castling (`named_square`) is this castling, with its four
-- squares (castle_told), since it doesn't name the one to the other side; and only this square names it
-- (castles_onto_end).
use mathlib.Core.Bool.{and-false, and-true}
use Rattle.std.proofs.Common.{◌≡◌, inl, inr, ℕ, ◌<◌, Bool, true, false, ◌&&◌, ◌==◌, Option, Some, None, refl, sym, ap, ◌∙◌, arith, option_and_then}
use Rattle.std.specs.Option.{option_map, option_map_or}
use Rattle.std.proofs.lemmas.Bool.Decides.{nat_tests}
use Rattle.std.proofs.lemmas.Bool.{and_parts, and_right, cases_eq, eqb-true, eq-eqb, ne_eqb}
use Rattle.chess_base.specs.{declared.man.CastlingSide.CastlingSide, declared.man.CastlingSide.TheVariants.KingSide, declared.man.CastlingSide.TheVariants.QueenSide, declared.man.Colour.Colour, declared.man.Colour.TheVariants.White, declared.man.Colour.TheVariants.Black, declared.man.Kind.TheVariants.King, declared.man.Kind.TheVariants.Rook, declared.man.Move.Move, declared.man.Variant.Variant, declared.man.Variant.TheVariants.Normal, declared.man.Variant.TheVariants.Fischerandom, declared.setup.Setup.Setup, shared.Splits.right_is_sound_at, shared.Parts.is_on_side_of_king, Men.Men, Men.man_at, Men.is_man, MoveList.move_of, Moves.is_legal, Sound.IsSound}
use Rattle.chess_base.specs.laws.Castles.{castling_on, is_castling_by, castling_named, named_square}
use Rattle.chess_base.specs.Castling.{home_square, king_home_file, rook_file, right_of, king_square, are_placed_for_castling, right_is_sound, castle_from, castle_of}
use Rattle.chess_base.proofs.{shared.Castling.right_is_sound_of, shared.Castling.placed_for_right, shared.CastlingNamed.same_castle, shared.Kings.one_king_of, shared.Kings.king_square-at}
use Rattle.chess_bits.specs.ties.Goes.{names_end, castles_onto}
use Rattle.chess_bits.proofs.OneKing.{alone}

-- in normal chess, with a right to castle, king and rook are on the squares where this castling begins
pub stands : (p : Setup) (w : CastlingSide) (rook : ℕ) → IsSound p → p.variant ≡ Normal
    → right_of p.rights p.side w ≡ Some rook → are_placed_for_castling Normal p.men p.side w rook ≡ true
unfolding right_is_sound
stands p w rook sound normal right =
    sym (ap (λ (v : Variant). are_placed_for_castling v p.men p.side w rook) normal)
    ∙ placed_for_right p.variant p.men p.side w (right_of p.rights p.side w) rook (right_is_sound_of p sound p.side w)
    right

-- so in normal chess the king's square is e1 or e8
pub at_home : (p : Setup) (w : CastlingSide) (a rook : ℕ) → IsSound p → p.variant ≡ Normal
    → right_of p.rights p.side w ≡ Some rook → is_man p.side King (man_at p.men a) ≡ true → a < 64
    → a ≡ home_square p.side king_home_file
at_home p w a rook sound normal right king low =
    let there = and_parts
    ((rook == home_square p.side (rook_file w))
    && is_man p.side King (man_at p.men (home_square p.side king_home_file)))
    (is_man p.side Rook (man_at p.men rook)) (stands p w rook sound normal right) in
    let home = (and_parts (rook == home_square p.side (rook_file w))
    (is_man p.side King (man_at p.men (home_square p.side king_home_file))) there.0).1 in
    eqb-true a (home_square p.side king_home_file)
    (sym (alone p.men p.side (home_square p.side king_home_file) sound.board (one_king_of p sound p.side) home a low)
    ∙ king)

-- ---- by the squares of king and rook

-- the end squares of the two castlings differ
ends_differ : (v : Variant) (men : Men) (c : Colour) (a r rook : ℕ) → king_square men c ≡ Some a
    → are_placed_for_castling v men c KingSide r ≡ true → are_placed_for_castling v men c QueenSide rook ≡ true
    → (named_square v (castle_from c KingSide a r) == named_square v (castle_from c QueenSide a rook)) ≡ false
ends_differ Normal men White a r rook at near far = refl
ends_differ Normal men Black a r rook at near far = refl
ends_differ Fischerandom men c a r rook at near far =
    let parts = and_parts (is_on_side_of_king c KingSide (king_square men c) r) (is_man c Rook (man_at men r)) near in
    let far_parts = and_parts (is_on_side_of_king c QueenSide (king_square men c) rook)
    (is_man c Rook (man_at men rook)) far in
    let near_side : is_on_side_of_king c KingSide (Some a) r ≡ true = rw at at parts.0 in
    let far_side : is_on_side_of_king c QueenSide (Some a) rook ≡ true = rw at at far_parts.0 in
    grind (arith, nat_tests, near_side, far_side)

-- move m is the castling on side w
abbrev is_by : Setup → Move → CastlingSide → Bool
is_by p m w = option_map_or (is_castling_by p.variant m) (castling_on p w) false

-- which castling a move is: the king's side is asked first, so the queen's side is found if the move is none on the
-- king's side
found : (p : Setup) (m : Move) (w : CastlingSide) → is_by p m w ≡ true → (w ≡ QueenSide → is_by p m KingSide ≡ false)
    → castling_named p m ≡ Some w
unfolding castling_named
found p m KingSide h other = rw h refl
found p m QueenSide h other = rw (other refl, h) refl

-- the move that names castling on the queen's side is none on the king's side, whatever right (o) there is
not_near : (p : Setup) (a rook : ℕ) (o : Option ℕ) → king_square p.men p.side ≡ Some a
    → right_is_sound_at p.variant p.men p.side KingSide o ≡ true
    → are_placed_for_castling p.variant p.men p.side QueenSide rook ≡ true
    → option_map_or
    (is_castling_by p.variant (move_of a (named_square p.variant (castle_from p.side QueenSide a rook)) None))
    (option_and_then (λ r. option_map (λ king. castle_from p.side KingSide king r) (Some a)) o) false ≡ false
not_near p a rook None at near far = refl
not_near p a rook (Some r) at near far =
    and_right (a == a) _ (ends_differ p.variant p.men p.side a r rook at near far)

-- in a sound position the king's move to the square that names castling on the queen's side is no castling on the
-- king's side
other_side : (p : Setup) (w : CastlingSide) (a b rook : ℕ) → IsSound p → right_of p.rights p.side w ≡ Some rook
    → king_square p.men p.side ≡ Some a → b ≡ named_square p.variant (castle_from p.side w a rook) → w ≡ QueenSide
    → is_by p (move_of a b None) KingSide ≡ false
unfolding right_is_sound
other_side p KingSide a b rook sound right at end far = cc
other_side p QueenSide a b rook sound right at end far =
    rw (at, end)
    (not_near p a rook (right_of p.rights p.side KingSide) at (right_is_sound_of p sound p.side KingSide)
    (placed_for_right p.variant p.men p.side QueenSide (right_of p.rights p.side QueenSide) rook
    (right_is_sound_of p sound p.side QueenSide) right))

-- the king's move from a to the square b that names castling on side w, to which the right is there, is castling with
-- the squares of `castle_from`
pub castle_told : (p : Setup) (w : CastlingSide) (a b rook : ℕ) → IsSound p → right_of p.rights p.side w ≡ Some rook
    → is_man p.side King (man_at p.men a) ≡ true → b ≡ named_square p.variant (castle_from p.side w a rook)
    → castle_of p (move_of a b None) ≡ Some (castle_from p.side w a rook)
castle_told p w a b rook sound right king end =
    let at = king_square-at p.men p.side a sound.board (one_king_of p sound p.side) king in
    let on : castling_on p w ≡ Some (castle_from p.side w a rook) = rw (right, at) refl in
    let here : is_by p (move_of a b None) w ≡ true = rw (on, end, eq-eqb a a refl, eq-eqb _ _ refl) refl in
    same_castle p (move_of a b None) sound
    ∙ ap (option_and_then (castling_on p)) (found p (move_of a b None) w here (other_side p w a b rook sound right at end))
    ∙ on

-- a square passes the test `names_end` exactly if it is the square computed by `named_square`
end_is : (v : Variant) (c : Colour) (w : CastlingSide) (a rook k : ℕ)
    → names_end v c w (Some rook) k ≡ (k == named_square v (castle_from c w a rook))
end_is Normal c w a rook k = refl
end_is Fischerandom c w a rook k = refl

-- the king castles legally on side w onto k exactly if k is b and the move to b is legal
pub castles_onto_end : (p : Setup) (w : CastlingSide) (a b rook k : ℕ) → IsSound p
    → right_of p.rights p.side w ≡ Some rook → is_man p.side King (man_at p.men a) ≡ true → b ≡ named_square p.variant (castle_from p.side w a rook)
    → (is_legal p (move_of a b None) && (k == b)) ≡ castles_onto p w a k
castles_onto_end p w a b rook k sound right king end =
    let ends : names_end p.variant p.side w (right_of p.rights p.side w) k ≡ (k == b) =
    rw (right, end) (end_is p.variant p.side w a rook k) in
    elim (cases_eq k b) [
      | inl same ↦
          rw (ends, same, castle_told p w a b rook sound right king end, eq-eqb b b refl) (and-true _)
      | inr apart ↦ rw (ends, ne_eqb k b apart) (and-false _)
    ]
