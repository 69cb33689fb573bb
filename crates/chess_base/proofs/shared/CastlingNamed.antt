-- For boards: in a sound position the side and the four squares of a move's castling are those that its start and end
-- square name (same_side, same_castle; `castling_named`). By cases: a move from another square than the king's names
-- nothing (away); from the king's square both definitions ask for the same end square (here).
use Rattle.std.proofs.Common.{◌≡◌, ◌≢◌, ℕ, inl, inr, Bool, true, false, ◌&&◌, Option, Some, None, refl, sym, ap, ◌∙◌, ◌==◌, length, option_and_then}
use Rattle.std.specs.Option.{option_map, option_map_or}
use Rattle.std.proofs.lemmas.Bool.{and_parts, and_left, cases_eq, eqb-true, eq-eqb, ne_eqb, false_from_ne_true}
use Rattle.chess_base.specs.{declared.castling.Castle.Castle, declared.man.Colour.Colour, declared.man.CastlingSide.CastlingSide, declared.man.CastlingSide.TheVariants.KingSide, declared.man.CastlingSide.TheVariants.QueenSide, declared.man.Kind.TheVariants.King, declared.man.Kind.TheVariants.Rook, declared.man.Move.Move, declared.man.Variant.Variant, declared.man.Variant.TheVariants.Normal, declared.man.Variant.TheVariants.Fischerandom, declared.setup.Setup.Setup, Squares.rank, Men.Men, Men.man_at, Men.is_man, Sound.IsSound, Sound.has_one_king, shared.Parts.is_on_side_of_king, Before.castle_by, shared.Splits.right_is_sound_at, shared.Splits.names_castling, laws.Castles.castling_on, laws.Castles.is_castling_by, laws.Castles.castling_named}
use Rattle.chess_base.specs.Castling.{right_of, king_square, castle_from, castle_of, are_placed_for_castling, right_is_sound, home_square, king_home_file, names_castling_with, castled_king_file, is_castling_to, castling}
use Rattle.chess_base.proofs.{shared.Castling.right_is_sound_of, shared.Castling.says_from_castling, shared.Castling.castling_says, shared.MenAfter.eqb_comm}
use Rattle.chess_base.proofs.shared.Kings.{one_king, one_king_of, king_square-at, king_square-king}

-- a move that doesn't start on the king's square names nothing
away : (v : Variant) (c : Colour) (men : Men) (m : Move) (w : CastlingSide) (r k : ℕ) → length men ≡ 64
    → has_one_king men c ≡ true → king_square men c ≡ Some k → k ≢ m.from
    → is_castling_by v m (castle_from c w k r) ≡ (is_man c King (man_at men m.from) && names_castling_with v c m w r)
away v c men m w r k l one at apart =
    let no : is_man c King (man_at men m.from) ≡ false = false_from_ne_true _
    (λ e. apart (one_king men c k m.from l one (king_square-king men c k at) e)) in
    and_left _ _ (ne_eqb _ _ apart) ∙ sym (and_left _ _ no)

-- from the king's square, where the right is sound, both tests ask for the end square
here : (v : Variant) (c : Colour) (men : Men) (m : Move) (w : CastlingSide) (r k : ℕ) → length men ≡ 64
    → has_one_king men c ≡ true → king_square men c ≡ Some k → are_placed_for_castling v men c w r ≡ true
    → k ≡ m.from
    → is_castling_by v m (castle_from c w k r) ≡ (is_man c King (man_at men m.from) && names_castling_with v c m w r)
here Normal c men m w r k l one at placed same =
    let parts = and_parts _ _ placed in
    let home = (and_parts _ _ parts.0).1 in
    let k_home : k ≡ home_square c king_home_file =
    one_king men c k (home_square c king_home_file) l one (king_square-king men c k at) home in
    let king : is_man c King (man_at men m.from) ≡ true = rw (← same) (king_square-king men c k at) in
    let t1 : (k == m.from) ≡ true = eq-eqb _ _ same in
    let t2 : (m.from == home_square c king_home_file) ≡ true =
    eq-eqb _ _ (sym same ∙ k_home) in
    rw (t1, king, t2) (eqb_comm (home_square c (castled_king_file w)) m.to)
here Fischerandom c men m w r k l one at placed same =
    let parts = and_parts (is_on_side_of_king c w (king_square men c) r) (is_man c Rook (man_at men r)) placed in
    let beside : is_on_side_of_king c w (Some k) r ≡ true = rw at at parts.0 in
    let ranks = and_parts _ _ beside in
    let both = and_parts _ _ ranks.0 in
    let same_rank : rank m.from ≡ rank r =
    ap rank (sym same) ∙ eqb-true _ _ both.0 ∙ sym (eqb-true _ _ both.1) in
    let king : is_man c King (man_at men m.from) ≡ true = rw (← same) (king_square-king men c k at) in
    let t1 : (k == m.from) ≡ true = eq-eqb _ _ same in
    let t2 : (rank m.from == rank r) ≡ true = eq-eqb _ _ same_rank in
    rw (t1, king, t2) (eqb_comm r m.to)

-- in a position with one king and the pieces placed, a move has a castling's squares exactly if it is the king's and
-- names that castling
same_test : (v : Variant) (c : Colour) (men : Men) (m : Move) (w : CastlingSide) (r k : ℕ) → length men ≡ 64
    → has_one_king men c ≡ true → king_square men c ≡ Some k → are_placed_for_castling v men c w r ≡ true
    → is_castling_by v m (castle_from c w k r) ≡ (is_man c King (man_at men m.from) && names_castling_with v c m w r)
same_test v c men m w r k l one at placed = elim (cases_eq k m.from) [
  | inl same ↦ here v c men m w r k l one at placed same
  | inr apart ↦ away v c men m w r k l one at apart
]

-- ---- both sides

-- the squares of castling on one side, by king and right
abbrev on : Colour → CastlingSide → Option ℕ → Option ℕ → Option Castle
on c w king right = option_and_then (λ rook. option_map (λ k. castle_from c w k rook) king) right

-- a test joined with one that fails, fails
and_false : (b : Bool) → false ≡ (b && false)
and_false true = refl
and_false false = refl

-- the same where the king or the right may be missing
side_same : (v : Variant) (c : Colour) (men : Men) (m : Move) (w : CastlingSide) (king right : Option ℕ)
    → length men ≡ 64
    → has_one_king men c ≡ true → king_square men c ≡ king → right_is_sound_at v men c w right ≡ true
    → option_map_or (is_castling_by v m) (on c w king right) false
    ≡ (is_man c King (man_at men m.from) && names_castling v c m w right)
side_same v c men m w king None l one at sound = and_false (is_man c King (man_at men m.from))
side_same v c men m w None (Some r) l one at sound =
    let no : is_man c King (man_at men m.from) ≡ false = false_from_ne_true _
    (λ e. let s = king_square-at men c m.from l one e in let t : Some m.from ≡ None = sym s ∙ at in cc) in
    rw no refl
side_same v c men m w (Some k) (Some r) l one at sound = same_test v c men m w r k l one at sound

-- in a sound position the right to castle on each side is sound
sound_at : (p : Setup) → IsSound p → (w : CastlingSide)
    → right_is_sound_at p.variant p.men p.side w (right_of p.rights p.side w) ≡ true
unfolding right_is_sound
sound_at p h w = right_is_sound_of p h p.side w

-- a move has the squares of the castling on a side exactly if it castles to that side
to_side : (p : Setup) (m : Move) (w : CastlingSide) → IsSound p
    → option_map_or (is_castling_by p.variant m) (castling_on p w) false ≡ is_castling_to p m w
unfolding is_castling_to
to_side p m w h = side_same p.variant p.side p.men m w (king_square p.men p.side) (right_of p.rights p.side w) h.board
    (one_king_of p h p.side) refl (sound_at p h w)

-- the side to which a move castles, as its squares name it
pub same_side : (p : Setup) (m : Move) → IsSound p → castling p m ≡ castling_named p m
unfolding castling castling_named
same_side p m h = rw (to_side p m KingSide h, to_side p m QueenSide h) refl

-- the castle of a move is that of the side to which it castles, if it castles
by_side : (p : Setup) (m : Move) (o : Option CastlingSide) → IsSound p → castling p m ≡ o
    → castle_by p.side p.rights m o ≡ option_and_then (castling_on p) o
by_side p m None h e = refl
by_side p m (Some w) h e =
    let king = (castling_says _ _ _ (says_from_castling _ _ _ e)).0 in
    let at : king_square p.men p.side ≡ Some m.from =
    king_square-at p.men p.side m.from h.board (one_king_of p h p.side) king in
    rw at (mapped (right_of p.rights p.side w))
  where
    mapped : (o : Option ℕ) → option_map (castle_from p.side w m.from) o
        ≡ option_and_then (λ rook. option_map (λ k. castle_from p.side w k rook) (Some m.from)) o
    mapped None = refl
    mapped (Some r) = refl

-- the castle of a move, as its squares name it
pub same_castle : (p : Setup) (m : Move) → IsSound p
    → castle_of p m ≡ option_and_then (castling_on p) (castling_named p m)
unfolding castle_of
same_castle p m h =
    by_side p m (castling p m) h refl ∙ ap (option_and_then (castling_on p)) (same_side p m h)
