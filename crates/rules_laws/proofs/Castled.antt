-- A legal king's move by e1g1 (and so on) in normal chess, or onto an own rook in Chess960, castles, and leaves king
-- and rook on the named squares (HasCastled). It can be no step of the king: e1 and g1 aren't next to each other
-- (normal_by), and a step can't end on a piece of its own colour (fischer_by).
use Rattle.std.proofs.Common.{◌≡◌, ◌≢◌, ℕ, ◌<◌, ◌≤◌, ◌⊎◌, inl, inr, Bool, true, false, Option, Some, None, refl, sym, subst, ◌∙◌, arith, ◌==◌, ◌&&◌}
use Rattle.std.proofs.lemmas.Bool.{and_parts, both_ways, cases_eq, eqb-true, eq-eqb, ne_eqb, not-true, ltb-true}
use Rattle.std.specs.{Int.abs_diff, Option.option_map_or}
use Rattle.chess_base.specs.{declared.man.Colour.Colour, declared.man.Colour.TheVariants.White, declared.man.Colour.TheVariants.Black, declared.man.CastlingSide.CastlingSide, declared.man.CastlingSide.TheVariants.KingSide, declared.man.CastlingSide.TheVariants.QueenSide, declared.man.Kind.Kind, declared.man.Kind.TheVariants.King, declared.man.Kind.TheVariants.Rook, declared.man.Kind.TheVariants.Pawn, declared.man.Man.Man, declared.man.Move.Move, declared.man.Variant.TheVariants.Normal, declared.man.Variant.TheVariants.Fischerandom, declared.setup.Setup.Setup, Squares.file, Squares.rank, Sound.IsSound, shared.Splits.names_castling}
use Rattle.chess_base.specs.Men.{Men, man_at, is_man, first_rank}
use Rattle.chess_base.specs.Castling.{home_square, king_home_file, rook_file, castled_king_file, castled_rook_file, right_of, king_square, are_placed_for_castling, names_castling_with, castling, castle_from, castle_of, is_to_side, right_is_sound}
use Rattle.chess_base.specs.Moves.{is_legal, after, arriving_man, man_moves}
use Rattle.chess_base.proofs.shared.Castling.{says_from_castling, castling_says, castle_there, right_is_sound_of, placed_for_right, castling_rook_is_there}
use Rattle.chess_base.proofs.{shared.Kings.king_square-at, shared.Kings.one_king_of, shared.Men.is_man-kind, shared.Men.is_of-from_is_man, shared.Men.in_board}
use Rattle.chess_base.proofs.shared.MoveKinds.{MoveKind, ManMoves, Castles, PawnMoves, moves_from_pattern, castles_unpromoted}
use Rattle.rules_laws.specs.Castled.{castling_of, is_towards, HasCastled, NormalCastlingEnds, FischerandomCastlingEnds}
use Rattle.rules_laws.proofs.Pieces.{attacks_as, king_is_near, after_castle}

-- ---- the named squares

-- the named squares of a castling are the home squares by which chess_base computes it
pub named : (c : Colour) (w : CastlingSide)
    → castling_of c w ≡ castle_from c w (home_square c king_home_file) (home_square c (rook_file w))
named White KingSide = refl
named White QueenSide = refl
named Black KingSide = refl
named Black QueenSide = refl

named_from : (c : Colour) (w : CastlingSide) (king rook : ℕ)
    → record (castling_of c w) { king_from = king; rook_from = rook } ≡ castle_from c w king rook
named_from White KingSide king rook = refl
named_from White QueenSide king rook = refl
named_from Black KingSide king rook = refl
named_from Black QueenSide king rook = refl

-- the king's start and its end in normal chess are not next to each other, so that the move is not a king's step
pub too_far : (c : Colour) (w : CastlingSide) (a b : ℕ) → a ≡ home_square c king_home_file
    → b ≡ home_square c (castled_king_file w) → abs_diff (file a) (file b) ≤ 1 → ⊥
too_far White KingSide a b e f h = omega (arith, e, f, h)
too_far White QueenSide a b e f h = omega (arith, e, f, h)
too_far Black KingSide a b e f h = omega (arith, e, f, h)
too_far Black QueenSide a b e f h = omega (arith, e, f, h)

-- the king's end decides the side
pub one_side : (c : Colour) (w v : CastlingSide)
    → home_square c (castled_king_file w) ≡ home_square c (castled_king_file v) → v ≡ w
one_side c KingSide KingSide e = refl
one_side c QueenSide QueenSide e = refl
one_side White KingSide QueenSide e = absurd (omega (arith, e))
one_side White QueenSide KingSide e = absurd (omega (arith, e))
one_side Black KingSide QueenSide e = absurd (omega (arith, e))
one_side Black QueenSide KingSide e = absurd (omega (arith, e))

ends_apart : (c : Colour) (w : CastlingSide)
    → (home_square c (castled_rook_file w) == home_square c (castled_king_file w)) ≡ false
ends_apart White KingSide = refl
ends_apart White QueenSide = refl
ends_apart Black KingSide = refl
ends_apart Black QueenSide = refl

king_end_in : (c : Colour) (w : CastlingSide) → home_square c (castled_king_file w) < 64
king_end_in White KingSide = omega arith
king_end_in White QueenSide = omega arith
king_end_in Black KingSide = omega arith
king_end_in Black QueenSide = omega arith

rook_end_in : (c : Colour) (w : CastlingSide) → home_square c (castled_rook_file w) < 64
rook_end_in White KingSide = omega arith
rook_end_in White QueenSide = omega arith
rook_end_in Black KingSide = omega arith
rook_end_in Black QueenSide = omega arith

-- ---- what castling leaves

arrives : (c : Colour) (k : Kind) (o : Option Man) → is_man c k o ≡ true → is_man c k (arriving_man o None) ≡ true
arrives c k None e = e
arrives c k (Some x) e = e

-- the rook that castling puts down is a rook
a_rook : (c : Colour) → is_man c Rook (Some (record { colour = c; kind = Rook })) ≡ true
unfolding is_man
a_rook White = refl
a_rook Black = refl

-- the king's start is empty afterwards, unless king or rook ends there
left_king : (p : Setup) (m : Move) (w : CastlingSide) (r s : ℕ)
    → castle_of p m ≡ Some (castle_from p.side w m.from r) → m.from < 64 → s ≡ m.from
    → s ≢ home_square p.side (castled_king_file w) → s ≢ home_square p.side (castled_rook_file w)
    → man_at (after p m).men s ≡ None
left_king p m w r s e f at a b =
    rw (after_castle p m (castle_from p.side w m.from r) s e (rw at f), ne_eqb _ _ a, ne_eqb _ _ b, eq-eqb _ _ at) refl

-- the same for the start of king or rook
left_by : (p : Setup) (m : Move) (w : CastlingSide) (r s : ℕ)
    → castle_of p m ≡ Some (castle_from p.side w m.from r) → m.from < 64 → r < 64
    → (s ≡ m.from) ⊎ (s ≡ r) → s ≢ home_square p.side (castled_king_file w)
    → s ≢ home_square p.side (castled_rook_file w) → man_at (after p m).men s ≡ None
left_by p m w r s e f h (inl at) a b = left_king p m w r s e f at a b
left_by p m w r s e f h (inr at) a b =
    elim (cases_eq s m.from) [
      | inl same ↦ left_king p m w r s e f same a b
      | inr differs ↦
          rw (
            after_castle p m (castle_from p.side w m.from r) s e (rw at h),
            ne_eqb _ _ a,
            ne_eqb _ _ b,
            ne_eqb _ _ differs,
            eq-eqb _ _ at,
          ) refl
    ]

-- king and rook have castled, from the castling that the move is (castle_of)
has_castled : (p : Setup) (m : Move) (w : CastlingSide) (r : ℕ)
    → castle_of p m ≡ Some (castle_from p.side w m.from r) → is_man p.side King (man_at p.men m.from) ≡ true
    → m.promotion ≡ None → m.from < 64 → r < 64 → HasCastled p m (castle_from p.side w m.from r)
has_castled p m w r e king none f h = record {
  king = rw (after_castle p m (castle_from p.side w m.from r) (home_square p.side (castled_king_file w)) e (king_end_in p.side w), eq-eqb (home_square p.side (castled_king_file w)) _ refl, none)
      (arrives p.side King (man_at p.men m.from) king);
  rook = rw (after_castle p m (castle_from p.side w m.from r) (home_square p.side (castled_rook_file w)) e (rook_end_in p.side w), ends_apart p.side w, eq-eqb (home_square p.side (castled_rook_file w)) _ refl)
      (a_rook p.side);
  left = λ s. left_by p m w r s e f h;
  others = λ s l a b c d.
      rw (after_castle p m (castle_from p.side w m.from r) s e l, ne_eqb _ _ c, ne_eqb _ _ d, ne_eqb _ _ a, ne_eqb _ _ b)
      refl;
}

-- ---- what is known of a move that castles with the rook on square r

pub record IsCastle (p : Setup) (m : Move) (w : CastlingSide) (r : ℕ) : Type 0 where
  pub castle : castle_of p m ≡ Some (castle_from p.side w m.from r)
  pub names : names_castling_with p.variant p.side m w r ≡ true
  pub placed : are_placed_for_castling p.variant p.men p.side w r ≡ true
  pub rook_in : r < 64

-- in a sound position, a move that castles on side w does so by the right that is there
pub is_castle : (p : Setup) (m : Move) (w : CastlingSide) (r : ℕ) → IsSound p → castling p m ≡ Some w
    → right_of p.rights p.side w ≡ Some r → IsCastle p m w r
unfolding right_is_sound
is_castle p m w r sound at right =
    let there = castle_there p m w at in
    let same : Some there.0 ≡ Some r = sym there.1 ∙ right in
    let same' : there.0 ≡ r = cc in
    let says = (castling_says p m w (says_from_castling p m w at)).1 in
    let says' : names_castling p.variant p.side m w (Some r) ≡ true = subst (λ (o : Option ℕ). names_castling p.variant p.side m w o ≡ true) right says in
    let rook = castling_rook_is_there p p.side w r (right_is_sound_of p sound p.side w) right in
    record {
      castle = subst (λ (x : ℕ). castle_of p m ≡ Some (castle_from p.side w m.from x)) same' there.2;
      names = says';
      placed = placed_for_right p.variant p.men p.side w (right_of p.rights p.side w) r
          (right_is_sound_of p sound p.side w) right;
      rook_in = in_board p.men p.side Rook r sound.board rook;
    }

-- ---- normal chess

-- in normal chess the king's move ends on the castled king's square
pub normal_named : (m : Move) (c : Colour) (w : CastlingSide) (r : ℕ) → names_castling_with Normal c m w r ≡ true
    → m.to ≡ home_square c (castled_king_file w)
normal_named m c w r e = eqb-true _ _ (and_parts _ _ e).1

-- and the rook is on its home square
pub normal_placed : (men : Men) (c : Colour) (w : CastlingSide) (r : ℕ) → are_placed_for_castling Normal men c w r ≡ true
    → r ≡ home_square c (rook_file w)
normal_placed men c w r e = eqb-true _ _ (and_parts _ _ (and_parts _ _ e).0).0

pub no_king_of_pawn : (p : Setup) (m : Move) → is_man p.side King (man_at p.men m.from) ≡ true
    → is_man p.side Pawn (man_at p.men m.from) ≡ true → ⊥
no_king_of_pawn p m king pawn =
    both_ways _ (is_man-kind p.side p.side King Pawn (man_at p.men m.from) refl king) pawn

-- the king's move fits no pattern of a pawn, nor of a king's step (too_far), so it is castling, on side w (one_side)
normal_by : (p : Setup) (m : Move) (w : CastlingSide) → IsSound p → p.variant ≡ Normal
    → is_man p.side King (man_at p.men m.from) ≡ true → m.from ≡ home_square p.side king_home_file
    → m.to ≡ home_square p.side (castled_king_file w) → m.from < 64 → MoveKind p m
    → HasCastled p m (castle_from p.side w (home_square p.side king_home_file) (home_square p.side (rook_file w)))
unfolding man_moves
normal_by p m w sound v king from to f (PawnMoves pawn fits k) = absurd (no_king_of_pawn p m king pawn)
normal_by p m w sound v king from to f (ManMoves n at e) =
    let hits = (and_parts _ _ (and_parts _ _ e).0).1 in
    let near = king_is_near p.men p.side m.from m.to (sym (attacks_as p.men m.from m.to p.side King king) ∙ hits) in
    absurd (too_far p.side w m.from m.to from to near.1)
normal_by p m w sound v king from to f (Castles u r at right e) =
    let is = is_castle p m u r sound at right in
    let named' = normal_named m p.side u r (rw v at is.names) in
    let side : u ≡ w = one_side p.side w u (sym to ∙ named') in
    let rook : r ≡ home_square p.side (rook_file u) = normal_placed p.men p.side u r (rw v at is.placed) in
    let done = has_castled p m u r is.castle king (castles_unpromoted p m (castle_from p.side u m.from r) e) f is.rook_in
    in rw (← from, ← side, ← rook) done

pub normal_ends : NormalCastlingEnds
unfolding is_legal
normal_ends p m w sound v legal king from to =
    let moves = moves_from_pattern p m (and_parts _ _ legal).0 in
    let is = named p.side w in
    rw is (normal_by p m w sound v king (rw is at from) (rw is at to) moves.from_in moves.kind)

-- ---- Chess960

-- a rook towards one side is not towards the other
towards : (w u : CastlingSide) (a b : ℕ) → is_towards w a b ≡ true → is_to_side u a b ≡ true → u ≡ w
towards KingSide KingSide a b e f = refl
towards QueenSide QueenSide a b e f = refl
towards KingSide QueenSide a b e f = let l = ltb-true _ _ e in let g = ltb-true _ _ f in absurd (omega (arith, l, g))
towards QueenSide KingSide a b e f = let l = ltb-true _ _ e in let g = ltb-true _ _ f in absurd (omega (arith, l, g))

-- in Chess960 the king's move ends on the rook's square
fischer_named : (m : Move) (c : Colour) (w : CastlingSide) (r : ℕ) → names_castling_with Fischerandom c m w r ≡ true
    → m.to ≡ r
fischer_named m c w r e = eqb-true _ _ (and_parts _ _ e).1

-- and the rook is on the right's side of the king
fischer_placed : (men : Men) (c : Colour) (w : CastlingSide) (k r : ℕ) → king_square men c ≡ Some k
    → are_placed_for_castling Fischerandom men c w r ≡ true → is_to_side w k r ≡ true
fischer_placed men c w k r at e =
    let test : ℕ → Bool = λ king. (rank king == first_rank c) && (rank r == first_rank c) && is_to_side w king r in
    let both = and_parts (option_map_or test (king_square men c) false) (is_man c Rook (man_at men r)) e in
    let here = subst (λ (o : Option ℕ). option_map_or test o false ≡ true) at both.0 in
    (and_parts _ _ here).1

-- a king's move to a rook of its own is no pawn's move, and no step, which can't end on a piece of its own; so it is
-- castling, on the side to which the rook is
fischer_by : (p : Setup) (m : Move) (w : CastlingSide) → IsSound p → p.variant ≡ Fischerandom
    → is_man p.side King (man_at p.men m.from) ≡ true → is_man p.side Rook (man_at p.men m.to) ≡ true
    → is_towards w m.from m.to ≡ true → m.from < 64 → MoveKind p m
    → HasCastled p m (castle_from p.side w m.from m.to)
unfolding man_moves
fischer_by p m w sound v king rook way f (PawnMoves pawn fits k) = absurd (no_king_of_pawn p m king pawn)
fischer_by p m w sound v king rook way f (ManMoves n at e) =
    absurd (both_ways _ (not-true _ (and_parts _ _ e).1) (is_of-from_is_man p.side Rook (man_at p.men m.to) rook))
fischer_by p m w sound v king rook way f (Castles u r at right e) =
    let is = is_castle p m u r sound at right in
    let to : m.to ≡ r = fischer_named m p.side u r (rw v at is.names) in
    let on = king_square-at p.men p.side m.from sound.board (one_king_of p sound p.side) king in
    let side' = fischer_placed p.men p.side u m.from r on (rw v at is.placed) in
    let side : u ≡ w = towards w u m.from m.to way (rw to side') in
    let done = has_castled p m u r is.castle king (castles_unpromoted p m (castle_from p.side u m.from r) e) f is.rook_in
    in
    let ends = subst (λ (v : CastlingSide). HasCastled p m (castle_from p.side v m.from r)) side done in
    subst (λ (x : ℕ). HasCastled p m (castle_from p.side w m.from x)) (sym to) ends

pub fischerandom_ends : FischerandomCastlingEnds
unfolding is_legal
fischerandom_ends p m w sound v legal king rook way =
    let moves = moves_from_pattern p m (and_parts _ _ legal).0 in
    rw (named_from p.side w m.from m.to) (fischer_by p m w sound v king rook way moves.from_in moves.kind)
