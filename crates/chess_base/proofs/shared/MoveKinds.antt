-- For lists of moves: each pseudo-legal move is of one of three kinds (moves_from_pattern; `MoveKind`: a piece moves,
-- the king castles, a pawn moves in one of three ways), by cases of the tests of `is_pseudo_legal`. What follows: the
-- mover is of the side on move, only a pawn is promoted, castling promotes nothing, no king of a side that isn't in
-- check is attacked, and what a double advance is.
use Rattle.std.proofs.Common.{◌≡◌, ℕ, ◌<◌, inl, inr, Bool, true, false, ◌&&◌, ◌||◌, not, cond, Option, Some, None, refl, sym, ◌==◌, is_none}
use Rattle.std.proofs.lemmas.Bool.{and_parts, and_from, and_right, or_cases, both_ways, eqb-true, ltb-true, false_from_ne_true, not-true}
use Rattle.chess_base.specs.{declared.man.Colour.Colour, declared.man.CastlingSide.CastlingSide, declared.man.Man.Man, declared.man.Move.Move, Squares.rank, Squares.is_at, Attacks.attacks, Attacks.is_attacked, Attacks.is_in_check, declared.setup.Setup.Setup, shared.Splits.castles_or_moves, declared.castling.Castle.Castle, declared.man.Kind.Kind}
use Rattle.chess_base.specs.declared.man.Kind.TheVariants.{King, Queen, Rook, Bishop, Knight, Pawn}
use Rattle.chess_base.specs.Men.{Men, man_at, other, same_colour, same_kind, is_of, is_man, forward, first_rank, pawn_rank}
use Rattle.chess_base.specs.Moves.{is_legal, is_pseudo_legal, moves_as, man_moves, pawn_moves, is_double_advance, pawn_advances, pawn_captures, promotion_fits}
use Rattle.chess_base.specs.Castling.{right_of, castle_from, castle_of, castling, castles, castling_way_is_empty}
use Rattle.chess_base.proofs.{shared.Castling.castle_there, shared.Castling.no_castle, shared.Squares.some_square-at}
use Rattle.chess_base.proofs.shared.Men.{same_colour-self, same_colour-true, other-other, is_none-None}

-- a pawn's move, by its three kinds
pub data PawnKind (p : Setup) (m : Move) : Type 0 where
  Advances : pawn_advances p m ≡ true → PawnKind p m
  Captures : attacks p.men m.from m.to ≡ true → is_of (other p.side) (man_at p.men m.to) ≡ true → PawnKind p m
  TakesEnPassant : attacks p.men m.from m.to ≡ true → is_at p.target m.to ≡ true → PawnKind p m

-- a pseudo-legal move, by its kind: a piece other than a pawn goes where it attacks, or the king castles to side w with
-- the rook on r, or a pawn moves
pub data MoveKind (p : Setup) (m : Move) : Type 0 where
  ManMoves : is_man p.side Pawn (man_at p.men m.from) ≡ false → castling p m ≡ None → man_moves p m ≡ true
      → MoveKind p m
  Castles : (w : CastlingSide) (r : ℕ) → castling p m ≡ Some w → right_of p.rights p.side w ≡ Some r
      → castles p m (castle_from p.side w m.from r) ≡ true → MoveKind p m
  PawnMoves : is_man p.side Pawn (man_at p.men m.from) ≡ true → promotion_fits (rank m.to == first_rank (other p.side))
      m.promotion ≡ true → PawnKind p m → MoveKind p m

-- what every pseudo-legal move has
pub record Moves (p : Setup) (m : Move) : Type 0 where
  pub from_in : m.from < 64
  pub to_in : m.to < 64
  pub mover : Man
  pub at_from : man_at p.men m.from ≡ Some mover
  pub own : mover.colour ≡ p.side
  pub kind : MoveKind p m

-- a pawn's move is an advance, a capture or en passant
pawn_kind : (p : Setup) (m : Move) → (pawn_advances p m || pawn_captures p m) ≡ true → PawnKind p m
unfolding pawn_captures
pawn_kind p m e =
    elim (or_cases _ _ e) [
      | inl h ↦ Advances h
      | inr h ↦
          let both = and_parts _ _ h in
          elim (or_cases _ _ both.1) [
            | inl taken ↦ Captures both.0 taken
            | inr passed ↦ TakesEnPassant both.0 passed
          ]
    ]

-- a pseudo-legal move of a piece other than a pawn castles, or goes where the piece attacks
kind_by_castling : (p : Setup) (m : Move) (o : Option CastlingSide) → castling p m ≡ o
    → is_man p.side Pawn (man_at p.men m.from) ≡ false → castles_or_moves p m (castle_of p m) ≡ true → MoveKind p m
kind_by_castling p m None e n h = let h' = rw (no_castle p m e) at h in ManMoves n e h'
kind_by_castling p m (Some w) e n h =
    let there = castle_there p m w e in
    let h' = rw there.2 at h in Castles w there.0 e there.1 h'

-- a pseudo-legal move of an own piece x is of one of the kinds
kind_of : (p : Setup) (m : Move) (x : Man) → man_at p.men m.from ≡ Some x → same_colour p.side x.colour ≡ true
    → (b : Bool) → same_kind Pawn x.kind ≡ b
    → cond b (pawn_moves p m) (castles_or_moves p m (castle_of p m)) ≡ true → MoveKind p m
unfolding is_man pawn_moves
kind_of p m x at own true k e =
    let both = and_parts _ _ e in
    PawnMoves (rw at (and_from _ _ own k)) both.0 (pawn_kind p m both.1)
kind_of p m x at own false k e =
    kind_by_castling p m (castling p m) refl (rw at (and_right _ _ k)) e

-- a move that passes the test of pseudo-legal moves starts from an own piece and is of one of the kinds
moves_by : (p : Setup) (m : Move) (o : Option Man) → man_at p.men m.from ≡ o → m.from < 64 → m.to < 64
    → moves_as p m o ≡ true → Moves p m
moves_by p m None at f t e = cc
moves_by p m (Some x) at f t e =
    let both = and_parts _ _ e in
    record {
      from_in = f;
      to_in = t;
      mover = x;
      at_from = at;
      own = sym (same_colour-true _ _ both.0);
      kind = kind_of p m x at both.0 (same_kind Pawn x.kind) refl both.1;
    }

-- what a pseudo-legal move is
pub moves_from_pattern : (p : Setup) (m : Move) → is_pseudo_legal p m ≡ true → Moves p m
unfolding is_pseudo_legal
moves_from_pattern p m e =
    let three = and_parts _ _ e in
    let two = and_parts _ _ three.0 in
    moves_by p m (man_at p.men m.from) refl (ltb-true _ _ two.0) (ltb-true _ _ two.1) three.1

-- a legal move is of one of the kinds, too
pub Moves-from_legal : (p : Setup) (m : Move) → is_legal p m ≡ true → Moves p m
unfolding is_legal
Moves-from_legal p m e = moves_from_pattern p m (and_parts _ _ e).0

-- the mover is of the side to move
pub is_of-mover : (p : Setup) (m : Move) → Moves p m → is_of p.side (man_at p.men m.from) ≡ true
unfolding is_of
is_of-mover p m h = rw (h.at_from, h.own) (same_colour-self p.side)

-- the side that is not on move is not in check, so what is attacked is not its king
pub no_king_where_attacked : (men : Men) (c : Colour) (a b : ℕ) → a < 64 → b < 64 → is_of c (man_at men a) ≡ true
    → attacks men a b ≡ true
    → not (is_in_check men (other c)) ≡ true → is_man (other c) King (man_at men b) ≡ false
unfolding is_in_check is_attacked
no_king_where_attacked men c a b ha hb own hits calm =
    false_from_ne_true _ (λ k.
    let attacked : is_attacked men b c ≡ true =
    some_square-at _ a ha (and_from _ _ own hits) in
    let attacked' : is_attacked men b (other (other c)) ≡ true = rw other-other attacked in
    both_ways _ (not-true _ calm) (some_square-at _ b hb (and_from _ _ k attacked')))

-- castling promotes nothing
pub castles_unpromoted : (p : Setup) (m : Move) (k : Castle) → castles p m k ≡ true → m.promotion ≡ None
unfolding castles
castles_unpromoted p m k e =
    let two = and_parts _ _ e in
    is_none-None _ (and_parts (is_none m.promotion) (castling_way_is_empty p.men k) two.0).0

-- only a pawn is promoted
pub promoted_by_kind : (p : Setup) (m : Move) (k : Kind) → MoveKind p m → m.promotion ≡ Some k
    → is_man p.side Pawn (man_at p.men m.from) ≡ true
unfolding man_moves
promoted_by_kind p m k (ManMoves n c e) promotion =
    let parts = and_parts (is_none m.promotion && attacks p.men m.from m.to) (not (is_of p.side (man_at p.men m.to)))
    e in
    let first = and_parts (is_none m.promotion) (attacks p.men m.from m.to) parts.0 in
    let none = is_none-None m.promotion first.0 in cc
promoted_by_kind p m k (Castles w r c at e) promotion = let none =
    castles_unpromoted p m (castle_from p.side w m.from r) e in cc
promoted_by_kind p m k (PawnMoves man fits kind) promotion = man

-- nothing is promoted but on the last rank
pub unpromoted_below : (o : Option Kind) → promotion_fits false o ≡ true → o ≡ None
unpromoted_below None e = refl
unpromoted_below (Some King) e = cc
unpromoted_below (Some Queen) e = cc
unpromoted_below (Some Rook) e = cc
unpromoted_below (Some Bishop) e = cc
unpromoted_below (Some Knight) e = cc
unpromoted_below (Some Pawn) e = cc

-- what makes a move a double advance
pub is_double_advance-parts : (p : Setup) (m : Move) → is_double_advance p m ≡ true
    → (is_man p.side Pawn (man_at p.men m.from) ≡ true) × (rank m.from ≡ pawn_rank p.side)
    × (m.to ≡ forward p.side (forward p.side m.from))
unfolding is_double_advance
is_double_advance-parts p m e =
    let two = and_parts _ _ e in
    let one = and_parts _ _ two.0 in (
      one.0,
      eqb-true _ _ one.1,
      eqb-true _ _ two.1,
    )
