-- Where the pieces of the side on move go, even if their king is then attacked (`man_goes` has castling only where it
-- is legal); and which of them are free: their king is safe wherever they go.
use Rattle.std.specs.Prelude.{◌≡◌, ℕ, ◌+◌, ◌-◌, ◌<◌, ◌==◌, nat_le, ◌&&◌, ◌||◌, Bool, true, false, Option, Some, None, if◌then◌else◌}
use Rattle.chess_base.specs.declared.castling.Castle.{Castle}
use Rattle.chess_base.specs.declared.man.CastlingSide.{CastlingSide}
use Rattle.chess_base.specs.declared.man.Colour.{Colour}
use Rattle.chess_base.specs.declared.man.Colour.TheVariants.{White, Black}
use Rattle.chess_base.specs.declared.man.Kind.{Kind}
use Rattle.chess_base.specs.declared.man.Kind.TheVariants.{King, Queen, Pawn}
use Rattle.chess_base.specs.declared.man.Man.{Man}
use Rattle.chess_base.specs.declared.man.Move.{Move}
use Rattle.chess_base.specs.declared.man.Variant.{Variant}
use Rattle.chess_base.specs.declared.man.Variant.TheVariants.{Normal, Fischerandom}
use Rattle.chess_base.specs.declared.setup.Setup.{Setup}
use Rattle.chess_base.specs.Attacks.{is_attacked}
use Rattle.chess_base.specs.Castling.{home_square, castled_king_file, right_of, castle_of}
use Rattle.chess_base.specs.Men.{Men, man_at, other, is_man, same_kind, pawn_rank}
use Rattle.chess_base.specs.shared.OneSquare.{with_man}
use Rattle.chess_base.specs.MoveList.{move_of}
use Rattle.chess_base.specs.Moves.{is_pseudo_legal, is_legal, man_moves}
use Rattle.chess_base.specs.Squares.{rank}
use Rattle.chess_bits.specs.declared.table.Shape.TheVariants as shape
use Rattle.chess_bits.specs.ties.Shapes.{in_shape}
use Rattle.chess_moves.specs.Promoting.{would_promote}
use Rattle.chess_moves.specs.Sets.{contains}

-- the promotion that is tried for a move from a to b: to a queen, in place of all four kinds, if a pawn of the side on
-- move would reach its last rank; otherwise none
abbrev pub tried_promotion : Setup → ℕ → ℕ → Option Kind
tried_promotion p a b = if would_promote p a b then Some Queen else None

-- the move from square a to square b with the promotion that is tried (to a queen, if a pawn would promote; otherwise
-- none) is pseudo-legal. It is so exactly if some move from a to b is
unfoldable pub goes : Setup → ℕ → ℕ → Bool
goes p a b = is_pseudo_legal p (move_of a b (tried_promotion p a b))

-- b is the end square of colour c's castling on side w, whose right is given as its rook's square: in normal chess the
-- king's end square, in Chess960 the rook's square. False if there is no right
abbrev pub names_end : Variant → Colour → CastlingSide → Option ℕ → ℕ → Bool
names_end v c w None b = false
names_end Normal c w (Some rook) b = b == home_square c (castled_king_file w)
names_end Fischerandom c w (Some rook) b = b == rook

-- if move m is castling (the third argument has its squares): whether it is legal; if it isn't castling (`None`): s
abbrev pub legal_or : Setup → Move → Option Castle → Bool → Bool
legal_or p m None s = s
legal_or p m (Some castle) s = is_legal p m

-- the move from a to b is legal castling, and b is the end square of castling on side w (`names_end`)
abbrev pub castles_onto : Setup → CastlingSide → ℕ → ℕ → Bool
castles_onto p w a b = names_end p.variant p.side w (right_of p.rights p.side w) b
    && legal_or p (move_of a b None) (castle_of p (move_of a b None)) false

-- where a piece other than a pawn goes: if the move from a to b is castling, it is legal; otherwise the piece on a
-- attacks b, and no own piece is there (`man_moves`)
abbrev pub man_goes : Setup → ℕ → ℕ → Bool
man_goes p a b = legal_or p (move_of a b None) (castle_of p (move_of a b None)) (man_moves p (move_of a b None))

-- the pieces, with the one on square a taken off
abbrev pub lifted : Men → ℕ → Men
lifted men a = with_man men (Some a) None

-- a does not hold the king of the side on move, and this king is not attacked even with the piece on a taken off: so it
-- is safe wherever that piece goes, except perhaps by a capture en passant, which takes off a second piece
pub record IsFree (p : Setup) (a : ℕ) : Type 0 where
  pub apart : (k : ℕ) → k < 64 → is_man p.side King (man_at p.men k) ≡ true → (a == k) ≡ false
  pub safe : (k : ℕ) → k < 64 → is_man p.side King (man_at p.men k) ≡ true
      → is_attacked (lifted p.men a) k (other p.side) ≡ false

-- each square of the set w holds a piece of this kind, of the side on move, that is free (`IsFree`)
abbrev pub AreFree : Setup → Kind → ℕ → Type 0
AreFree p kind w = (k : ℕ) → k < 64 → contains w k ≡ true → (is_man p.side kind (man_at p.men k) ≡ true) × IsFree p k

-- o, a square's content, is a piece of colour c and this kind: a queen, rook, bishop or knight
pub record IsOfficer (c : Colour) (kind : Kind) (o : Option Man) : Type 0 where
  pub man : is_man c kind o ≡ true
  pub officer : (same_kind King kind || same_kind Pawn kind) ≡ false

-- the set w is the set s moved one rank ahead, as pawns of colour c go: up for White, down for Black
pub record IsAhead (c : Colour) (s w : ℕ) : Type 0 where
  pub up : c ≡ White → (k : ℕ) → k < 64 → contains w k ≡ (nat_le 8 k && contains s (k - 8))
  pub down : c ≡ Black → (k : ℕ) → contains w k ≡ contains s (k + 8)

-- a pawn of colour c on square a would attack the given square; false if none is given
abbrev pub aims_at : Option ℕ → Colour → ℕ → Bool
aims_at None c a = false
aims_at (Some t) c a = in_shape (shape.Pawn c) a t

-- a pawn of the side on move, if it were on square a, would promote by its next move or attack the en passant target
abbrev pub goes_specially : Setup → ℕ → Bool
goes_specially p a = aims_at p.target p.side a || (rank a == pawn_rank (other p.side))

-- the piece on a is free, and no pawn that would promote by its next move or attacks the en passant target: so each
-- square to which it goes gives it one legal move
pub record GoesFreely (p : Setup) (a : ℕ) : Type 0 where
  pub free : IsFree p a
  pub ordinary : (is_man p.side Pawn (man_at p.men a) && goes_specially p a) ≡ false
