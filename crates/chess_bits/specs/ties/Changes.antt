-- The squares that a move changes and fills, moves that change their two squares alone, and the halfmove clock after a
-- move.
use Rattle.std.specs.Prelude.{◌≡◌, ℕ, ◌+◌, ◌==◌, not, ◌&&◌, ◌||◌, Bool, true, false, None, is_none, min, Option, Some, if◌then◌else◌}
use Rattle.std.specs.Option.{is_some}
use Rattle.chess_base.specs.declared.man.Kind.{Kind}
use Rattle.chess_base.specs.declared.man.Kind.TheVariants.{King, Queen, Rook, Bishop, Knight, Pawn}
use Rattle.chess_base.specs.declared.man.Man.{Man}
use Rattle.chess_base.specs.declared.man.Move.{Move}
use Rattle.chess_base.specs.declared.man.Rights.{Rights}
use Rattle.chess_base.specs.declared.setup.Setup.{Setup}
use Rattle.chess_base.specs.declared.setup.TheConstants.{COUNTER_LIMIT}
use Rattle.chess_base.specs.Castling.{castle_of, mover_end, castling_rook_to}
use Rattle.chess_base.specs.Men.{man_at, is_man, same_kind}
use Rattle.chess_base.specs.Moves.{is_pseudo_legal, is_en_passant, second_square_emptied}
use Rattle.chess_base.specs.Squares.{is_at}

-- by move m of position p a piece arrives on square k or leaves it: the mover, the castling rook, or a pawn taken en
-- passant
abbrev pub is_changed : Setup → Move → ℕ → Bool
is_changed p m k = (mover_end p m == k) || is_at (castling_rook_to p m) k
    || (is_at (second_square_emptied p m) k || (m.from == k))

-- by move m of position p a piece arrives on square k: the mover, or the castling rook
abbrev pub is_filled : Setup → Move → ℕ → Bool
is_filled p m k = (mover_end p m == k) || is_at (castling_rook_to p m) k

-- move m is pseudo-legal, not the king's and not en passant; so only what is on its two squares changes
pub record StepsPlainly (p : Setup) (m : Move) : Type 0 where
  pub pattern : is_pseudo_legal p m ≡ true
  pub no_king : is_man p.side King (man_at p.men m.from) ≡ false
  pub no_passing : (is_man p.side Pawn (man_at p.men m.from) && is_at p.target m.to) ≡ false

-- neither colour has a castling right
abbrev pub has_no_right : Rights → Bool
has_no_right r = is_none r.white.king_side && is_none r.white.queen_side && is_none r.black.king_side
    && is_none r.black.queen_side

-- a square's content is a king or a rook, of either colour
abbrev pub is_king_or_rook : Option Man → Bool
is_king_or_rook None = false
is_king_or_rook (Some x) = same_kind King x.kind || same_kind Rook x.kind

-- move m of position p is neither castling nor en passant, so only what is on its two squares changes
pub record IsPlainly (p : Setup) (m : Move) : Type 0 where
  pub no_castle : castle_of p m ≡ None
  pub no_passing : is_en_passant p m ≡ false

-- move m, of a piece of this kind, is surely neither castling nor en passant: it is a king's without castling rights, a
-- pawn's but not to the en passant target, or another piece's
abbrev pub goes_plainly : Setup → Move → Kind → Bool
goes_plainly p m King = has_no_right p.rights
goes_plainly p m Queen = true
goes_plainly p m Rook = true
goes_plainly p m Bishop = true
goes_plainly p m Knight = true
goes_plainly p m Pawn = not (is_at p.target m.to)

-- move m, of a piece of kind k, is no promotion, and surely neither castling nor en passant: it takes the piece from
-- one square to the other and changes no more
abbrev pub shifts : Setup → Move → Kind → Bool
shifts p m k = is_none m.promotion && goes_plainly p m k

-- the given piece, if move m of it takes it from one square to the other and changes no more; otherwise none
abbrev pub shifted : Setup → Move → Option Man → Option Man
shifted p m None = None
shifted p m (Some x) = if shifts p m x.kind then Some x else None

-- the halfmove clock after a move of a piece of this kind to a square with the content `taken`; it was n before. At
-- most `COUNTER_LIMIT`
abbrev pub clock_left : ℕ → Kind → Option Man → ℕ
clock_left n kind taken = if same_kind Pawn kind || is_some taken then 0 else min (n + 1) COUNTER_LIMIT
