-- Where the pieces of the side on move may go without leaving their king attacked.
use Rattle.std.specs.Prelude.{◌≡◌, ℕ, ◌<◌, ◌==◌, not, ◌&&◌, ◌||◌, Bool, true, false}
use Rattle.chess_base.specs.declared.man.Kind.TheVariants.{King, Queen, Rook, Bishop}
use Rattle.chess_base.specs.declared.man.Move.{Move}
use Rattle.chess_base.specs.declared.setup.Setup.{Setup}
use Rattle.chess_base.specs.Attacks.{is_clear}
use Rattle.chess_base.specs.Men.{man_at, is_man, other}
use Rattle.chess_base.specs.Moves.{is_legal}
use Rattle.chess_base.specs.Squares.{share_rank_or_file, share_diagonal}
use Rattle.chess_bits.specs.ties.Goes.{lifted}
use Rattle.chess_moves.specs.Sets.{contains}

-- on square b is a queen, rook or bishop of the side that is not on move, which would attack square k if nothing were
-- between them
abbrev pub aims_from : Setup → ℕ → ℕ → Bool
aims_from p b k =
    ((is_man (other p.side) Rook (man_at p.men b) || is_man (other p.side) Queen (man_at p.men b))
    && (not (b == k) && share_rank_or_file b k))
    || ((is_man (other p.side) Bishop (man_at p.men b) || is_man (other p.side) Queen (man_at p.men b))
    && (not (b == k) && share_diagonal b k))

-- taking off the piece on a doesn't open the way from b to k: it stays blocked, or it was clear before
abbrev pub KeepsClosed : Setup → ℕ → ℕ → ℕ → Type 0
KeepsClosed p a b k = is_clear (lifted p.men a) b k ≡ true → is_clear p.men b k ≡ true

-- the way from b to k is clear with the piece on s taken off, and taking off any other piece doesn't open it
-- (`KeepsClosed`): so if it is not clear, the one piece between b and k is on s
pub record IsShield (p : Setup) (s b k : ℕ) : Type 0 where
  pub low : s < 64
  pub opens : is_clear (lifted p.men s) b k ≡ true
  pub alone : (a : ℕ) → a < 64 → (a == s) ≡ false → KeepsClosed p a b k

-- each legal move of the piece on a ends on a square of the set w
abbrev pub EndsOn : Setup → ℕ → ℕ → Type 0
EndsOn p a w = (m : Move) → is_legal p m ≡ true → m.from ≡ a → contains w m.to ≡ true

-- each legal move of a piece outside the set `free`, except the king, ends on a square of the set w
abbrev pub AreEvasions : Setup → ℕ → ℕ → Type 0
AreEvasions p free w =
    (a : ℕ) → a < 64 → is_man p.side King (man_at p.men a) ≡ false → contains free a ≡ false → EndsOn p a w
