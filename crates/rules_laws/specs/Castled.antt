-- Castling by the names of its squares (Laws of Chess 2023, article 3.8.2; Guidelines II for Chess960).
use Rattle.std.specs.Prelude.{◌≡◌, ◌≢◌, ◌↔◌, ℕ, ◌<◌, ◌≤◌, nat_lt, ◌⊎◌, Bool, false, IsTrue, List, [], ◌∷◌, length, None, Some}
use Rattle.std.specs.List.{AllByRecursion}
use Rattle.chess_base.specs.declared.castling.Castle.{Castle}
use Rattle.chess_base.specs.declared.man.Colour.{Colour}
use Rattle.chess_base.specs.declared.man.Colour.TheVariants.{White, Black}
use Rattle.chess_base.specs.declared.man.CastlingSide.{CastlingSide}
use Rattle.chess_base.specs.declared.man.CastlingSide.TheVariants.{KingSide, QueenSide}
use Rattle.chess_base.specs.declared.man.Kind.TheVariants.{King, Rook}
use Rattle.chess_base.specs.declared.man.Move.{Move}
use Rattle.chess_base.specs.declared.man.Variant.TheVariants.{Normal, Fischerandom}
use Rattle.chess_base.specs.declared.setup.Setup.{Setup}
use Rattle.chess_base.specs.Attacks.{is_attacked}
use Rattle.chess_base.specs.Castling.{right_of, right_is_sound}
use Rattle.chess_base.specs.Men.{man_at, is_man, other}
use Rattle.chess_base.specs.Moves.{is_legal, after}
use Rattle.chess_base.specs.Sound.{IsSound, has_one_king}
use Rattle.rules_laws.specs.Names.{square}

-- a colour's castling on one side: where king and rook start in normal chess, and where they end in both variants
abbrev pub castling_of : Colour → CastlingSide → Castle
castling_of White KingSide =
    record { king_from = square "e1"; king_to = square "g1"; rook_from = square "h1"; rook_to = square "f1" }
castling_of White QueenSide =
    record { king_from = square "e1"; king_to = square "c1"; rook_from = square "a1"; rook_to = square "d1" }
castling_of Black KingSide =
    record { king_from = square "e8"; king_to = square "g8"; rook_from = square "h8"; rook_to = square "f8" }
castling_of Black QueenSide =
    record { king_from = square "e8"; king_to = square "c8"; rook_from = square "a8"; rook_to = square "d8" }

-- after move m of position p its side has castled as k says: king and rook are on `king_to` and `rook_to`, the squares
-- where they started are empty, unless one of them ends there, and all else is as it was
pub record HasCastled (p : Setup) (m : Move) (k : Castle) : Type 0 where
  pub king : IsTrue (is_man p.side King (man_at (after p m).men k.king_to))
  pub rook : IsTrue (is_man p.side Rook (man_at (after p m).men k.rook_to))
  pub left : (s : ℕ) → (s ≡ k.king_from) ⊎ (s ≡ k.rook_from) → s ≢ k.king_to → s ≢ k.rook_to
      → man_at (after p m).men s ≡ None
  pub others : (s : ℕ) → s < 64 → s ≢ k.king_from → s ≢ k.rook_from → s ≢ k.king_to → s ≢ k.rook_to
      → man_at (after p m).men s ≡ man_at p.men s

-- normal chess: a king that legally goes from e1 to g1 in a sound position castles with the rook from h1; likewise
-- e1c1, e8g8 and e8c8 with the rooks from a1, h8 and a8
abbrev pub NormalCastlingEnds : Type 0
NormalCastlingEnds = (p : Setup) (m : Move) (w : CastlingSide) → IsSound p → p.variant ≡ Normal
    → IsTrue (is_legal p m) → IsTrue (is_man p.side King (man_at p.men m.from))
    → m.from ≡ (castling_of p.side w).king_from → m.to ≡ (castling_of p.side w).king_to
    → HasCastled p m (castling_of p.side w)

-- square b, on the rank of a, is towards the h-file from a (king side), or towards the a-file (queen side)
abbrev pub is_towards : CastlingSide → ℕ → ℕ → Bool
is_towards KingSide a b = nat_lt a b
is_towards QueenSide a b = nat_lt b a

-- Chess960: a king that legally goes to the square of its own rook, in a sound position, castles with it: they end as
-- in normal chess, on the king side if the rook was towards the h-file, otherwise on the queen side
abbrev pub FischerandomCastlingEnds : Type 0
FischerandomCastlingEnds = (p : Setup) (m : Move) (w : CastlingSide) → IsSound p → p.variant ≡ Fischerandom
    → IsTrue (is_legal p m) → IsTrue (is_man p.side King (man_at p.men m.from))
    → IsTrue (is_man p.side Rook (man_at p.men m.to)) → IsTrue (is_towards w m.from m.to)
    → HasCastled p m (record (castling_of p.side w) { king_from = m.from; rook_from = m.to })

-- the squares that must be empty for castling in normal chess (3.8.2.2.2)
abbrev pub empty_squares : Colour → CastlingSide → List ℕ
empty_squares White KingSide = square "f1" ∷ square "g1" ∷ []
empty_squares White QueenSide = square "b1" ∷ square "c1" ∷ square "d1" ∷ []
empty_squares Black KingSide = square "f8" ∷ square "g8" ∷ []
empty_squares Black QueenSide = square "b8" ∷ square "c8" ∷ square "d8" ∷ []

-- the squares that must not be attacked for castling in normal chess (3.8.2.2.1)
abbrev pub safe_squares : Colour → CastlingSide → List ℕ
safe_squares White KingSide = square "e1" ∷ square "f1" ∷ square "g1" ∷ []
safe_squares White QueenSide = square "c1" ∷ square "d1" ∷ square "e1" ∷ []
safe_squares Black KingSide = square "e8" ∷ square "f8" ∷ square "g8" ∷ []
safe_squares Black QueenSide = square "c8" ∷ square "d8" ∷ square "e8" ∷ []

-- the side on move may castle on side w in normal chess: it has the right, `empty_squares` are empty, and the opponent
-- attacks none of `safe_squares`
pub record MayCastle (p : Setup) (w : CastlingSide) : Type 0 where
  pub right : right_of p.rights p.side w ≢ None
  pub empty : AllByRecursion (λ s. man_at p.men s ≡ None) (empty_squares p.side w)
  pub safe : AllByRecursion (λ s. is_attacked p.men s (other p.side) ≡ false) (safe_squares p.side w)

-- the king's move by which colour c castles in normal chess, as e1g1
abbrev pub castling_move : Colour → CastlingSide → Move
castling_move c w = record { from = (castling_of c w).king_from; to = (castling_of c w).king_to; promotion = None }

-- normal chess: in a sound position with its king on e1 (or e8), the side on move can castle on side w exactly if
-- `MayCastle` holds
abbrev pub NormalCastlingIsLegal : Type 0
NormalCastlingIsLegal = (p : Setup) (w : CastlingSide) → IsSound p → p.variant ≡ Normal
    → IsTrue (is_man p.side King (man_at p.men (castling_of p.side w).king_from))
    → IsTrue (is_legal p (castling_move p.side w)) ↔ MayCastle p w

-- ---- rights of Chess960

-- square s is on colour c's first rank, a1 to h1 or a8 to h8
abbrev pub IsOnFirstRank : Colour → ℕ → Type 0
IsOnFirstRank White s = (square "a1" ≤ s) × (s ≤ square "h1")
IsOnFirstRank Black s = (square "a8" ≤ s) × (s ≤ square "h8")

-- colour c's king and a rook of c are on these squares of c's first rank, the rook towards the h-file from the king
-- (king side) or towards the a-file (queen side)
pub record AreAtHome (p : Setup) (c : Colour) (w : CastlingSide) (king rook : ℕ) : Type 0 where
  pub is_king : IsTrue (is_man c King (man_at p.men king))
  pub is_rook : IsTrue (is_man c Rook (man_at p.men rook))
  pub king_rank : IsOnFirstRank c king
  pub rook_rank : IsOnFirstRank c rook
  pub side : IsTrue (is_towards w king rook)

-- Chess960, where colour c has one king: c's right to castle with the rook on the square `rook` is sound exactly if
-- `AreAtHome` holds for king and rook
abbrev pub FischerandomRightsAreAtHome : Type 0
FischerandomRightsAreAtHome = (p : Setup) (c : Colour) (w : CastlingSide) (rook : ℕ) → p.variant ≡ Fischerandom
    → length p.men ≡ 64 → IsTrue (has_one_king p.men c) → right_of p.rights c w ≡ Some rook
    → IsTrue (right_is_sound p c w) ↔ ((king : ℕ) × AreAtHome p c w king rook)
