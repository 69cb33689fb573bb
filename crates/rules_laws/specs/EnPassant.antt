-- Captures en passant, by the move before them (Laws of Chess 2023, article 3.7.3.1).
use Rattle.std.specs.Prelude.{◌≡◌, ◌≢◌, IsTrue, ℕ, None}
use Rattle.chess_base.specs.declared.man.Colour.{Colour}
use Rattle.chess_base.specs.declared.man.Kind.TheVariants.{Pawn}
use Rattle.chess_base.specs.declared.man.Move.{Move}
use Rattle.chess_base.specs.declared.setup.Setup.{Setup}
use Rattle.chess_base.specs.ByColour.{by_colour}
use Rattle.chess_base.specs.Men.{man_at, is_man}
use Rattle.chess_base.specs.Moves.{is_legal, after}
use Rattle.chess_base.specs.Sound.{IsSound}
use Rattle.chess_base.specs.Squares.{file, rank}

-- move m of position p captures en passant: a pawn goes to another file, to an empty square
pub record CapturesEnPassant (p : Setup) (m : Move) : Type 0 where
  pub pawn : IsTrue (is_man p.side Pawn (man_at p.men m.from))
  pub aside : file m.to ≢ file m.from
  pub empty : man_at p.men m.to ≡ None

-- move m goes on one file from colour c's second rank to its fourth, over square s on its third: e2e4 over e3, e7e5
-- over e6 (ranks count from 0)
pub record GoesTwoSquaresOver (c : Colour) (m : Move) (s : ℕ) : Type 0 where
  pub starts : (file m.from ≡ file s) × (rank m.from ≡ by_colour 1 6 c)
  pub crosses : rank s ≡ by_colour 2 5 c
  pub ends : (file m.to ≡ file s) × (rank m.to ≡ by_colour 3 4 c)

-- move `before` of position p was a pawn's double advance over the end square of the next move, m, which captures that
-- pawn: its square is empty afterwards
pub record FollowsDoubleAdvance (p : Setup) (before m : Move) : Type 0 where
  pub pawn : IsTrue (is_man p.side Pawn (man_at p.men before.from))
  pub over : GoesTwoSquaresOver p.side before m.to
  pub captured : man_at (after (after p before) m).men before.to ≡ None

-- of two legal moves from a sound position the second captures en passant only if the first is the double advance of
-- the pawn that it captures
abbrev pub EnPassantFollowsDoubleAdvance : Type 0
EnPassantFollowsDoubleAdvance = (p : Setup) (before m : Move) → IsSound p → IsTrue (is_legal p before)
    → IsTrue (is_legal (after p before) m) → CapturesEnPassant (after p before) m → FollowsDoubleAdvance p before m
