-- How a game ends, by its moves and its positions (Laws of Chess 2023, articles 5.1.1, 5.2.1, 9.2, 9.3 and 9.6).
use Rattle.std.specs.Prelude.{◌≡◌, ◌≢◌, ◌↔◌, ℕ, ◌+◌, ◌≤◌, ◌<◌, true, false, IsTrue, List, length, take, slice_get, Some, None}
use Rattle.std.specs.List.{AllPairs, AllByRecursion}
use Rattle.chess_base.specs.declared.man.Colour.TheVariants.{White, Black}
use Rattle.chess_base.specs.declared.man.Kind.TheVariants.{Pawn}
use Rattle.chess_base.specs.declared.man.Move.{Move}
use Rattle.chess_base.specs.declared.setup.Setup.{Setup}
use Rattle.chess_base.specs.declared.setup.TheConstants.{COUNTER_LIMIT}
use Rattle.chess_base.specs.Attacks.{is_in_check}
use Rattle.chess_base.specs.Men.{man_at, is_of, is_man, other}
use Rattle.chess_base.specs.Moves.{is_legal, after}
use Rattle.chess_base.specs.Sound.{IsSound}
use Rattle.chess_game.specs.declared.verdicts.Verdict.TheVariants.{WhiteMates, BlackMates, Stalemate, FivefoldRepetition, SeventyFiveMoves}
use Rattle.chess_game.specs.Ends.{claims, has_insufficient_material, verdict}
use Rattle.chess_game.specs.Line.{position_after, IsLine}
use Rattle.chess_game.specs.Same.{is_same_position}

-- ---- mate and stalemate

-- no move is legal in position p
abbrev pub HasNoMove : Setup → Type 0
HasNoMove p = (m : Move) → is_legal p m ≡ false

-- mate: the side on move is in check, and no move is legal (5.1.1)
pub record IsMate (p : Setup) : Type 0 where
  pub check : is_in_check p.men p.side ≡ true
  pub moves : HasNoMove p

-- stalemate: the side on move is not in check, and no move is legal (5.2.1)
pub record IsStalemate (p : Setup) : Type 0 where
  pub check : is_in_check p.men p.side ≡ false
  pub moves : HasNoMove p

-- the verdict on the game from `start` by the moves ms is mate by a colour exactly if in its present position the other
-- colour is on move and mated, and stalemate exactly if that position is stalemate
pub record EndsByNoMove (start : Setup) (ms : List Move) : Type 0 where
  pub white_mates : (verdict start ms ≡ Some WhiteMates)
      ↔ (((position_after start ms).side ≡ Black) × IsMate (position_after start ms))
  pub black_mates : (verdict start ms ≡ Some BlackMates)
      ↔ (((position_after start ms).side ≡ White) × IsMate (position_after start ms))
  pub stalemate : (verdict start ms ≡ Some Stalemate) ↔ IsStalemate (position_after start ms)

-- `EndsByNoMove` holds for any moves from any start
abbrev pub NoMoveEnds : Type 0
NoMoveEnds = (start : Setup) (ms : List Move) → EndsByNoMove start ms

-- ---- repetition

-- the position of a game after its first k moves
abbrev pub position_at : Setup → List Move → ℕ → Setup
position_at start ms k = position_after start (take k ms)

-- the game's present position is there for at least the n-th time: after at least n different numbers of its moves the
-- position was the same (9.2.3)
pub record IsThere (n : ℕ) (start : Setup) (ms : List Move) : Type 0 where
  -- these numbers of moves
  pub times : List ℕ
  pub many : n ≤ length times
  pub rising : AllPairs (λ j k. j < k) times
  pub same : AllByRecursion
      (λ k. (k ≤ length ms) × IsTrue (is_same_position (position_at start ms k) (position_after start ms))) times

-- ---- quiet moves

-- move m of position p is no pawn move and no capture
pub record IsQuiet (p : Setup) (m : Move) : Type 0 where
  pub pawn : is_man p.side Pawn (man_at p.men m.from) ≡ false
  pub capture : is_of (other p.side) (man_at p.men m.to) ≡ false

-- the last n half-moves are quiet: the game's last n moves are; or, if it has fewer, all are, and the start's halfmove
-- clock makes up the rest
pub record IsQuietFor (n : ℕ) (start : Setup) (ms : List Move) : Type 0 where
  -- with those that the start counts there are n
  pub many : n ≤ start.halfmove + length ms
  -- the move at the index k, if it is among the last n
  pub quiet : (k : ℕ) (m : Move) → slice_get ms k ≡ Some m → length ms ≤ k + n → IsQuiet (position_at start ms k) m

-- each game's halfmove clock is at least n exactly if the last n half-moves are quiet; n is at most 999,999
-- (`COUNTER_LIMIT`), where the clock stops
abbrev pub ClocksCountQuietMoves : Type 0
ClocksCountQuietMoves = (n : ℕ) (start : Setup) (ms : List Move) → n ≤ COUNTER_LIMIT
    → ((n ≤ (position_after start ms).halfmove) ↔ IsQuietFor n start ms)

-- the counters after move m of position p: a quiet move raises the halfmove clock by one, a move of Black the fullmove
-- number, which a move of White doesn't change; but each stays at 999,999
pub record CountsOn (p : Setup) (m : Move) : Type 0 where
  pub quiet : IsQuiet p m → p.halfmove < 999999 → (after p m).halfmove ≡ p.halfmove + 1
  pub full_clock : IsQuiet p m → p.halfmove ≡ 999999 → (after p m).halfmove ≡ 999999
  pub white : p.side ≡ White → (after p m).fullmove ≡ p.fullmove
  pub black : p.side ≡ Black → p.fullmove < 999999 → (after p m).fullmove ≡ p.fullmove + 1
  pub full_number : p.side ≡ Black → p.fullmove ≡ 999999 → (after p m).fullmove ≡ 999999

-- `CountsOn` holds of each move of each position
abbrev pub CountersStop : Type 0
CountersStop = (p : Setup) (m : Move) → CountsOn p m

-- ---- draws by counting

-- a game is over once its present position is there for the fifth time or the last 150 half-moves are quiet, and is not
-- drawn for this reason before; if both hold, the verdict is not the 75-move rule. A draw can be claimed exactly from
-- the third time on or after 100 quiet half-moves
pub record EndsByCounting (start : Setup) (ms : List Move) : Type 0 where
  pub fivefold : verdict start ms ≡ Some FivefoldRepetition → IsThere 5 start ms
  pub at_fifth : IsThere 5 start ms → verdict start ms ≢ None
  pub seventy_five_moves : verdict start ms ≡ Some SeventyFiveMoves → IsQuietFor 150 start ms
  pub after_150 : IsQuietFor 150 start ms → verdict start ms ≢ None
  pub fivefold_first : IsThere 5 start ms → verdict start ms ≢ Some SeventyFiveMoves
  pub threefold : IsTrue (claims start ms).threefold ↔ IsThere 3 start ms
  pub fifty_moves : IsTrue (claims start ms).fifty_moves ↔ IsQuietFor 100 start ms

-- `EndsByCounting` holds for any moves from any start
abbrev pub CountingEnds : Type 0
CountingEnds = (start : Setup) (ms : List Move) → EndsByCounting start ms

-- ---- insufficient material (5.2.2)

-- from a sound position of insufficient material no legal moves lead to mate
abbrev pub InsufficientNeverMates : Type 0
InsufficientNeverMates = (start : Setup) (ms : List Move) → IsSound start
    → IsTrue (has_insufficient_material start.men) → IsLine start ms → IsMate (position_after start ms) → ⊥
