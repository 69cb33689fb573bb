-- The index of a game's positions: the heads of its buckets, and the entry of each played move. Positions are numbered
-- from 0, the start, on; number k + 1 is the one that played move k reached.
use Rattle.std.specs.Prelude.{◌≡◌, ◌<◌, ◌+◌, ◌%◌, ◌==◌, ℕ, zero, suc, Bool, cond, if◌then◌else◌, List, [], ◌∷◌, length, get_or}
use Rattle.chess_base.specs.declared.man.Move.{Move}
use Rattle.chess_base.specs.declared.setup.Saved.{Saved}
use Rattle.chess_base.specs.declared.setup.Setup.{Setup}
use Rattle.chess_moves.specs.Made.{WasMade}
use Rattle.chess_game.specs.Line.{position_after}
use Rattle.chess_game.specs.Same.{is_same_position}
use Rattle.chess_game.specs.ties.PlayedMoves.{moves_of}
use Rattle.chess_game.specs.declared.repetition.Hashed.{Hashed}
use Rattle.chess_game.specs.declared.game.PlayedMove.{PlayedMove}
use Rattle.chess_game.specs.declared.index.TheConstants.{BUCKETS}

-- the number of the bucket that a position is put into, by its hash
abbrev pub bucket : Hashed → ℕ
bucket k = k.hash % BUCKETS

-- one more legal move leads to the position `now`, in the game from `start` by the played moves xs
abbrev pub IsNext : Hashed → List PlayedMove → Hashed → Type 0
IsNext start xs now = (m : Move) × (s : Saved) × WasMade (position_after start.position (moves_of xs)) m s now.position

-- the position number k in the game from `start` by the played moves xs: the start for 0, the one that played move k
-- reached for k + 1; for greater numbers the last one
unfoldable pub known_at : Hashed → List PlayedMove → ℕ → Hashed
known_at start xs zero = start
known_at start [] (suc k) = start
known_at start (x ∷ xs) (suc k) = known_at x.reached xs k

-- whether the position with number k, in the game from `start` by the played moves xs, is in bucket b
abbrev pub is_in : Hashed → List PlayedMove → ℕ → ℕ → Bool
is_in start xs b k = bucket (known_at start xs k) == b

-- whether the position with number k, in the game from `start` by the played moves xs, is the same as q (9.2.3)
abbrev pub is_same_at : Hashed → List PlayedMove → Setup → ℕ → Bool
is_same_at start xs q k = is_same_position (known_at start xs k).position q

-- one more than the greatest number below n for which the test t holds, or 0 if it holds for none
unfoldable pub latest_below : (ℕ → Bool) → ℕ → ℕ
latest_below t zero = zero
latest_below t (suc n) = if t n then suc n else latest_below t n

-- for how many numbers below n the test t holds
unfoldable pub count_below : (ℕ → Bool) → ℕ → ℕ
count_below t zero = zero
count_below t (suc n) = count_below t n + cond (t n) 1 0

-- the table has for each bucket the latest position in it, of the first n positions in the game from `start` by the
-- played moves xs: its number plus one, or 0 if there is none
abbrev pub HaveHeads : List ℕ → Hashed → List PlayedMove → ℕ → Type 0
HaveHeads table start xs n = (b : ℕ) → b < BUCKETS → get_or table b 0 ≡ latest_below (is_in start xs b) n

-- the table has an element for each bucket, and says that no position is in any
pub record IsEmpty (table : List ℕ) : Type 0 where
  pub buckets : length table ≡ BUCKETS
  pub none : (b : ℕ) → b < BUCKETS → get_or table b 0 ≡ 0

-- the entry of played move k, which is x, in the game from `start` by the played moves xs, is right for the position
-- that x reached: `earlier` is the latest earlier position in its bucket (its number plus one, or 0 for none), `count`
-- how many positions up to it, itself included, are the same
pub record HasEntry (start : Hashed) (xs : List PlayedMove) (k : ℕ) (x : PlayedMove) : Type 0 where
  pub earlier : x.entry.earlier ≡ latest_below (is_in start xs (bucket x.reached)) (suc k)
  pub count : x.entry.count ≡ suc (count_below (is_same_at start xs x.reached.position) (suc k))

-- each of the played moves xs, in the game from `start`, has its entry in the index, as `HasEntry` says
abbrev pub HaveEntries : Hashed → List PlayedMove → Type 0
HaveEntries start xs = (k : ℕ) (d : PlayedMove) → k < length xs → HasEntry start xs k (get_or xs k d)

-- the table of heads and the entries of the played moves xs are right for all positions in the game from `start`
pub record IsIndexed (table : List ℕ) (start : Hashed) (xs : List PlayedMove) : Type 0 where
  pub buckets : length table ≡ BUCKETS
  pub heads : HaveHeads table start xs (suc (length xs))
  pub entries : HaveEntries start xs
