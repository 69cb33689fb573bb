-- What a byte of a rank's text denotes, as code keeps it, and placements read byte by byte.
use Rattle.std.specs.Prelude.{◌≡◌, ℕ, zero, suc, ◌+◌, ◌-◌, ◌*◌, ◌==◌, nat_le, Bool, true, false, List, [], ◌∷◌, ◌++◌, length, take, drop, replicate, Option, Some, None, if◌then◌else◌, option_and_then}
use Rattle.std.specs.List.{position_or_len, before_first}
use Rattle.chess_base.specs.declared.man.Man.{Man}
use Rattle.byte_devices.specs.Bytes.{byte, space}
use Rattle.chess_fen.specs.declared.letters.Run.{Run}
use Rattle.chess_fen.specs.Texts.{squares_of, placement_of}

-- the squares of a run, the first with its piece and the others empty; none if they are more than a rank has
abbrev pub squares_in : Run → Option (List (Option Man))
squares_in r = if nat_le r.squares 8 then Some (r.first ∷ replicate (r.squares - 1) None) else None

-- f of n - 1; none for n = 0
abbrev pub at_lower : {A : Type 0} → ℕ → (ℕ → Option A) → Option A
at_lower zero f = None
at_lower (suc n) f = f n

-- all squares, where the text of a placement ends: the last rank's squares `row`, and then `above`, those of the ranks
-- above it; none if ranks are left (the first argument is their number), or if `row` isn't eight squares
abbrev pub last_rank : ℕ → List (Option Man) → List (Option Man) → Option (List (Option Man))
last_rank zero row above = if length row == 8 then Some (row ++ above) else None
last_rank (suc lower) row above = None

-- the squares that a placement denotes, from a1 on, read byte by byte up to the first space. Already read are `row`,
-- the first squares of a rank with `left` ranks below it, and `above`, the squares of all ranks above it
abbrev pub placing : ℕ → List (Option Man) → List (Option Man) → List ℕ → Option (List (Option Man))
placing left row above [] = last_rank left row above
placing left row above (c ∷ cs) =
    if c == space then last_rank left row above
    else if c == byte "/" then at_lower left (λ lower.
    if length row == 8 then placing lower [] (row ++ above) cs else None)
    else option_and_then (λ squares. placing left (row ++ squares) above cs) (squares_of c)

-- a text from its first space on
abbrev pub from_space : List ℕ → List ℕ
from_space text = drop (position_or_len (λ b. b == space) text) text

-- a whole rank, of the squares `row`, is at the front of a text, and `rest` follows it: reading continues from there
pub record RankIsRead (text : List ℕ) (row : List (Option Man)) (rest : List ℕ) : Type 0 where
  pub on : (left : ℕ) → (above : List (Option Man)) → placing left [] above text ≡ placing left row above rest
  pub back : from_space text ≡ from_space rest
  pub eight : length row ≡ 8

-- no whole rank is at the front of a text
abbrev pub NoRankIsRead : List ℕ → Type 0
NoRankIsRead text = (left : ℕ) → (above : List (Option Man)) → placing left [] above text ≡ None

-- a whole rank (0 for rank 1) was read at the front of a text, up to `rest`, and put on the board: its squares `old`
-- became `new`
pub record RankIsPlaced (text : List ℕ) (rank : ℕ) (old new : List (Option Man)) (rest : List ℕ) : Type 0 where
  pub row : List (Option Man)
  pub read : RankIsRead text row rest
  pub above : drop (8 * rank) new ≡ row ++ drop (8 * rank + 8) old
  pub below : take (8 * rank) new ≡ take (8 * rank) old

-- a text begins with a slash, and `rest` follows it: after a whole rank, the next rank begins there
pub record SlashIsRead (text rest : List ℕ) : Type 0 where
  pub on : (lower : ℕ) → (row above : List (Option Man)) → length row ≡ 8
      → placing (suc lower) row above text ≡ placing lower [] (row ++ above) rest
  pub back : from_space text ≡ from_space rest

-- a text doesn't begin with a slash: after a whole rank that is not the last, it denotes no board
abbrev pub NoSlashIsRead : List ℕ → Type 0
NoSlashIsRead text = (lower : ℕ) → (row above : List (Option Man)) → length row ≡ 8
    → placing (suc lower) row above text ≡ None

-- after the last rank: the placement ends where the text begins (`true`), or continues, and so denotes no board
-- (`false`)
abbrev pub Ends : Bool → List ℕ → Type 0
Ends true text = ((row above : List (Option Man)) → length row ≡ 8 → placing 0 row above text ≡ Some (row ++ above))
    × (from_space text ≡ text)
Ends false text = (row above : List (Option Man)) → length row ≡ 8 → placing 0 row above text ≡ None

-- the field at the front of a text denotes these pieces, and `rest` is the text from the first space on
pub record PlacementIsRead (text : List ℕ) (men : List (Option Man)) (rest : List ℕ) : Type 0 where
  pub denotes : placement_of (before_first (λ b. b == space) text) ≡ Some men
  pub back : rest ≡ from_space text
