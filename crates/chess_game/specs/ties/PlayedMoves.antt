-- What a game keeps of its start and of each current move.
use Rattle.std.specs.Prelude.{◌≡◌, ◌≤◌, ◌<◌, ℕ, List, [], ◌∷◌, length, take, map, Option, None}
use Rattle.std.specs.List.{AllByRecursion}
use Rattle.chess_base.specs.declared.man.Colour.{Colour}
use Rattle.chess_base.specs.declared.man.Man.{Man}
use Rattle.chess_base.specs.declared.man.Move.{Move}
use Rattle.chess_base.specs.declared.man.Rights.{Rights}
use Rattle.chess_base.specs.declared.setup.Saved.{Saved}
use Rattle.chess_base.specs.declared.setup.Setup.{Setup}
use Rattle.chess_base.specs.Men.{Men}
use Rattle.chess_moves.specs.Made.{WasMade}
use Rattle.chess_game.specs.Line.{position_after}
use Rattle.chess_game.specs.Same.{legal_en_passant_square}
use Rattle.chess_game.specs.Ends.{verdict}
use Rattle.chess_game.specs.declared.repetition.Hashed.{Hashed}
use Rattle.chess_game.specs.declared.game.PlayedMove.{PlayedMove}
use Rattle.chess_game.specs.declared.game.TheConstants.{MOST_MOVES}

-- the moves alone, of the played moves that a game keeps with their positions
abbrev pub moves_of : List PlayedMove → List Move
moves_of played_moves = map (λ x. x.made) played_moves

-- the en passant square that is kept with a position is right: its target if a legal move captures on it, otherwise
-- none
abbrev pub IsKnown : Hashed → Type 0
IsKnown k = k.legal_en_passant_square ≡ legal_en_passant_square k.position

-- the type of a definition of position hashes: a number from pieces, side on move and castling rights
abbrev pub Hashing : Type 0
Hashing = Men → Colour → Rights → ℕ

-- the hash that is kept with a position is that of the position, by the definition f
abbrev pub HasHash : Hashing → Hashed → Type 0
HasHash f k = k.hash ≡ f k.position.men k.position.side k.position.rights

-- the hashes that are kept with two positions are by one and the same definition
abbrev pub ShareHashing : Hashed → Hashed → Type 0
ShareHashing x y = (f : Hashing) × HasHash f x × HasHash f y

-- the hashes that are kept with the start and with each position that a played move reached are by the definition f
pub record HaveHashes (f : Hashing) (first : Hashed) (played_moves : List PlayedMove) : Type 0 where
  pub start : HasHash f first
  pub later : AllByRecursion (λ (x : PlayedMove). HasHash f x.reached) played_moves

-- what has to be saved of position p to take back a move that captured this piece, or none
abbrev pub saved_with : Setup → Option Man → Saved
saved_with p captured = record {
  captured = captured;
  rights = p.rights;
  target = p.target;
  halfmove = p.halfmove;
  fullmove = p.fullmove;
}

-- the played move x was legal in position p, led from there to q, and is kept with the piece that it captured
abbrev pub WasPlayed : Setup → PlayedMove → Setup → Type 0
WasPlayed p x q = WasMade p x.made (saved_with p x.captured) q

-- from position p on, each played move was legal where it was made, and is kept with the piece that it captured, the
-- position that it reached and the right en passant square of that
abbrev pub Follows : Setup → List PlayedMove → Type 0
Follows p [] = Unit {0}
Follows p (x ∷ xs) = WasPlayed p x x.reached.position × IsKnown x.reached × Follows x.reached.position xs

-- what a game keeps is right: the start's en passant square, the played moves with the positions that they reached from
-- the start, all hashes (by the board's definition f), and the board's position, which is the one after the last move
pub record IsKept (f : Hashing) (start : Hashed) (played_moves : List PlayedMove) (board : Setup) : Type 0 where
  pub known : IsKnown start
  pub follows : Follows start.position played_moves
  pub hashes : HaveHashes f start played_moves
  pub at_end : board ≡ position_after start.position (moves_of played_moves)

-- no verdict came before the last of these moves
pub record IsUnended (start : Setup) (moves : List Move) : Type 0 where
  pub before : (k : ℕ) → k < length moves → verdict start (take k moves) ≡ None

-- a game keeps at most as many moves (`taken`) as its limit, has memory for that many (`capacity`), and the limit is at
-- most `MOST_MOVES`
pub record HasRoom (taken limit capacity : ℕ) : Type 0 where
  pub few : taken ≤ limit
  pub made : limit ≤ capacity
  pub bound : limit ≤ MOST_MOVES
