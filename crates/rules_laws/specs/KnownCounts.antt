-- How many moves known positions have, in which positions of Chess960 castling is legal, and verdicts of small endings.
use Rattle.std.specs.Prelude.{◌≡◌, ℕ, Bool, true, false, [], codes, length, option_map, Option, Some, None}
use Prim.Native.String.{String as Text}
use Rattle.std.specs.Result.{result_ok}
use Rattle.chess_base.specs.declared.man.Variant.{Variant}
use Rattle.chess_base.specs.declared.man.Variant.TheVariants.{Normal, Fischerandom}
use Rattle.chess_base.specs.MoveList.{moves}
use Rattle.chess_base.specs.Moves.{is_legal}
use Rattle.chess_fen.specs.Reading.{fen_reading_as}
use Rattle.chess_game.specs.Ends.{verdict}
use Rattle.chess_game.specs.declared.verdicts.Verdict.{Verdict}
use Rattle.chess_game.specs.declared.verdicts.Verdict.TheVariants.{WhiteMates, Stalemate, InsufficientMaterial, SeventyFiveMoves}
use Rattle.rules_laws.specs.KnownGames.{move_by}

-- ---- counts

-- how many moves are legal in the position of a FEN of variant v; `None` if it is refused
abbrev pub move_count : Variant → Text → Option ℕ
move_count v text = option_map (λ p. length (moves p)) (result_ok (fen_reading_as v (codes text)))

-- the position of this FEN, read as one of variant v, has n legal moves
abbrev pub HasMoves : Variant → Text → ℕ → Type 0
HasMoves v text n = move_count v text ≡ Some n

-- the third of the six usual perft positions
abbrev pub third_position : Text
third_position = "8/2p5/3p4/KP5r/1R3p1k/8/4P1P1/8 w - - 0 1"

-- a usual perft position with promotions on both sides
abbrev pub with_promotions : Text
with_promotions = "n1n5/PPPk4/8/8/8/8/4Kppp/5N1N b - - 0 1"

-- Chess960 with all rights, where no castling is legal: enemy rooks attack the squares beside each king
abbrev pub rooks_beside : Text
rooks_beside = "2rkr3/8/8/8/8/8/8/2RKR3 w ECec - 0 1"

-- Chess960: White may castle. The king goes from b1 to c1, neither attacked, and the rook from a1 to the attacked d1
abbrev pub may_castle : Text
may_castle = "3rk3/8/8/8/8/8/8/RK6 w Q - 0 1"

-- Chess960: White may castle. The king goes from f1 to g1, and the rook from g1 to f1
abbrev pub castles_onto_rook : Text
castles_onto_rook = "4k3/8/8/8/8/8/8/5KR1 w K - 0 1"

-- a position in which a knight blocks a pawn
abbrev pub pawn_blocked : Text
pawn_blocked = "4k3/8/8/8/8/4n3/4P3/4K3 w - - 0 1"

-- how many legal moves these positions have; the first two counts are published (perft, depth 1)
pub record MovesAreAsMany : Type 0 where
  pub third : HasMoves Normal third_position 14
  pub promotions : HasMoves Normal with_promotions 24
  pub beside : HasMoves Fischerandom rooks_beside 20
  -- seven moves of the rook, four of the king (a2, b2, c1, c2), and castling
  pub castles : HasMoves Fischerandom may_castle 12
  -- eight moves of the rook, four of the king (e1, e2, f2, g2), and castling
  pub castles_onto : HasMoves Fischerandom castles_onto_rook 13
  pub blocked : HasMoves Normal pawn_blocked 2

-- ---- castling in Chess960 (Guidelines II)

-- whether the king on one named square may castle with the rook on another, in the position of a FEN of Chess960;
-- `None` if the FEN is refused
abbrev pub castling_in : Text → Text → Text → Option Bool
castling_in text king rook =
    option_map (λ p. is_legal p (move_by king rook)) (result_ok (fen_reading_as Fischerandom (codes text)))

-- in the position of this FEN the king on the first square may castle with the rook on the second
abbrev pub MayCastleIn : Text → Text → Text → Type 0
MayCastleIn text king rook = castling_in text king rook ≡ Some true

-- in the position of this FEN, which is accepted, the king on the first square may not castle with the rook on the
-- second
abbrev pub MayNotCastleIn : Text → Text → Text → Type 0
MayNotCastleIn text king rook = castling_in text king rook ≡ Some false

-- in which positions of Chess960 the king may castle
pub record CastlingIsKnown : Type 0 where
  -- the king stays where it is, or the rook does
  pub king_on_c1 : MayCastleIn "4k3/8/8/8/8/8/8/R1K5 w Q - 0 1" "c1" "a1"
  pub king_on_g1 : MayCastleIn "4k3/8/8/8/8/8/8/6KR w K - 0 1" "g1" "h1"
  pub rook_on_d1 : MayCastleIn "4k3/8/8/8/8/8/8/3RK3 w Q - 0 1" "e1" "d1"
  -- the king goes from b1 to g1, and the enemy rook attacks e1
  pub way_attacked : MayNotCastleIn "4r1k1/8/8/8/8/8/8/1K5R w K - 0 1" "b1" "h1"
  -- the rook goes from a1 to d1, and a knight is on b1
  pub way_blocked : MayNotCastleIn "4k3/8/8/8/8/8/8/RN1K4 w Q - 0 1" "d1" "a1"
  -- the rook goes from b1 to d1, and uncovers the attack of the enemy rook on a1
  pub uncovered : MayNotCastleIn "4k3/8/8/8/8/8/8/rRK5 w B - 0 1" "c1" "b1"

-- ---- ends

-- the verdict on the position of a FEN of normal chess: `Some None` if it has none, `None` if the FEN is refused
abbrev pub judged_fen : Text → Option (Option Verdict)
judged_fen text = option_map (λ p. verdict p []) (result_ok (fen_reading_as Normal (codes text)))

-- the position of a FEN has this verdict
abbrev pub IsJudged : Text → Verdict → Type 0
IsJudged text v = judged_fen text ≡ Some (Some v)

-- small endings with their verdicts
pub record EndingsAreJudged : Type 0 where
  pub mate : IsJudged "7k/6Q1/6K1/8/8/8/8/8 b - - 0 1" WhiteMates
  pub stalemate : IsJudged "7k/5Q2/6K1/8/8/8/8/8 b - - 0 1" Stalemate
  pub kings : IsJudged "4k3/8/8/8/8/8/8/4K3 w - - 0 1" InsufficientMaterial
  pub bishop : IsJudged "4k3/8/8/8/8/8/8/4KB2 w - - 0 1" InsufficientMaterial
  pub knight : IsJudged "4kn2/8/8/8/8/8/8/4K3 w - - 0 1" InsufficientMaterial
  -- bishops of either side on squares of one colour
  pub bishops : IsJudged "4kb2/8/8/8/8/8/8/2B1K3 w - - 0 1" InsufficientMaterial
  pub three_bishops : IsJudged "4kb2/8/8/8/8/8/8/B1B1K3 w - - 0 1" InsufficientMaterial
  pub on_white_squares : IsJudged "4k1b1/8/8/8/8/8/8/4KB2 w - - 0 1" InsufficientMaterial
  -- the 75-move rule, which insufficient material precedes
  pub after_150 : IsJudged "4k3/8/8/8/8/8/8/R3K3 w - - 150 1" SeventyFiveMoves
  pub after_149 : judged_fen "4k3/8/8/8/8/8/8/R3K3 w - - 149 1" ≡ Some None
  pub kings_after_150 : IsJudged "4k3/8/8/8/8/8/8/4K3 w - - 150 1" InsufficientMaterial
