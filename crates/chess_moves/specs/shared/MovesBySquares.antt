-- The legal moves from one square, and those from one square to another, as lists.
use Rattle.std.specs.Prelude.{ℕ, Option, List, map, filter, flat_map}
use Rattle.chess_base.specs.declared.man.Kind.{Kind}
use Rattle.chess_base.specs.declared.man.Move.{Move}
use Rattle.chess_base.specs.declared.setup.Setup.{Setup}
use Rattle.chess_base.specs.Moves.{is_legal}
use Rattle.chess_base.specs.MoveList.{promotions, move_of}
use Rattle.chess_base.specs.Squares.{squares}

-- the legal moves from square a to square b with one of the promotions `kinds` (`None`: without a promotion), in the
-- order of these
abbrev pub moves_with : Setup → ℕ → ℕ → List (Option Kind) → List Move
moves_with p a b kinds = filter (λ m. is_legal p m) (map (move_of a b) kinds)

-- all legal moves from square a to square b, with a promotion or without
unfoldable pub moves_between : Setup → ℕ → ℕ → List Move
moves_between p a b = moves_with p a b promotions

-- all legal moves from square a, rising by end square, and with the same end in the order of `promotions`
unfoldable pub moves_from : Setup → ℕ → List Move
moves_from p a = flat_map (λ b. moves_between p a b) squares
