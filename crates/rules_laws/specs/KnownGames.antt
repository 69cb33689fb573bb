-- Games that chess players know.
use Rattle.std.specs.Prelude.{◌≡◌, List, [], ◌∷◌, Some, None}
use Prim.Native.String.{String as Text}
use Rattle.chess_base.specs.declared.man.Move.{Move}
use Rattle.chess_base.specs.Initial.{initial_setup}
use Rattle.chess_game.specs.Ends.{verdict}
use Rattle.chess_game.specs.Line.{IsLine}
use Rattle.chess_game.specs.declared.verdicts.Verdict.TheVariants.{WhiteMates, BlackMates}
use Rattle.rules_laws.specs.Names.{square}

-- the move between two named squares
abbrev pub move_by : Text → Text → Move
move_by from to = record { from = square from; to = square to; promotion = None }

-- the scholar's mate: 1 e4 e5 2 Bc4 Nc6 3 Qh5 Nf6 4 Qxf7#
abbrev pub scholars_mate : List Move
scholars_mate =
    move_by "e2" "e4" ∷ move_by "e7" "e5" ∷ move_by "f1" "c4" ∷ move_by "b8" "c6" ∷
    move_by "d1" "h5" ∷ move_by "g8" "f6" ∷ move_by "h5" "f7" ∷ []

-- the fool's mate: 1 f3 e5 2 g4 Qh4#
abbrev pub fools_mate : List Move
fools_mate = move_by "f2" "f3" ∷ move_by "e7" "e5" ∷ move_by "g2" "g4" ∷ move_by "d8" "h4" ∷ []

-- the moves of both games are legal, and the last one mates: White wins the scholar's mate, and Black the fool's mate
pub record KnownGamesEnd : Type 0 where
  pub scholars : IsLine initial_setup scholars_mate
  pub white_mates : verdict initial_setup scholars_mate ≡ Some WhiteMates
  pub fools : IsLine initial_setup fools_mate
  pub black_mates : verdict initial_setup fools_mate ≡ Some BlackMates
