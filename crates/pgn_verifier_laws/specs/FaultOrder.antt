-- Which of several faults at a game's end is reported, and after which ends a game may continue, worked out.
use Rattle.std.specs.Prelude.{◌≡◌, ℕ, Bool, true, false, Option, Some, None, Result, Ok, Err}
use Rattle.chess_game.specs.declared.results.Outcome.TheVariants.{WhiteWins, Draw, Unfinished}
use Rattle.chess_game.specs.declared.verdicts.Verdict.{Verdict}
use Rattle.chess_game.specs.declared.verdicts.Verdict.TheVariants.{WhiteMates, BlackMates, Stalemate, InsufficientMaterial, FivefoldRepetition, SeventyFiveMoves}
use Rattle.chess_game.specs.Game.{State, verdict_now}
use Rattle.chess_pgn.specs.GameRead.{ending, not_of_2014}
use Rattle.chess_pgn.specs.declared.read.PgnEnd.{PgnEnd}
use Rattle.chess_pgn.specs.declared.read.PgnFaultKind.TheVariants.{AfterEnd, IllegalMove}
use Rattle.pgn_verifier.specs.GameFaults.{judged}
use Rattle.pgn_verifier.specs.declared.game_fault.FaultKind.{FaultKind}
use Rattle.pgn_verifier.specs.declared.game_fault.FaultKind.TheVariants.{Pgn, InVariation, UnknownVariant, ResultDiffers, BoardSaysOtherwise}
use Rattle.pgn_verifier.specs.declared.game_fault.GameFault.{GameFault}
use Rattle.verify_options.specs.declared.options.Strictness.{Strictness}

-- a game's end with the marker `1-0`, which begins at the byte 90
abbrev pub won_by_white : PgnEnd
won_by_white = record { outcome = WhiteWins; termination = None; offset = 93 }

-- what is reported of a game that ends with `1-0` and has these faults, if they are looked for: an illegal move in a
-- variation (at the byte 60), an unknown tag Variant (at 10), a tag Result `1/2-1/2` (at 30), a mate by Black on the
-- board
abbrev pub found : (variations variant result board : Bool) → Result (Option PgnEnd) GameFault
found variations variant result board =
    judged (record {
      draws_of_2014 = true;
      variations = variations;
      variant = variant;
      result = result;
      board = board;
    })
    (λ end. Some (record { kind = IllegalMove; offset = 60 })) (Some 10)
    (Some (record { outcome = Some Draw; offset = 30; len = 7 })) (Some BlackMates) (Ok (Some won_by_white))

-- only a verdict of the board is looked for
abbrev pub only_board : Strictness
only_board = record { draws_of_2014 = true; variations = false; variant = false; result = false; board = true }

-- a game's end with the marker `*`, at the byte 90
abbrev pub unfinished_at_90 : PgnEnd
unfinished_at_90 = record { outcome = Unfinished; termination = None; offset = 91 }

-- this fault at this byte
abbrev pub fault_at : FaultKind → ℕ → Result (Option PgnEnd) GameFault
fault_at kind offset = Err (record { kind = kind; offset = offset })

-- the first of these that is looked for is reported: the variation, the variant, the tag, the board; and three more
-- examples
pub record FaultsAreInOrder : Type 0 where
  pub variation_first : found true true true true ≡ fault_at (InVariation IllegalMove) 60
  -- with `--strict`, but not `--variations`
  pub then_variant : found false true true true ≡ fault_at UnknownVariant 10
  pub then_tag : found false false true true ≡ fault_at (ResultDiffers 7 WhiteWins) 30
  pub then_board : found false false false true ≡ fault_at BoardSaysOtherwise 90
  -- with neither `--strict` nor `--variations`
  pub unless_lenient : found false false false false ≡ Ok (Some won_by_white)
  -- a tag Result that names no result, such as `1/2`, differs from every marker
  pub no_outcome : judged (record only_board { result = true }) (λ end. None) None
      (Some (record { outcome = None; offset = 30; len = 3 })) None (Ok (Some won_by_white))
      ≡ fault_at (ResultDiffers 3 WhiteWins) 30
  -- the marker `*` contradicts a mate too
  pub unfinished : judged only_board (λ end. None) None None (Some BlackMates) (Ok (Some unfinished_at_90))
      ≡ fault_at BoardSaysOtherwise 90
  -- a fault of reading, such as a move after a mate, comes before all of these
  pub after_end : judged only_board (λ end. None) None None (Some BlackMates)
      (Err (record { kind = AfterEnd; offset = 39 })) ≡ fault_at (Pgn AfterEnd) 39

-- ---- ends that `--ignore after-end` passes over

-- this verdict ends a game also if fivefold repetition and 75 moves don't
abbrev pub EndsEachGame : Verdict → Type 0
EndsEachGame v = not_of_2014 v ≡ Some v

-- a game may continue after the two draws that the Laws of Chess have had since July 2014, and after no other end
pub record DrawsArePassed : Type 0 where
  pub fivefold : not_of_2014 FivefoldRepetition ≡ None
  pub seventy_five_moves : not_of_2014 SeventyFiveMoves ≡ None
  -- 75 moves end a game only if the draws of 2014 do
  pub passed : (s : State) → verdict_now s ≡ Some SeventyFiveMoves → ending false s ≡ None
  pub heeded : (s : State) → verdict_now s ≡ Some SeventyFiveMoves → ending true s ≡ Some SeventyFiveMoves
  pub white_mates : EndsEachGame WhiteMates
  pub black_mates : EndsEachGame BlackMates
  pub stalemate : EndsEachGame Stalemate
  pub insufficient : EndsEachGame InsufficientMaterial
