-- Which fault is reported of a game that has several, and which draws are passed over, by computation: each row of a
-- definition in specs/FaultOrder is one equation. Two rows are for any state with 75 moves, and follow from that.
use Rattle.std.proofs.Common.{Option, refl, ap, option_and_then}
use Rattle.chess_game.specs.declared.verdicts.Verdict.{Verdict}
use Rattle.chess_pgn.specs.GameRead.{not_of_2014}
use Rattle.pgn_verifier_laws.specs.FaultOrder.{DrawsArePassed, FaultsAreInOrder}

pub faults_are_in_order : FaultsAreInOrder
faults_are_in_order = record {
  variation_first = refl;
  then_variant = refl;
  then_tag = refl;
  then_board = refl;
  unless_lenient = refl;
  no_outcome = refl;
  unfinished = refl;
  after_end = refl;
}

pub draws_are_passed : DrawsArePassed
draws_are_passed = record {
  fivefold = refl;
  seventy_five_moves = refl;
  passed = λ s is. ap (λ (v : Option Verdict). option_and_then not_of_2014 v) is;
  heeded = λ s is. is;
  white_mates = refl;
  black_mates = refl;
  stalemate = refl;
  insufficient = refl;
}
