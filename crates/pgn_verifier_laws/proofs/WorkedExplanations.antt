-- Names of faults, parts of texts that are shown for them, and reasons, by computation: each row of a definition in
-- specs/WorkedExplanations is one equation. Some rows are for any state; where its FEN is said to be `FEN`, that is put
-- in (last_is_shown, reason_is_last).
use Rattle.std.proofs.Common.{◌≡◌, ℕ, List, [], ◌++◌, Some, None, codes, refl, ap}
use Rattle.std.specs.Fmt.{digits}
use Rattle.chess_base.specs.Initial.{initial_setup, initial_setup_of}
use Rattle.chess_fen.specs.Writing.{fen, placement_text}
use Rattle.chess_game.specs.{Ends.result_text, Game.State, Game.current}
use Rattle.chess_pgn.specs.declared.read.PgnFaultKind.TheVariants.{IllegalMove}
use Rattle.pgn_verifier.specs.{Explanations.explanation, Explanations.explanation_line, WrongParts.from_field}
use Rattle.pgn_verifier.specs.declared.game_fault.FaultKind.TheVariants.{Pgn}
use Rattle.pgn_verifier_laws.specs.WorkedExplanations.{FaultsAreCalled, PartsAreShown, ReasonsAreGiven}

pub faults_are_called : FaultsAreCalled
faults_are_called = record {
  bad_tag = refl;
  bad_fen = λ fault. refl;
  bad_token = refl;
  illegal = refl;
  ambiguous = refl;
  after_end = refl;
  too_long = refl;
  comment = refl;
  variation = refl;
  no_result = refl;
  in_variation = refl;
  variant = refl;
  differs = refl;
  board = refl;
}

last_is_shown : (s : State) → fen (current s) ≡ codes "FEN"
    → explanation s (Pgn IllegalMove) None ≡ codes " | FEN"
last_is_shown s is = ap (λ (text : List ℕ). (codes " | " ++ text) ++ []) is

reason_is_last : (s : State) → fen (current s) ≡ codes "FEN"
    → explanation s (Pgn IllegalMove) (Some (codes "why")) ≡ codes " | FEN | why"
reason_is_last s is = ap (λ (text : List ℕ). (codes " | " ++ text) ++ codes " | why") is

pub parts_are_shown : PartsAreShown
unfolding digits explanation_line from_field initial_setup initial_setup_of placement_text
parts_are_shown = record {
  side = refl;
  castling = refl;
  target = refl;
  clock = refl;
  number = refl;
  long_clock = refl;
  spaces = refl;
  long_field = refl;
  others = refl;
  move = refl;
  game = refl;
  unprintable = refl;
  long = refl;
  end = refl;
  long_name = refl;
  column = refl;
  position = refl;
  last_position = last_is_shown;
  reason_after_it = reason_is_last;
  no_position = λ s. refl;
}

pub reasons_are_given : ReasonsAreGiven
unfolding result_text
reasons_are_given = record {
  draw = refl;
  half = refl;
  dash = refl;
  null_move = refl;
  other_null_move = refl;
  variation = refl;
  no_move = refl;
  no_token = refl;
  no_name = refl;
  no_value = refl;
  not_closed = refl;
  no_bracket = refl;
  percent = refl;
  castling = refl;
  zeros = refl;
  no_zeros = refl;
  after_end = refl;
  token_in_variation = refl;
  variant = refl;
  differs = refl;
  board = refl;
}
