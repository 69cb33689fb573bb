-- In a line of moves, outcomes, numbers and marks such as `!?` are passed over. The code decides this by a word's kind,
-- the definition by three tests; both agree (passed_by_kind), since the kind is defined by the same three tests.
use Rattle.std.proofs.Common.{◌≡◌, ℕ, Bool, true, false, List, Option, Some, None, refl, ◌||◌, is_some, if◌then◌else◌}
use Rattle.std.specs.{List.list_all, Option.option_map_or}
use Rattle.byte_devices.specs.Bytes.{is_digit}
use Rattle.chess_game.specs.declared.results.Outcome.{Outcome}
use Rattle.chess_pgn.specs.{declared.word_kind.WordKind.WordKind, laws.WordKinds.word_kind}
use Rattle.pgn_tokens.specs.Marks.{is_marks}
use Rattle.chess_pgn.specs.declared.word_kind.WordKind.TheVariants.{End, Number, Marks, Move}
use Rattle.pgn_writer.specs.Outcomes.{outcome_of}

-- whether words of this kind are passed over
abbrev pub passes : WordKind → Bool
passes Move = false
passes _ = true

by_tests : (o : Option Outcome) (digits marks : Bool)
    → passes (option_map_or End o (if digits then Number else if marks then Marks else Move))
    ≡ (is_some o || (digits || marks))
by_tests (Some outcome) digits marks = refl
by_tests None true marks = refl
by_tests None false true = refl
by_tests None false false = refl

pub passed_by_kind : (word : List ℕ)
    → passes (word_kind word) ≡ (is_some (outcome_of word) || (list_all is_digit word || is_marks word))
passed_by_kind word = by_tests (outcome_of word) (list_all is_digit word) (is_marks word)
