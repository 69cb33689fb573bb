-- The kinds of words in a game's text.
use Rattle.std.specs.Prelude.{ℕ, List, if◌then◌else◌}
use Rattle.byte_devices.specs.Bytes.{is_digit}
use Rattle.std.specs.List.{list_all}
use Rattle.std.specs.Option.{option_map_or}
use Rattle.chess_pgn.specs.declared.word_kind.WordKind.{WordKind}
use Rattle.chess_pgn.specs.declared.word_kind.WordKind.TheVariants.{End, Number, Marks, Move}
use Rattle.pgn_writer.specs.Outcomes.{outcome_of}
use Rattle.pgn_tokens.specs.Marks.{is_marks}

-- what a word is: an outcome such as `1-0`, a number (digits alone) or marks such as `!?`; any other word may be a move
abbrev pub word_kind : List ℕ → WordKind
word_kind word = option_map_or End (outcome_of word)
    (if list_all is_digit word then Number
    else if is_marks word then Marks
    else Move)
