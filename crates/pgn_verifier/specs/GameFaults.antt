-- The faults of a game. With `--strict` they include a result that contradicts the tags or the board.
use Rattle.std.specs.Prelude.{◌≡◌, ℕ, ◌-◌, ◌++◌, if◌then◌else◌, List, length, take, codes, Option, Some, None, Result, Ok, Err}
use Rattle.std.specs.Option.{option_eq, option_map, option_map_or, option_or}
use Rattle.chess_game.specs.Game.{State, contradicts_verdict}
use Rattle.chess_game.specs.Results.{outcome_text, same_outcome}
use Rattle.chess_game.specs.declared.verdicts.Verdict.{Verdict}
use Rattle.chess_game.specs.declared.game.TheConstants.{MOST_MOVES}
use Rattle.chess_pgn.specs.GameRead.{ending, read_of_split}
use Rattle.chess_pgn.specs.ResultTags.{result_tag_of}
use Rattle.chess_pgn.specs.UnknownVariants.{unknown_variant_in}
use Rattle.chess_pgn.specs.Variations.{variations_fault}
use Rattle.verify_options.specs.declared.options.Strictness.{Strictness}
use Rattle.pgn_tokens.specs.Split.{IsSplit}
use Rattle.pgn_tokens.specs.Tokens.{Token}
use Rattle.byte_devices.specs.Bytes.{after_byte_order_mark}
use Rattle.chess_pgn.specs.declared.read.PgnEnd.{PgnEnd}
use Rattle.chess_pgn.specs.declared.read.PgnFault.{PgnFault}
use Rattle.chess_pgn.specs.declared.read.PgnFaultKind.{PgnFaultKind}
use Rattle.chess_pgn.specs.declared.read.PgnFaultKind.TheVariants.{BadTag, BadFen, BadToken, IllegalMove, AmbiguousMove, AfterEnd, TooLong, UnclosedComment, UnclosedVariation, NoResult}
use Rattle.chess_pgn.specs.declared.tagged_result.ResultTag.{ResultTag}
use Rattle.pgn_verifier.specs.declared.game_fault.FaultKind.{FaultKind}
use Rattle.pgn_verifier.specs.declared.game_fault.FaultKind.TheVariants.{Pgn, InVariation, UnknownVariant, ResultDiffers, BoardSaysOtherwise}
use Rattle.pgn_verifier.specs.declared.game_fault.GameFault.{GameFault}

-- ---- at a game's end

-- the fault of a game whose last tag Result (`tag`, if any) names no outcome, or another than its termination marker
-- (`end`), at the byte after the tag's first quote; otherwise `None`
abbrev pub result_differs : Option ResultTag → PgnEnd → Option GameFault
result_differs None end = None
result_differs (Some tag) end = if option_eq same_outcome tag.outcome (Some end.outcome) then None
    else Some (record { kind = ResultDiffers tag.len end.outcome; offset = tag.offset })

-- the fault of a game whose termination marker (`end`) differs from the outcome of the board's `verdict` (`*` always
-- does), at the marker's first byte; `None` if they agree or there is no verdict
abbrev pub board_says_otherwise : Option Verdict → PgnEnd → Option GameFault
board_says_otherwise verdict end = if contradicts_verdict verdict end.outcome
    then Some (record { kind = BoardSaysOtherwise; offset = end.offset - length (outcome_text end.outcome) }) else None

-- ---- a game

-- what is reported of a game, by how reading it ended (last argument): no game (`Ok None`), a fault of reading (`Err`),
-- or the game's end (`Ok (Some end)`). Instead of the end the game's first fault that `strict` asks for is reported, in
-- this order: one in a variation (`variation end`); an unknown variant, named at the offset `unknown`; a last tag
-- Result (`tag`) that differs from the marker; a marker that differs from the board's `verdict`
abbrev pub judged : Strictness → (PgnEnd → Option PgnFault) → Option ℕ → Option ResultTag → Option Verdict
    → Result (Option PgnEnd) PgnFault → Result (Option PgnEnd) GameFault
judged strict variation unknown tag verdict (Ok None) = Ok None
judged strict variation unknown tag verdict (Ok (Some end)) = option_map_or Err
    (option_or (if strict.variations
    then option_map (λ f. record { kind = InVariation f.kind; offset = f.offset }) (variation end) else None)
    (option_or (if strict.variant then option_map (λ n. record { kind = UnknownVariant; offset = n }) unknown else None)
    (option_or (if strict.result then result_differs tag end else None)
    (if strict.board then board_says_otherwise verdict end else None)))) (Ok (Some end))
judged strict variation unknown tag verdict (Err fault) = Err (record { kind = Pgn fault.kind; offset = fault.offset })

-- `answer` is what is reported of the first game from the text's offset `at` on (`judged`). `s`: this game as far as it
-- was read, at most 20,000 half-moves (`MOST_MOVES`). `strict`: which faults are looked for, and whether fivefold
-- repetition and 75 moves end a game (`draws_of_2014`)
pub record IsJudged (strict : Strictness) (text : List ℕ) (at : ℕ) (s : State)
    (answer : Result (Option PgnEnd) GameFault) : Type 0 where
  -- the text's tokens from `at` on
  pub tokens : List (ℕ × Token)
  pub split : IsSplit text (after_byte_order_mark text at) tokens
  -- the tokens of any text from any offset on: variations are read in another text, which stops at the game's end
  pub split_of : List ℕ → ℕ → List (ℕ × Token)
  pub splits : (other : List ℕ) (from : ℕ) → IsSplit other from (split_of other from)
  -- how reading the game ended
  pub ended : Result (Option PgnEnd) PgnFault
  pub read : read_of_split strict.draws_of_2014 MOST_MOVES (length text) tokens ≡ record { state = s; answer = ended }
  pub is : answer ≡ judged strict (λ end. variations_fault split_of (take end.offset text) s.start
      (after_byte_order_mark text at)) (unknown_variant_in (length text) tokens) (result_tag_of (length text) tokens)
      (ending strict.draws_of_2014 s) ended

-- ---- names

-- the words for a fault of reading, as in `game 1: no result at byte 21`
abbrev pub pgn_fault_name : PgnFaultKind → List ℕ
pgn_fault_name BadTag = codes "bad tag"
pgn_fault_name (BadFen fault) = codes "bad FEN"
pgn_fault_name BadToken = codes "bad token"
pgn_fault_name IllegalMove = codes "illegal move"
pgn_fault_name AmbiguousMove = codes "ambiguous move"
pgn_fault_name AfterEnd = codes "move after the end"
pgn_fault_name TooLong = codes "too long"
pgn_fault_name UnclosedComment = codes "unclosed comment"
pgn_fault_name UnclosedVariation = codes "unclosed variation"
pgn_fault_name NoResult = codes "no result"

-- the words for a game's fault, as in `game 2: illegal move at byte 39`
abbrev pub fault_name : FaultKind → List ℕ
fault_name (Pgn kind) = pgn_fault_name kind
fault_name (InVariation kind) = pgn_fault_name kind ++ codes " in a variation"
fault_name UnknownVariant = codes "unknown variant"
fault_name (ResultDiffers tag_len outcome) = codes "result differs"
fault_name BoardSaysOtherwise = codes "board says otherwise"
