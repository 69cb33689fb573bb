-- Declared results, and what `showstate` writes. `x ← o` in a `do` is `let x = o?` in Rust.
use Rattle.std.specs.Prelude.{ℕ, ◌-◌, ◌==◌, ◌&&◌, nat_le, if◌then◌else◌, List, [], ◌++◌, length, take, drop, slice_index_or, codes, decimal, Option, None, Some}
use Rattle.std.specs.Option.{option_map_or}
use Rattle.byte_devices.specs.Bytes.{byte}
use Rattle.chess_game.specs.Ends.{verdict_result, claims, result_text}
use Rattle.chess_game.specs.Game.{State, current, verdict_now}
use Rattle.chess_game.specs.Results.{cut_comment}
use Rattle.chess_game.specs.Same.{repetition_count}
use Rattle.chess_game.specs.declared.verdicts.Claims.{Claims}
use Rattle.chess_game.specs.declared.results.Declared.{Declared}
use Rattle.pgn_writer.specs.Outcomes.{outcome_of}
use Rattle.text_lines.specs.Words.{word_of, argument_of}
use Rattle.chess_base.specs.Options.{◌>>=◌}

-- the comment in `text`, which follows the outcome, as in `result 1-0 {White resigns}`: all between a `{` at its start
-- and a `}` at its end, other braces too; empty if `text` is empty; otherwise `None`
unfoldable pub result_comment : List ℕ → Option (List ℕ)
result_comment text = if length text == 0 then Some []
    else if nat_le 2 (length text) && (slice_index_or text 0 0 == byte "{")
    && (slice_index_or text (length text - 1) 0 == byte "}") then Some (take (length text - 2) (drop 1 text))
    else None

-- the result that `argument`, what follows `result` in a line, declares: an outcome (`1-0`, `0-1`, `1/2-1/2` or `*`),
-- then nothing or a comment in braces, cut to 60 bytes, with `?` for inner braces and all but printable ASCII
-- (`cut_comment`); otherwise `None`
unfoldable pub read_result : List ℕ → Option Declared
read_result argument = do
  outcome ← outcome_of (word_of argument)
  comment ← result_comment (argument_of argument)
  Some (record { outcome = outcome; comment = cut_comment comment })

-- which draws can be claimed, as `showstate` writes them
abbrev pub claims_text : Claims → List ℕ
claims_text c = if c.threefold then (if c.fifty_moves then codes "threefold+50" else codes "threefold")
    else (if c.fifty_moves then codes "50" else codes "none")

-- what `showstate` writes after `# state ply `: half-moves, how often the position occurred, halfmove clock, draws to
-- claim, verdict and declared result, as in `0 rep 1 clock 0 claims none verdict none declared none`
unfoldable pub state_text : State → List ℕ
state_text s = decimal (length s.moves)
    ++ (codes " rep " ++ (decimal (repetition_count s.start s.moves)
    ++ (codes " clock " ++ (decimal (current s).halfmove
    ++ (codes " claims " ++ (claims_text (claims s.start s.moves)
    ++ (codes " verdict " ++ (option_map_or (λ v. result_text (verdict_result v)) (verdict_now s) (codes "none")
    ++ (codes " declared " ++ option_map_or result_text s.declared (codes "none"))))))))))
