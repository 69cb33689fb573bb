-- What explains a fault: where it is, the text there, the position and the reason.
use Rattle.std.specs.Prelude.{◌≡◌, ℕ, ◌+◌, ◌-◌, ◌==◌, Bool, true, false, not, if◌then◌else◌, List, [], ◌∷◌, ◌++◌, length, take, take_while, drop, map, codes, decimal, Option, Some, None}
use Rattle.std.specs.Option.{option_map, option_map_or}
use Rattle.std.specs.Str.{bytes_eq}
use Rattle.byte_devices.specs.Bytes.{byte, new_line, shown_byte}
use Rattle.chess_fen.specs.Writing.{fen}
use Rattle.chess_game.specs.Ends.{verdict_result, result_text}
use Rattle.chess_game.specs.Game.{State, current}
use Rattle.chess_game.specs.Results.{outcome_text}
use Rattle.chess_game.specs.declared.verdicts.Verdict.{Verdict}
use Rattle.pgn_tokens.specs.Tokens.{is_white_space, is_word_byte}
use Rattle.chess_pgn.specs.declared.read.PgnFaultKind.TheVariants.{BadTag, BadFen, BadToken, IllegalMove, AfterEnd, NoResult}
use Rattle.pgn_pieces.specs.Places.{line_of, column_of}
use Rattle.pgn_verifier.specs.declared.game_fault.FaultKind.{FaultKind}
use Rattle.pgn_verifier.specs.declared.game_fault.FaultKind.TheVariants.{Pgn, InVariation, UnknownVariant, ResultDiffers, BoardSaysOtherwise}
use Rattle.pgn_verifier.specs.WrongParts.{from_field, field_at, field_number, fen_reason, IsTagReason, token_reason}

-- ---- the text at a fault

-- a word as an explanation shows it: `?` for each byte that isn't printable ASCII; `(end)` for an empty word
abbrev pub shown_word : List ℕ → List ℕ
shown_word word = if length word == 0 then codes "(end)" else map shown_byte word

-- a text's bytes before its first white space, at most 40, as `shown_word` shows them
abbrev pub shown : List ℕ → List ℕ
shown text = shown_word (take_while (λ c. not (is_white_space c)) (take 40 text))

-- ---- the part that is wrong

-- the wrong part of a text, by the fault's kind: its offset, and what is shown of it. `begin` and `at`: the offsets
-- of the game and of its fault
abbrev pub wrong_part : FaultKind → List ℕ → (begin at : ℕ) → ℕ × List ℕ
-- of a bad FEN: a field, at most 80 bytes of it. The FEN ends at the next quote, even one after a backslash
wrong_part (Pgn (BadFen fault)) text begin at =
    let all = take_while (λ c. not (c == byte "\"")) (drop at text) in let number = field_number fault all in
    (at + (length all - length (from_field number all)), shown_word (take 80 (field_at number all)))
-- of a missing result: the game's first word, since the fault's byte is the next game's or the text's end
wrong_part (Pgn NoResult) text begin at = (begin, shown (drop begin text))
-- of any other fault: the first word from its byte on
wrong_part _ text begin at = (at, shown (drop at text))

-- ---- the reason

-- the `reason` given for a fault of this kind, if any. `text`: all from the fault's byte on; `verdict`: why the board
-- ends the game where reading stopped, if it does
abbrev pub IsReason : FaultKind → List ℕ → Option Verdict → Option (List ℕ) → Type 0
IsReason (Pgn BadTag) text verdict reason = IsTagReason text reason
IsReason (Pgn (BadFen fault)) text verdict reason = reason ≡ Some (fen_reason fault)
IsReason (Pgn BadToken) text verdict reason = reason ≡ Some (token_reason text)
-- the word `0-0` is castling, but may be meant as a result
IsReason (Pgn IllegalMove) text verdict reason = reason ≡ (if bytes_eq (take_while is_word_byte text) (codes "0-0")
    then Some (codes "castling, and no result of PGN") else None)
-- here and for `BoardSaysOtherwise`: the verdict, such as `0-1 {Black mates}`
IsReason (Pgn AfterEnd) text verdict reason = reason ≡ option_map (λ v. result_text (verdict_result v)) verdict
IsReason (InVariation BadToken) text verdict reason = reason ≡ Some (token_reason text)
IsReason UnknownVariant text verdict reason =
    reason ≡ Some (codes "neither normal chess nor Chess960, by a name that is known")
-- the first word of the tag Result (`tag_len` bytes between its quotes) and the termination marker, as in
-- `Result 1-0, ended 0-1`
IsReason (ResultDiffers tag_len outcome) text verdict reason =
    reason ≡ Some (codes "Result " ++ (shown (take tag_len text) ++ (codes ", ended " ++ outcome_text outcome)))
IsReason BoardSaysOtherwise text verdict reason = reason ≡ option_map (λ v. result_text (verdict_result v)) verdict
IsReason _ text verdict reason = reason ≡ None

-- ---- the explanation

-- whether the explanation of a game's fault of this kind shows a position (for a piece that is too long, see
-- `AreReportsIn`)
abbrev pub has_position : FaultKind → Bool
has_position (Pgn BadTag) = false
has_position (Pgn (BadFen fault)) = false
has_position (InVariation kind) = false
has_position UnknownVariant = false
has_position _ = true

-- what explains a fault besides the wrong part, each after ` | `: the FEN of the position in which reading stopped, if
-- `has_position`, and the reason, if any. `s`: the game as far as it was read
abbrev pub explanation : State → FaultKind → Option (List ℕ) → List ℕ
explanation s kind reason = (if has_position kind then codes " | " ++ fen (current s) else [])
    ++ option_map_or (λ why. codes " | " ++ why) reason []

-- the line that explains a fault by this text, such as `# line 2 column 4 Ke3`. Line and column are those of the wrong
-- part's offset, `begin`, in `input`, all that was read
unfoldable pub explanation_line : List ℕ → ℕ → List ℕ → List ℕ
explanation_line input begin text = codes "# line " ++ (decimal (line_of input begin) ++ (codes " column "
    ++ (decimal (column_of input begin) ++ (codes " " ++ (text ++ new_line ∷ [])))))
