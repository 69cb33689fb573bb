-- The reason for a fault as a function, which asks for the parts of a bad tag one after another. The law
-- `reports_are_the_only_ones` says that each fault that is reported has just this reason.
use Rattle.std.specs.Prelude.{ℕ, ◌++◌, if◌then◌else◌, List, take, take_while, codes, is_some, Option, Some, None}
use Rattle.std.specs.Option.{option_map, option_map_or}
use Rattle.std.specs.Str.{bytes_eq}
use Rattle.byte_devices.specs.Bytes.{byte, after_byte}
use Rattle.chess_game.specs.Ends.{verdict_result, result_text}
use Rattle.chess_game.specs.Results.{outcome_text}
use Rattle.chess_game.specs.declared.verdicts.Verdict.{Verdict}
use Rattle.pgn_tokens.specs.Tokens.{after_gap, after_next, is_word_byte, name_at, string_at}
use Rattle.chess_pgn.specs.declared.read.PgnFaultKind.TheVariants.{BadTag, BadFen, BadToken, IllegalMove, AfterEnd}
use Rattle.pgn_verifier.specs.Explanations.{shown}
use Rattle.pgn_verifier.specs.WrongParts.{fen_reason, token_reason}
use Rattle.pgn_verifier.specs.declared.game_fault.FaultKind.{FaultKind}
use Rattle.pgn_verifier.specs.declared.game_fault.FaultKind.TheVariants.{Pgn, InVariation, UnknownVariant, ResultDiffers, BoardSaysOtherwise}

-- ---- tags

-- what a bad tag lacks, from the text after its opening quote on: the closing quote on the same line, or if that is
-- there, the tag's `]`
abbrev pub string_reason : List ℕ → List ℕ
string_reason string =
    if is_some (string_at string) then codes "no bracket after the value" else codes "string not closed"

-- what a bad tag lacks, from the text after its name on: a value, if no quote comes next, or else what `string_reason`
-- says
abbrev pub value_reason : List ℕ → List ℕ
value_reason text = option_map_or string_reason (after_next (byte "\"") text) (codes "no value")

-- what a bad tag lacks, from the text after its `[` on: a name, or what `value_reason` says
abbrev pub name_reason : List ℕ → List ℕ
name_reason text = option_map_or (λ name. value_reason name.1) (name_at (after_gap text)) (codes "no name")

-- what a bad tag lacks, from its `[` on: a tag is `[`, a name, a string and `]`, and the first of these that is missing
-- is the reason. A text without a `[` at its front has no tag, and so no name
abbrev pub tag_reason : List ℕ → List ℕ
tag_reason text = option_map_or name_reason (after_byte (byte "[") text) (codes "no name")

-- ---- faults

-- the reason for an illegal move at the front of the text: only for the word `0-0`, which may be meant as a result
abbrev pub move_reason : List ℕ → Option (List ℕ)
move_reason text =
    if bytes_eq (take_while is_word_byte text) (codes "0-0") then Some (codes "castling, and no result of PGN")
    else None

-- the reason for a fault (see `IsReason`), or `None` if none is given. `text`: all from the fault's byte on; `verdict`:
-- the one that ended the game where reading stopped, if any
abbrev pub reason : FaultKind → List ℕ → Option Verdict → Option (List ℕ)
reason (Pgn BadTag) text verdict = Some (tag_reason text)
reason (Pgn (BadFen fault)) text verdict = Some (fen_reason fault)
reason (Pgn BadToken) text verdict = Some (token_reason text)
reason (Pgn IllegalMove) text verdict = move_reason text
reason (Pgn AfterEnd) text verdict = option_map (λ v. result_text (verdict_result v)) verdict
reason (InVariation BadToken) text verdict = Some (token_reason text)
reason UnknownVariant text verdict =
    Some (codes "neither normal chess nor Chess960, by a name that is known")
reason (ResultDiffers tag_len outcome) text verdict =
    Some (codes "Result " ++ (shown (take tag_len text) ++ (codes ", ended " ++ outcome_text outcome)))
reason BoardSaysOtherwise text verdict = option_map (λ v. result_text (verdict_result v)) verdict
reason _ text verdict = None
