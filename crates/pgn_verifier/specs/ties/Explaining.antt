-- The lines on a fault, part by part as the code appends them.
use Rattle.std.specs.Prelude.{ℕ, ◌-◌, ◌==◌, Bool, ◌&&◌, not, nat_lt, if◌then◌else◌, List, [], ◌++◌, length, take, take_while, codes, decimal, is_some, Option, Some, None}
use Rattle.std.specs.Option.{option_map_or}
use Rattle.byte_devices.specs.Bytes.{byte}
use Rattle.chess_game.specs.Game.{State}
use Rattle.chess_pgn.specs.GameRead.{ending}
use Rattle.chess_pgn.specs.declared.read.PgnFaultKind.TheVariants.{BadFen, NoResult}
use Rattle.pgn_verifier.specs.declared.game_fault.FaultKind.{FaultKind}
use Rattle.pgn_verifier.specs.declared.game_fault.FaultKind.TheVariants.{Pgn}
use Rattle.verify_options.specs.declared.options.VerifyOptions.{VerifyOptions}
use Rattle.pgn_verifier.specs.Explanations.{explanation, shown, shown_word}
use Rattle.pgn_verifier.specs.WrongParts.{field_at, field_number, from_field}
use Rattle.pgn_verifier.specs.laws.Reasons.{reason}

-- the part that is wrong, by the kind of the fault: how many bytes after the fault's byte it begins, and what is shown
-- of it. Of a missing result that is nothing, since it is explained where its game begins. `text`: all from the fault's
-- byte on
abbrev pub part_on : FaultKind → List ℕ → ℕ × List ℕ
part_on (Pgn (BadFen fault)) text =
    let all = take_while (λ c. not (c == byte "\"")) text in let number = field_number fault all in
    (length all - length (from_field number all), shown_word (take 80 (field_at number all)))
part_on (Pgn NoResult) text = (0, [])
part_on _ text = (0, shown text)

-- the text that explains a fault of this kind: the part that is wrong, the position and the reason. `s`: the game as
-- far as it was read; `text`: all from the fault's byte on; `draws`: whether the draws of 2014 end a game
abbrev pub explanation_of : Bool → State → List ℕ → FaultKind → List ℕ
explanation_of draws s text kind = (part_on kind text).1 ++ explanation s kind (reason kind text (ending draws s))

-- the offset from which on a text of `total` bytes isn't read: that of a fault (`offset`), if reading is to go on after
-- faults (`goes_on`), but no offset `next` was found for that, and the fault isn't at the text's end; otherwise `None`
abbrev pub unread_from : Bool → ℕ → ℕ → Option ℕ → Option ℕ
unread_from goes_on total offset next =
    if goes_on && not (is_some next) && nat_lt offset total then Some offset else None

-- the end of a fault's explanation: that the bytes from this offset on, before `end`, aren't read; nothing for `None`
abbrev pub unread_text : Option ℕ → ℕ → List ℕ
unread_text from end = option_map_or (λ begin. codes " | bytes " ++ (decimal begin ++ (codes " to " ++ (decimal end
    ++ codes " not read")))) from []

-- what a report's line says of the span from the byte at the offset `begin` on, before that at `end` (as `span_text`)
abbrev pub span_from : VerifyOptions → ℕ → ℕ → List ℕ
span_from options begin end =
    if options.spans then codes ", bytes " ++ (decimal begin ++ (codes " to " ++ decimal end)) else []
