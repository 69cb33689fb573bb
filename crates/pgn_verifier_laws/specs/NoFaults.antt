-- When a text whose pieces have no fault has the same reports as a whole.
use Rattle.std.specs.Prelude.{◌≡◌, Bool, true, false, List, [], ◌∷◌, take, drop, reverse, ℕ}
use Rattle.std.specs.List.{list_any}
use Rattle.std.specs.Str.{bytes_eq}
use Rattle.byte_devices.specs.Bytes.{carriage_return}
use Rattle.pgn_pieces.specs.Pieces.{cut}
use Rattle.verify_options.specs.declared.options.Strictness.{Strictness}
use Rattle.pgn_verifier.specs.declared.tally.Verified.TheVariants.{EachGame}
use Rattle.pgn_verifier.specs.Reports.{counts_of, verified}
use Rattle.pgn_verifier.specs.laws.Reported.{collection_placed, collection_reports, reports_on}

-- whether a text begins with a byte order mark: EF BB BF
abbrev pub begins_with_mark : List ℕ → Bool
begins_with_mark text = bytes_eq (take 3 text) (239 ∷ 187 ∷ 191 ∷ [])

-- whether a text's last byte is `\r`
abbrev pub ends_with_return : List ℕ → Bool
ends_with_return text = bytes_eq (take 1 (reverse text)) (carriage_return ∷ [])

-- if the reports on a text's pieces have no fault, they are also the reports on the text, unless a piece after the
-- first begins with a byte order mark, which is skipped only at a text's front, or a piece ends with `\r`, which within
-- a text doesn't end a `;` comment. Variations aren't looked at
abbrev pub FaultlessTextsAreReportedAlike : Type 0
FaultlessTextsAreReportedAlike = (strict : Strictness) → strict.variations ≡ false → (text : List ℕ)
    → verified (counts_of (collection_placed strict true text)) ≡ EachGame
    → list_any begins_with_mark (drop 1 (cut text)) ≡ false
    → list_any ends_with_return (cut text) ≡ false
    → collection_reports strict true text ≡ reports_on strict 0 text
