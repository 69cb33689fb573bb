-- The text of a `feature` line, without its first word, is no longer than the line (`features_short`), so that the
-- answers to its items have room. Of the tests for kinds of lines, one after another, only the one for `feature` gives
-- such a text.
use Rattle.std.proofs.Common.{◌≡◌, ℕ, ◌-◌, ◌≤◌, Bool, true, false, ◌&&◌, List, length, drop, take, length-drop, ap, Option, Some, None, arith, bytes_eq, if◌then◌else◌, codes}
use Rattle.std.specs.Option.{option_map_or}
use Rattle.chess_base.specs.declared.man.Colour.TheVariants.{White, Black}
use Rattle.text_lines.specs.Words.{word_of, argument_of, command_number}
use Rattle.text_lines.proofs.shared.Lines.{without_front_blanks-short}
use Rattle.cecp_engine.specs.EngineLines.{LineKind, Features, Moves, Resigns, OffersDraw, ClaimsDraw, ClaimsWin, Rejects, Answers, SaysElse, kind_of}

-- what follows the first word of a text is no longer than the text
argument_short : (text : List ℕ) → length (argument_of text) ≤ length text
unfolding argument_of
argument_short text =
    let d : length (drop (length (word_of text)) text) ≡ length text - length (word_of text) =
    length-drop (length (word_of text)) text in
    omega (arith, d, without_front_blanks-short (drop (length (word_of text)) text))

-- the text of a line of the kind `Features`; for any other kind the default
abbrev items_text : List ℕ → LineKind → List ℕ
items_text default (Features text) = text
items_text default _ = default

-- a line `pong`, with a number or without, is not of the kind `Features`
no_pong : (o : Option ℕ) (text : List ℕ) {P : Type 0} → option_map_or Answers o SaysElse ≡ Features text → P
no_pong (Some n) text e = absurd cc
no_pong None text e = absurd cc

pub features_short : (line text : List ℕ) → kind_of line ≡ Features text → length text ≤ length line
unfolding kind_of
features_short line text e =
    by_tests (bytes_eq (take 12 line) (codes "Illegal move")) (bytes_eq (word_of line) (codes "feature"))
    (bytes_eq (word_of line) (codes "move")) (bytes_eq (word_of line) (codes "resign"))
    (bytes_eq (word_of line) (codes "offer") && bytes_eq (word_of (argument_of line)) (codes "draw"))
    (bytes_eq (word_of line) (codes "1/2-1/2")) (bytes_eq (word_of line) (codes "1-0"))
    (bytes_eq (word_of line) (codes "0-1")) (bytes_eq (word_of line) (codes "pong")) e
  where
    by_tests : (a b c d o f g h p : Bool)
        → (if a then Rejects else if b then Features (argument_of line) else if c then Moves (argument_of line)
        else if d then Resigns else if o then OffersDraw else if f then ClaimsDraw else if g then ClaimsWin White
        else if h then ClaimsWin Black
        else if p then option_map_or Answers (command_number (argument_of line)) SaysElse else SaysElse)
        ≡ Features text → length text ≤ length line
    by_tests true b c d o f g h p e = absurd cc
    by_tests false true c d o f g h p e =
        let same : argument_of line ≡ text = ap (λ (k : LineKind). items_text text k) e in
        omega (arith, argument_short line, ap (λ (l : List ℕ). length l) same)
    by_tests false false true d o f g h p e = absurd cc
    by_tests false false false true o f g h p e = absurd cc
    by_tests false false false false true f g h p e = absurd cc
    by_tests false false false false false true g h p e = absurd cc
    by_tests false false false false false false true h p e = absurd cc
    by_tests false false false false false false false true p e = absurd cc
    by_tests false false false false false false false false true e =
        no_pong (command_number (argument_of line)) text e
    by_tests false false false false false false false false false e = absurd cc
