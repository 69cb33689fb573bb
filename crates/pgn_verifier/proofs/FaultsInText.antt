-- The offsets of faults that are looked for at a game's end are in the text, since each is of something there: of the
-- tag `Result` (tag_within), of the game's end (board_within), or of a token in a beginning of the text, in which
-- variations are read (err_weaker); so is the first of two (first_within). A game without a byte or a variation has no
-- fault in one (none_without_bytes, none_without_variation).
use Rattle.std.proofs.Common.{◌≡◌, ℕ, zero, suc, ◌<◌, ◌≤◌, ◌-◌, Bool, true, false, List, [], ◌∷◌, length, take, drop, Option, Some, None, Result, Ok, Err, IfErr, ap, sym, ◌∙◌, arith, if◌then◌else◌, IfSome}
use Rattle.std.proofs.lemmas.List.{length-append, length-drop, nil_from_length, take-append-drop}
use Rattle.byte_devices.specs.Bytes.{after_byte_order_mark}
use Rattle.chess_base.specs.declared.setup.Setup.{Setup}
use Rattle.pgn_tokens.specs.{Split.ended, Tokens.Token, Tokens.tokens_from, VariationTokens.has_variation}
use Rattle.chess_pgn.specs.{Variations.line_fault, Variations.variation_fault, declared.variations.TheConstants.MOST_NESTED, declared.read.PgnEnd.PgnEnd, declared.read.PgnFault.PgnFault, declared.tagged_result.ResultTag.ResultTag}
use Rattle.std.specs.Option.{option_eq, option_or}
use Rattle.pgn_tokens.proofs.shared.Tokens.{split_read}
use Rattle.chess_game.specs.{Game.contradicts_verdict, declared.verdicts.Verdict.Verdict, Results.same_outcome}
use Rattle.pgn_verifier.specs.GameFaults.{result_differs, board_says_otherwise}
use Rattle.pgn_verifier.specs.shared.Contradictions.{looked_for, variation_in}
use Rattle.pgn_verifier.specs.declared.game_fault.GameFault.{GameFault}

-- the fault, if there is one, is at most at the offset `len`
abbrev pub InText : ℕ → Option GameFault → Type 0
InText len fault = IfSome fault (λ f. f.offset ≤ len)

-- what holds of both values holds of either
pub either : (P : Option GameFault → Type 0) (t : Bool) (x y : Option GameFault) → P x → P y → P (if t then x else y)
either P true x y p q = p
either P false x y p q = q

-- the fault of a tag `Result` is at the tag's text
pub tag_within : (len : ℕ) (tag : Option ResultTag) (end : PgnEnd) → IfSome tag (λ t. t.offset ≤ len)
    → InText len (result_differs tag end)
tag_within len None end h = tt
tag_within len (Some tag) end h = either (InText len) (option_eq same_outcome tag.outcome (Some end.outcome)) None _ tt
    h

-- the fault of a board with another outcome is at the game's end
pub board_within : (len : ℕ) (verdict : Option Verdict) (end : PgnEnd) → end.offset ≤ len
    → InText len (board_says_otherwise verdict end)
board_within len verdict end h = either (InText len) (contradicts_verdict verdict end.outcome) _ None
    (omega (arith, h)) tt

-- the first of two faults is in the text if both are
pub first_within : (len : ℕ) (first second : Option GameFault) → InText len first → InText len second
    → InText len (option_or first second)
first_within len (Some fault) second h k = h
first_within len None second h k = k

-- a fault that may not be looked for
pub looked_within : (len : ℕ) (is_looked_for : Bool) (fault : Option GameFault) → InText len fault
    → InText len (looked_for is_looked_for fault)
looked_within len true fault h = h
looked_within len false fault h = tt

-- a fault in a beginning of the text
pub err_weaker : (len more : ℕ) (r : Result (Unit {0}) PgnFault) → len ≤ more → IfErr r (λ f. f.offset ≤ len)
    → IfErr r (λ f. f.offset ≤ more)
err_weaker len more (Ok u) h k = tt
err_weaker len more (Err fault) h k = omega (arith, h, k)

-- the first n bytes of a text are at most n, and at most as many as the text has
take_short : (n : ℕ) (text : List ℕ) → length (take n text) ≤ n
take_short zero text = omega arith
take_short (suc n) [] = omega arith
take_short (suc n) (c ∷ rest) = omega (arith, take_short n rest)

pub take_few : (n : ℕ) (text : List ℕ) → length (take n text) ≤ length text
take_few n text = omega (arith, ap length (take-append-drop n text), length-append (take n text) (drop n text))

-- a game whose text ends before its first byte has no variation
pub none_without_bytes : (text : List ℕ) (at : ℕ) (start : Setup) (end : PgnEnd)
    → end.offset < after_byte_order_mark text at → variation_in tokens_from text at start end ≡ None
none_without_bytes text at start end h =
    let own : List ℕ = take end.offset text in
    let first : ℕ = after_byte_order_mark text at in
    let none : drop first own ≡ [] =
    nil_from_length (drop first own) (omega (arith, length-drop first own, take_short end.offset text, h)) in
    ap (λ (tokens : List (ℕ × Token)). if has_variation own tokens
    then line_fault true own (λ p from. variation_fault tokens_from MOST_NESTED own p from) None start tokens
    else None) (sym (split_read own (ended none)))

-- a game of which no token is a variation has no fault in its variations
pub none_without_variation : (text : List ℕ) (at : ℕ) (start : Setup) (end : PgnEnd) (first : ℕ)
    → first ≡ after_byte_order_mark text at
    → has_variation (take end.offset text) (tokens_from (take end.offset text) first) ≡ false
    → variation_in tokens_from text at start end ≡ None
none_without_variation text at start end first is none =
    let own : List ℕ = take end.offset text in
    let begin : ℕ = after_byte_order_mark text at in
    ap (λ (b : Bool). if b then line_fault true own (λ p from. variation_fault tokens_from MOST_NESTED own p from) None
    start (tokens_from own begin) else None)
    (ap (λ (k : ℕ). has_variation own (tokens_from own k)) (sym is) ∙ none)
