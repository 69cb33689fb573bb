-- What is read of a game's variations (PGN standard of 1994, section 8.2.5). A variation replaces the move just before
-- it, so its moves begin in the position before that move. A *line* is a game's own moves, or a variation's. This
-- project's own: which words are taken; that in a variation a result is passed over and a tag is a fault, since a `)`
-- in its string may end the variation; that no draw ends a variation; and how deep they may be nested.
use Rattle.std.specs.Prelude.{ℕ, zero, suc, ◌+◌, ◌-◌, Bool, true, false, ◌||◌, if◌then◌else◌, List, [], ◌∷◌, codes, length, take, drop, Option, Some, None, is_some}
use Rattle.std.specs.List.{list_all}
use Rattle.std.specs.Option.{option_map_or, option_or}
use Rattle.std.specs.Str.{bytes_eq}
use Rattle.byte_devices.specs.Bytes.{is_digit}
use Rattle.chess_base.specs.declared.setup.Setup.{Setup}
use Rattle.chess_base.specs.Moves.{after}
use Rattle.chess_text.specs.Moves.{reading}
use Rattle.pgn_writer.specs.Outcomes.{outcome_of}
use Rattle.chess_pgn.specs.declared.read.PgnFault.{PgnFault}
use Rattle.chess_pgn.specs.declared.read.PgnFaultKind.TheVariants.{BadToken, TooLong}
use Rattle.chess_pgn.specs.declared.variations.TheConstants.{MOST_NESTED}
use Rattle.pgn_tokens.specs.Tokens.{Token, Skip, Tag, Word, Bad}
use Rattle.pgn_tokens.specs.VariationTokens.{has_variation, is_variation}
use Rattle.pgn_tokens.specs.Marks.{is_marks}
use Rattle.chess_pgn.specs.Words.{word_gives}

-- the first fault, if any, among these tokens of a line, or in a variation among them. `tags`: whether tags are passed
-- over, as in a game's own line, or are bad tokens. `inside start at`: the first fault of the variation whose `(` is at
-- the offset `at`, and whose moves begin in `start`. `before`: the position before the line's last move; `None` before
-- its first, where a variation is a bad token. `p`: the position reached. A token's offset is `length text - left`
abbrev pub line_fault : Bool → List ℕ → (Setup → ℕ → Option PgnFault) → Option Setup → Setup → List (ℕ × Token)
    → Option PgnFault
line_fault tags text inside before p [] = None
line_fault tags text inside before p ((left, Skip) ∷ more) = let at = length text - left in
    let found = option_map_or (λ start. inside start at) before (Some (record { kind = BadToken; offset = at })) in
    option_or (if is_variation text at Skip then found else None) (line_fault tags text inside before p more)
line_fault tags text inside before p ((left, Tag name string to_end) ∷ more) =
    if tags then line_fault tags text inside before p more
    else Some (record { kind = BadToken; offset = length text - left })
-- results, numbers and marks such as `!?` are passed over; any other word is taken as a move
line_fault tags text inside before p ((left, Word word) ∷ more) =
    if is_some (outcome_of word) || (list_all is_digit word || is_marks word)
    then line_fault tags text inside before p more
    else word_gives None (λ m. line_fault tags text inside (Some p) (after p m) more)
    (λ kind. Some (record { kind = kind; offset = length text - left })) (reading p word)
-- a `)` ends a variation; another byte is a fault
line_fault tags text inside before p ((left, Bad) ∷ more) = let at = length text - left in
    if bytes_eq (take 1 (drop at text)) (codes ")") then None else Some (record { kind = BadToken; offset = at })
-- a `[` that begins no tag, or an unclosed comment or variation
line_fault tags text inside before p ((left, _) ∷ more) = Some (record { kind = BadToken; offset = length text - left })

-- the first fault, if any, of the variation whose `(` is at the offset `at` of the text, and whose moves begin in
-- `start`. `tokens` gives a text's tokens from an offset on. The second argument: how deep variations may be nested,
-- this one included; with 0 this one is the fault (`TooLong`)
unfoldable pub variation_fault : (List ℕ → ℕ → List (ℕ × Token)) → ℕ → List ℕ → Setup → ℕ → Option PgnFault
variation_fault tokens zero text start at = Some (record { kind = TooLong; offset = at })
variation_fault tokens (suc depth) text start at =
    line_fault false text (λ p from. variation_fault tokens depth text p from) None start (tokens text (at + 1))

-- the first fault, if any, in the variations of a game without other faults, from the offset `at` to the end of `text`.
-- `start`: the game's start; `tokens` is as in `variation_fault`. At most 64 variations (`MOST_NESTED`) may be open
abbrev pub variations_fault : (List ℕ → ℕ → List (ℕ × Token)) → List ℕ → Setup → ℕ → Option PgnFault
variations_fault tokens text start at = if has_variation text (tokens text at)
    then line_fault true text (λ p from. variation_fault tokens MOST_NESTED text p from) None start (tokens text at)
    else None
