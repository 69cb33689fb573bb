-- The games of a text are also those of its parts that hold them whole, such as its pieces.
use Rattle.std.specs.Prelude.{◌≡◌, ◌≤◌, ◌<◌, ◌⊎◌, ℕ, ◌+◌, ◌-◌, true, List, [], ◌∷◌, ◌++◌, length, Some, None, Ok, false}
use Rattle.std.specs.List.{concat, flat_map}
use Rattle.pgn_tokens.specs.Tokens.{begins_line}
use Rattle.byte_devices.specs.Bytes.{new_line, after_byte_order_mark}
use Rattle.chess_pgn.specs.declared.read.PgnEnd.{PgnEnd}
use Rattle.pgn_pieces.specs.Pieces.{cut}
use Rattle.pgn_pieces.specs.declared.pieces.TheConstants.{PIECE_LEN}
use Rattle.verify_options.specs.declared.options.Strictness.{Strictness}
use Rattle.pgn_verifier.specs.laws.Reported.{Plain, PlainGame, collection_reports, read_at, judged_at, reports_from, reports_on}

-- ---- one game

-- `part` is in a text after `before`, where a line begins. From the part's offset `at` on, reading begins at the same
-- byte in both: a byte order mark is skipped in both or in neither
pub record BeginsAlike (before part after : List ℕ) (at : ℕ) : Type 0 where
  pub line : begins_line (before ++ (part ++ after)) (length before) ≡ true
  pub first : after_byte_order_mark (before ++ (part ++ after)) (length before + at)
      ≡ length before + after_byte_order_mark part at

-- `part`, read alone from its offset `at` on, has the game, without a fault, that `before ++ part ++ after` has from
-- the same byte on. `end`: how that game ends there, where offsets are greater by `length before`
pub record HasGame (strict : Strictness) (before part after : List ℕ) (at : ℕ) (end : PgnEnd) : Type 0 where
  -- the same outcome and termination, and the same last byte
  pub judged : judged_at strict part at ≡ Ok (Some (record end { offset = end.offset - length before }))
  -- the same start, moves and declared result
  pub state : (read_at strict.draws_of_2014 part at).state
      ≡ (read_at strict.draws_of_2014 (before ++ (part ++ after)) (length before + at)).state
  pub some_bytes : at < end.offset - length before

-- a game without a fault that is read in a text from a byte of one of its parts on, and ends in that part, is read in
-- the part alone, whatever text comes before and after it. Here and below, variations aren't looked at
abbrev pub GamesAreInParts : Type 0
GamesAreInParts = (strict : Strictness) → strict.variations ≡ false → (before part after : List ℕ) (at : ℕ)
    (end : PgnEnd) → BeginsAlike before part after at
    → judged_at strict (before ++ (part ++ after)) (length before + at) ≡ Ok (Some end)
    → end.offset ≤ length before + length part → HasGame strict before part after at end

-- ---- the games of a part

-- a part ends where a line ends, or where the text ends; `after` is what comes after it
abbrev pub EndsAlike : List ℕ → List ℕ → Type 0
EndsAlike part after = ((front : List ℕ) × (part ≡ front ++ new_line ∷ [])) ⊎ (after ≡ [])

-- from an offset on (the number before the reports), a part that is in a text after `before` holds whole games, of
-- which these are the reports: each is read in the text without a fault and ends in the part. After the last, the part
-- alone has no more games, and it ends where a line or the text ends
pub data HoldsWhole (strict : Strictness) (before part after : List ℕ) : ℕ → List Plain → Type 0 where
  no_more : {at : ℕ} → judged_at strict part at ≡ Ok None → EndsAlike part after
      → HoldsWhole strict before part after at []
  game : {at : ℕ} {games : List Plain} (end : PgnEnd)
      → judged_at strict (before ++ (part ++ after)) (length before + at) ≡ Ok (Some end)
      → end.offset ≤ length before + length part
      → HoldsWhole strict before part after (end.offset - length before) games
      → HoldsWhole strict before part after at
      (PlainGame (length (read_at strict.draws_of_2014 (before ++ (part ++ after))
      (length before + at)).state.moves) end.outcome end.termination
      ∷ games)

-- the reports on a part that holds whole games are those on its `games`. The reports on the text, from the part's
-- beginning on, are the same, and then those from the part's end on. `start`: the input's offset at which the part, or
-- the text, begins
pub record AreReportedAlike (strict : Strictness) (start : ℕ) (before part after : List ℕ) (games : List Plain)
    : Type 0 where
  pub alone : reports_on strict start part ≡ games
  -- `most`: at most so many reports come after those of the part
  pub in_text : (most : ℕ)
      → reports_from strict start (length games + most) (before ++ (part ++ after)) (length before + 0)
      ≡ games ++ reports_from strict start most (before ++ (part ++ after)) (length before + length part)

-- each part that holds whole games and begins where a line begins is reported alike alone and in the text
abbrev pub WholeGamesAreReportedAlike : Type 0
WholeGamesAreReportedAlike = (strict : Strictness) → strict.variations ≡ false → (start : ℕ)
    (before part after : List ℕ) (games : List Plain) → BeginsAlike before part after 0
    → HoldsWhole strict before part after 0 games
    → AreReportedAlike strict start before part after games

-- ---- the games of all parts

-- each of these parts, one after another, begins where a line begins and holds whole games; these are the reports on
-- all. The first argument after `strict` is the text before the parts
pub data AllHoldWhole (strict : Strictness) : List ℕ → List (List ℕ) → List Plain → Type 0 where
  no_parts : {before : List ℕ} → AllHoldWhole strict before [] []
  next_part : {before first : List ℕ} {parts : List (List ℕ)} {games more : List Plain}
      → BeginsAlike before first (concat parts) 0 → HoldsWhole strict before first (concat parts) 0 games
      → AllHoldWhole strict (before ++ first) parts more → AllHoldWhole strict before (first ∷ parts) (games ++ more)

-- if a text's parts hold whole games, the reports on the text are those on its parts, each read as a text of its own,
-- wherever in the input each begins (`start`, `starts`)
abbrev pub TextsAreReportedInParts : Type 0
TextsAreReportedInParts = (strict : Strictness) → strict.variations ≡ false → (start : ℕ) (parts : List (List ℕ))
    (games : List Plain) → AllHoldWhole strict [] parts games → (starts : List ℕ → ℕ)
    → reports_on strict start (concat parts) ≡ flat_map (λ part. reports_on strict (starts part) part) parts

-- if the pieces of a text of at most 16,777,216 bytes hold whole games, the reports on the text and on its pieces are
-- the same
abbrev pub PiecesAreReportedAlike : Type 0
PiecesAreReportedAlike = (strict : Strictness) → strict.variations ≡ false → (text : List ℕ) (games : List Plain)
    → length text ≤ PIECE_LEN → AllHoldWhole strict [] (cut text) games
    → collection_reports strict true text ≡ reports_on strict 0 text
