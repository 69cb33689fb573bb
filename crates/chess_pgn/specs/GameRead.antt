-- What is read of a game's text (PGN standard of 1994, sections 7 to 9; which words are taken as moves is this
-- project's own): the tags give the start, then each move's word denotes a move in the position reached, and the first
-- token that can't be taken is the fault. Each token is paired with how many bytes of the text are left at it (`left`).
use Rattle.std.specs.Prelude.{◌≡◌, ℕ, ◌+◌, ◌-◌, nat_lt, Bool, ◌||◌, if◌then◌else◌, List, [], ◌∷◌, length, drop, map, codes, slice_get, Option, Some, None, is_some, Result, Ok, Err, option_and_then}
use Rattle.std.specs.List.{list_all, list_any, filter_map, last_or}
use Rattle.std.specs.Option.{option_map_or, unwrap_or}
use Rattle.std.specs.Result.{ok_prefix, result_err, result_map_both}
use Rattle.std.specs.Str.{str_eq_ignore_ascii_case}
use Rattle.chess_base.specs.declared.man.Variant.{Variant}
use Rattle.chess_base.specs.declared.man.Variant.TheVariants.{Normal, Fischerandom}
use Rattle.chess_base.specs.declared.setup.Setup.{Setup}
use Rattle.chess_base.specs.Initial.{initial_setup_of}
use Rattle.byte_devices.specs.Bytes.{is_digit, after_byte_order_mark}
use Rattle.chess_fen.specs.Reading.{fen_reading_as}
use Rattle.chess_game.specs.Game.{State, from_start, played, current, verdict_now}
use Rattle.chess_game.specs.declared.results.Declared.{Declared}
use Rattle.chess_game.specs.declared.results.Outcome.{Outcome}
use Rattle.chess_game.specs.declared.results.Outcome.TheVariants.{Unfinished}
use Rattle.chess_game.specs.declared.verdicts.Verdict.{Verdict}
use Rattle.chess_game.specs.declared.verdicts.Verdict.TheVariants.{FivefoldRepetition, SeventyFiveMoves}
use Rattle.chess_game.specs.Results.{same_outcome}
use Rattle.chess_text.specs.Moves.{reading}
use Rattle.chess_pgn.specs.declared.read.PgnEnd.{PgnEnd}
use Rattle.chess_pgn.specs.declared.read.PgnFault.{PgnFault}
use Rattle.chess_pgn.specs.declared.read.PgnFaultKind.{PgnFaultKind}
use Rattle.chess_pgn.specs.declared.read.PgnFaultKind.TheVariants.{BadTag, BadFen, BadToken, AfterEnd, TooLong, UnclosedComment, UnclosedVariation, NoResult}
use Rattle.pgn_writer.specs.declared.termination.Termination.{Termination}
use Rattle.pgn_writer.specs.Terminations.{termination_named}
use Rattle.pgn_tokens.specs.LastTags.{says_nothing, named_tag, tag_section, last_tag}
use Rattle.pgn_tokens.specs.Tokens.{Token, Skip, Word, Bad_tag, Unclosed_comment, Unclosed_variation, Bad, tokens_from}
use Rattle.pgn_tokens.specs.Split.{IsSplit}
use Rattle.pgn_writer.specs.Outcomes.{outcome_of}
use Rattle.pgn_tokens.specs.Marks.{is_marks}
use Rattle.chess_pgn.specs.Words.{word_gives}

-- ---- what is read in the end

-- what is read of a game. `state`: the game as far as it was read; only its start, if a tag is at fault; the initial
-- position without a game. `answer`: the game's end, `None` if the text has no more games, or the first fault
pub record GameRead : Type 0 where
  pub state : State
  pub answer : Result (Option PgnEnd) PgnFault

-- what a game's termination marker declares (section 8.2.6): its outcome `o`, with an empty comment; `None` if `o` is
-- `*`, or if the board has a verdict (`is_decided`), which then gives the outcome
abbrev pub declared_after : Bool → Outcome → Option Declared
declared_after is_decided o =
    if is_decided || same_outcome o Unfinished then None else Some (record { outcome = o; comment = [] })

-- the game `s`, read up to a fault of this kind at the offset `at`
abbrev pub failed : State → PgnFaultKind → ℕ → GameRead
failed s kind at = record { state = s; answer = Err (record { kind = kind; offset = at }) }

-- ---- the end by the board

-- a verdict, but `None` for the *draws of 2014*, in the Laws since that year: fivefold repetition (9.6.1) and 75 moves
-- (9.6.2)
abbrev pub not_of_2014 : Verdict → Option Verdict
not_of_2014 FivefoldRepetition = None
not_of_2014 SeventyFiveMoves = None
not_of_2014 v = Some v

-- the verdict, if any, after which a move of the game `s` is a fault. `draws`: whether the draws of 2014 end a game
abbrev pub ending : Bool → State → Option Verdict
ending draws s = if draws then verdict_now s else option_and_then not_of_2014 (verdict_now s)

-- the fault of a further move of the game `s`: `AfterEnd` if it has ended (`ending`, which explains `draws`), or
-- `TooLong` if it has `limit` half-moves; `None` if a move may come
abbrev pub closed_by : Bool → ℕ → State → Option PgnFaultKind
closed_by draws limit s = if is_some (ending draws s) then Some AfterEnd
    else if nat_lt (length s.moves) limit then None else Some TooLong

-- ---- after the tags

-- what is read of a game from these tokens; `s` is the game so far, after its tags. `draws`: whether the draws of 2014
-- end it; `limit`: its most half-moves; `total`: the text's length, so a token is at the offset `total - left`;
-- `cause`: what the tag Termination names, if anything
abbrev pub moves_read : Bool → ℕ → ℕ → Option Termination → State → List (ℕ × Token) → GameRead
-- no outcome came
moves_read draws limit total cause s [] = failed s NoResult total
moves_read draws limit total cause s ((left, Skip) ∷ ts) = moves_read draws limit total cause s ts
-- an outcome such as `1-0` ends the game after its last byte. Numbers and marks such as `!?` are passed over; any other
-- word is taken as a move
moves_read draws limit total cause s ((left, Word word) ∷ ts) = option_map_or (λ o. record {
  state = record s { declared = declared_after (is_some (verdict_now s)) o };
  answer = Ok (Some (record { outcome = o; termination = cause; offset = total - left + length word }));
}) (outcome_of word) (if list_all is_digit word || is_marks word then moves_read draws limit total cause s ts
    else word_gives (closed_by draws limit s) (λ m. moves_read draws limit total cause (played s m) ts)
    (λ kind. failed s kind (total - left)) (reading (current s) word))
-- the fault is at the comment's `{`, which may be inside a variation
moves_read draws limit total cause s ((left, Unclosed_comment brace) ∷ ts) = failed s UnclosedComment (total - brace)
moves_read draws limit total cause s ((left, Unclosed_variation) ∷ ts) = failed s UnclosedVariation (total - left)
moves_read draws limit total cause s ((left, Bad) ∷ ts) = failed s BadToken (total - left)
-- a tag, even a bad one, is the next game's, so this one has no outcome
moves_read draws limit total cause s ((left, _) ∷ ts) = failed s NoResult (total - left)

-- ---- the tags

-- the position that a tag FEN denotes in the variant `v`, or `BadFen` at the byte after the tag's first quote. `tag`:
-- the FEN, and how many of the text's `total` bytes are left after that quote
abbrev pub fen_read : ℕ → Variant → List ℕ × ℕ → Result Setup PgnFault
fen_read total v tag = result_map_both (λ start. start)
    (λ fault. record { kind = BadFen fault; offset = total - tag.1 }) (fen_reading_as v tag.0)

-- ---- the variant

-- the variant that a tag Variant's text names, in capital or small letters; `None` for any other text
abbrev pub known_variant : List ℕ → Option Variant
known_variant text = let is_any = list_any (λ name. str_eq_ignore_ascii_case text name) in
    if is_any (codes "fischerandom" ∷ codes "fischerrandom" ∷ codes "chess960" ∷ []) then Some Fischerandom
    else if is_any (codes "normal" ∷ codes "standard" ∷ codes "chess" ∷ codes "classical" ∷ codes "from position" ∷ [])
    then Some Normal else None

-- the variant that the last tag Variant names; normal chess if it names no known one, such as `Atomic`, or without such
-- a tag
abbrev pub tagged_variant : List (ℕ × Token) → Variant
tagged_variant tags = option_map_or (λ t. unwrap_or (known_variant t.0) Normal) (last_tag (codes "Variant") tags) Normal

-- ---- the game

-- what is read of a game after its tag section `tags`. `s`: the game at its start; the last argument: the tokens left.
-- If the first of these is a bad tag, it is the fault; otherwise `moves_read` reads them, and explains `draws`, `limit`
-- and `total`. The last tag Termination counts, even if it names no value of the standard
abbrev pub read_after_tags : Bool → ℕ → ℕ → State → List (ℕ × Token) → List (ℕ × Token) → GameRead
read_after_tags draws limit total s tags ((to_end, Bad_tag) ∷ rest) = failed s BadTag (total - to_end)
read_after_tags draws limit total s tags rest = moves_read draws limit total
    (option_and_then (λ tag. termination_named tag.0) (last_tag (codes "Termination") tags)) s rest

-- what is read of a game from these tokens, its tags first. `draws`, `limit` and `total` are as in `moves_read`. There
-- is no game if all tokens are `Skip` or marks such as `!?`. The last tag Variant gives the variant, the last tag FEN
-- the start; without a FEN this is the variant's initial position. The first FEN that denotes no position is the fault;
-- then the last FEN before it, if any, gives the start
abbrev pub read_of_split : Bool → ℕ → ℕ → List (ℕ × Token) → GameRead
read_of_split draws limit total tokens = let tags = tag_section tokens in let v = tagged_variant tags in
    let fens = map (fen_read total v) (filter_map (λ t. named_tag (codes "FEN") t.1) tags) in
    let s = from_start (unwrap_or (last_or None (ok_prefix fens)) (initial_setup_of v)) in
    if list_all (λ t. says_nothing t.1) tokens then record { state = s; answer = Ok None }
    else option_map_or (λ f. failed s f.kind f.offset) (slice_get (filter_map result_err fens) 0)
    (read_after_tags draws limit total s tags (drop (length tags) tokens))

-- what is read of a text from the offset `at` on: the game up to its termination marker, that no game is left, or the
-- first fault. `draws`: whether fivefold repetition and 75 moves end a game; `limit`: its most half-moves
unfoldable pub pgn_read : Bool → ℕ → List ℕ → ℕ → GameRead
pgn_read draws limit text at =
    read_of_split draws limit (length text) (tokens_from text (after_byte_order_mark text at))

-- what `pgn_read` gives, defined without `tokens_from`: `r` is what is read of a split of the text. There is exactly
-- one such `r`
pub record IsRead (draws : Bool) (limit : ℕ) (text : List ℕ) (at : ℕ) (r : GameRead) : Type 0 where
  pub tokens : List (ℕ × Token)
  pub split : IsSplit text (after_byte_order_mark text at) tokens
  pub is : r ≡ read_of_split draws limit (length text) tokens
