-- The definitions that Chess960 widened, as they are for normal chess alone.
use Rattle.std.specs.Prelude.{◌≡◌, ℕ, ◌-◌, Bool, not, List, [], ◌∷◌, ◌++◌, length, drop, map, slice_get, Result, Ok, None, codes, if◌then◌else◌}
use Rattle.std.specs.List.{filter_map, last_or, list_all}
use Rattle.std.specs.Option.{option_map_or, unwrap_or}
use Rattle.std.specs.Result.{ok_prefix, result_err, result_map_both}
use Rattle.chess_base.specs.declared.man.Variant.TheVariants.{Normal}
use Rattle.chess_base.specs.declared.setup.Setup.{Setup}
use Rattle.chess_base.specs.Initial.{initial_setup}
use Rattle.chess_base.specs.Options.{list_if}
use Rattle.chess_fen.specs.Reading.{fen_reading}
use Rattle.chess_fen.specs.Writing.{fen, is_initial}
use Rattle.chess_game.specs.Game.{State, from_start, outcome_now}
use Rattle.chess_game.specs.Results.{outcome_text}
use Rattle.pgn_writer.specs.declared.tags.Tags.{Tags}
use Rattle.chess_pgn.specs.declared.read.PgnFault.{PgnFault}
use Rattle.chess_pgn.specs.declared.read.PgnFaultKind.TheVariants.{BadFen}
use Rattle.chess_pgn.specs.GameRead.{GameRead, failed, read_after_tags, pgn_read}
use Rattle.pgn_writer.specs.GameText.{tag_lines}
use Rattle.pgn_tokens.specs.LastTags.{says_nothing, named_tag, tag_section, last_tag}
use Rattle.pgn_writer.specs.Terminations.{termination_text, termination_of}
use Rattle.pgn_tokens.specs.Tokens.{Token, tokens_from}
use Rattle.byte_devices.specs.Bytes.{after_byte_order_mark}
use Rattle.pgn_writer.specs.Written.{tag_line}

-- the lines of the tags of the game `s`, if it is one of normal chess: no tag Variant
abbrev pub normal_tag_lines : Tags → State → List (List ℕ)
normal_tag_lines t s =
    tag_line (codes "Event") t.event ∷ tag_line (codes "Site") t.site ∷ tag_line (codes "Date") t.date
    ∷ tag_line (codes "Round") t.round ∷ tag_line (codes "White") t.white ∷ tag_line (codes "Black") t.black
    ∷ tag_line (codes "Result") (outcome_text (outcome_now s))
    ∷ list_if (not (is_initial s.start))
    (tag_line (codes "FEN") (fen s.start) ∷ tag_line (codes "SetUp") (codes "1") ∷ [])
    ++ tag_line (codes "Termination") (termination_text (termination_of t.ended (outcome_now s))) ∷ []

-- what is read of these tokens, in a text of `total` bytes, as if there were no Chess960: a FEN is one of normal chess.
-- `draws`: whether fivefold repetition and 75 moves end the game; `limit`: its most half-moves
abbrev pub normal_read : Bool → ℕ → ℕ → List (ℕ × Token) → GameRead
normal_read draws limit total tokens =
    let tags = tag_section tokens in
    let fens : List (Result Setup PgnFault) = map (λ tag. result_map_both (λ start. start)
    (λ fault. record { kind = BadFen fault; offset = total - tag.1 }) (fen_reading tag.0))
    (filter_map (λ t. named_tag (codes "FEN") t.1) tags) in
    let s = from_start (unwrap_or (last_or None (ok_prefix fens)) initial_setup) in
    if list_all (λ t. says_nothing t.1) tokens then record { state = s; answer = Ok None }
    else option_map_or (λ f. failed s f.kind f.offset) (slice_get (filter_map result_err fens) 0)
    (read_after_tags draws limit total s tags (drop (length tags) tokens))

-- a game of normal chess is written, and a text with no tag Variant among the game's own tags is read, as if there were
-- no Chess960
pub record NormalIsKept : Type 0 where
  pub written : (t : Tags) (s : State) → s.start.variant ≡ Normal → tag_lines t s ≡ normal_tag_lines t s
  pub read : (draws : Bool) (limit : ℕ) (text : List ℕ) (at : ℕ)
      → last_tag (codes "Variant") (tag_section (tokens_from text (after_byte_order_mark text at))) ≡ None
      → pgn_read draws limit text at ≡ normal_read draws limit (length text)
      (tokens_from text (after_byte_order_mark text at))
