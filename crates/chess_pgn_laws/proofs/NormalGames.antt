-- Games of normal chess are written, and texts that name no variant are read, as if there were no Chess960
-- (normal_kept): once the variant is replaced by `Normal`, the definitions are the same by computation.
use Rattle.std.proofs.Common.{◌≡◌, ℕ, Bool, cond, List, ◌++◌, length, drop, Option, None, Ok, refl, ap, ◌∙◌, codes, slice_get}
use Rattle.std.specs.{List.filter_map, List.list_all, Option.option_map_or, Result.result_err}
use Rattle.chess_base.specs.{declared.man.Variant.Variant, declared.man.Variant.TheVariants.Normal, declared.setup.Setup.Setup, Initial.initial_setup, Initial.initial_setup_of}
use Rattle.chess_game.specs.Game.{from_start, outcome_now}
use Rattle.chess_pgn.specs.GameRead.{GameRead, read_after_tags, pgn_read}
use Rattle.chess_pgn.specs.shared.{Rows.last_start, Rows.with_fault, VariantNames.variant_named}
use Rattle.pgn_writer.specs.{shared.TagGroups.roster_lines, shared.TagGroups.start_lines_in, shared.TagGroups.last_lines, Terminations.termination_of}
use Rattle.pgn_tokens.specs.{LastTags.says_nothing, LastTags.tag_section, LastTags.last_tag, Tokens.Token, Tokens.tokens_from}
use Rattle.chess_pgn_laws.specs.Normal.{normal_read, NormalIsKept}
use Rattle.chess_pgn.proofs.shared.Games.{fens}
use Rattle.byte_devices.specs.Bytes.{after_byte_order_mark}

initial_is : initial_setup_of Normal ≡ initial_setup
unfolding initial_setup
initial_is = refl

-- a text without a tag Variant is read as normal chess
read_so : (draws : Bool) (limit : ℕ) (text : List ℕ) (at : ℕ)
    → last_tag (codes "Variant") (tag_section (tokens_from text (after_byte_order_mark text at))) ≡ None
    → pgn_read draws limit text at ≡ normal_read draws limit (length text)
    (tokens_from text (after_byte_order_mark text at))
unfolding pgn_read
read_so draws limit text at none =
    let tokens : List (ℕ × Token) = tokens_from text (after_byte_order_mark text at) in
    let tags : List (ℕ × Token) = tag_section tokens in
    let read : Variant → Setup → GameRead = λ v p.
    cond (list_all (λ (t : ℕ × Token). says_nothing t.1) tokens)
    (record { state = from_start (last_start p (fens (length text) v tags)); answer = Ok None })
    (option_map_or (with_fault (from_start (last_start p (fens (length text) v tags))))
    (slice_get (filter_map result_err (fens (length text) v tags)) 0)
    (read_after_tags draws limit (length text) (from_start (last_start p (fens (length text) v tags))) tags
    (drop (length tags) tokens))) in
    ap (λ v. read v (initial_setup_of v))
    (ap (λ (tag : Option (List ℕ × ℕ)). option_map_or (λ (t : List ℕ × ℕ). variant_named t.0) tag Normal) none)
    ∙ ap (read Normal) initial_is

pub normal_kept : NormalIsKept
normal_kept = record {
  written = λ t s is. ap (λ v. roster_lines t (outcome_now s)
      ++ (start_lines_in v s.start ++ last_lines v (termination_of t.ended (outcome_now s)))) is;
  read = read_so;
}
