-- The small texts of the law `texts_are_worked_out`, by computation: how they are split into tokens (texts_are_split),
-- what is read of them (texts_are_read), and how tokens are laid out (texts_are_laid_out). Where the board is asked for
-- a verdict or a move, a lemma takes the answer as a premise.
use Rattle.std.proofs.Common.{◌≡◌, ℕ, suc, Bool, true, false, cond, List, [], ◌∷◌, ◌++◌, length, Option, None, Some, refl, sym, ap, ◌∙◌, append_assoc, arith, length-append, codes, is_some, nat_lt}
use Rattle.std.proofs.lemmas.List.Concat.{flat_map-append}
use Rattle.std.specs.Option.{option_or}
use Rattle.chess_base.specs.{declared.man.Move.Move, declared.man.Variant.TheVariants.Normal, declared.setup.Setup.Setup, Initial.initial_setup_of, Moves.after}
use Rattle.chess_game.specs.{declared.verdicts.Verdict.Verdict, declared.results.Outcome.TheVariants.Unfinished}
use Rattle.chess_game.specs.Game.{State, from_start, played, current, verdict_now}
use Rattle.chess_text.specs.{declared.reading.Reading.Reading, Moves.reading}
use Rattle.chess_text.specs.declared.reading.Reading.TheVariants as reads
use Rattle.chess_pgn.specs.declared.read.PgnFault.{PgnFault}
use Rattle.chess_pgn.specs.declared.read.PgnFaultKind.TheVariants.{AfterEnd, TooLong}
use Rattle.chess_pgn.specs.declared.variations.TheConstants.{MOST_NESTED}
use Rattle.chess_pgn.specs.{Variations.line_fault, Variations.variation_fault, Variations.variations_fault, Words.word_gives}
use Rattle.pgn_writer.specs.{declared.tags.Tags.Tags, GameText.tag_lines, GameText.game_tokens, Written.ended, PgnText.IsPgn}
use Rattle.chess_pgn.specs.GameRead.{GameRead, moves_read, read_of_split, IsRead}
use Rattle.chess_pgn.specs.shared.Rows.{Row, Goes_on, Fails, move_row, after_row}
use Rattle.pgn_tokens.specs.Tokens.{Token, Skip, Tag, Word, token_at, tokens_of, tokens_from}
use Rattle.byte_devices.specs.Bytes.{after_byte_order_mark}
use Rattle.chess_pgn_laws.specs.Examples.{endless, fault_with, finished, TextsAreSplit, TextsAreRead, TextsAreLaidOut, VariationsAreCounted}
use Rattle.chess_pgn_laws.proofs.FullLines.{full_cons, grouped_full}
use Rattle.chess_pgn.proofs.shared.Games.{moves_by_row}
use Rattle.pgn_tokens.proofs.shared.Tokens.{read_split}

pub texts_are_split : TextsAreSplit
unfolding token_at tokens_of tokens_from
texts_are_split = record {
  tokens = read_split (codes "[A \"b\"] e4{!}(d4)*") 0;
  lines = read_split (codes "%a\n%b") 0;
  string = read_split (codes "[A\"\\\"\" ]") 0;
  no_string = read_split (codes "[A b]") 0;
  no_end = read_split (codes "(a(b)") 0;
  no_comment_end = read_split (codes "(a(b{c") 0;
}

-- ---- read

-- a word that denotes one move is played where the game is neither over nor full
move_plays : (limit : ℕ) (s : State) (left : ℕ) (m : Move) (r : Reading) → r ≡ reads.Move m → verdict_now s ≡ None
    → nat_lt (length s.moves) limit ≡ true → move_row true limit s left r ≡ Goes_on (played s m)
move_plays limit s left m r is open_yet room =
    ap (move_row true limit s left) is
    ∙ ap (λ (o : Option Verdict). cond (is_some o) (Fails AfterEnd left)
    (cond (nat_lt (length s.moves) limit) (Goes_on (played s m)) (Fails TooLong left))) open_yet
    ∙ ap (λ t. cond t (Goes_on (played s m)) (Fails TooLong left)) room

-- the example: a game from the initial position, the text `[Event "a"]`, line feed, `1. e4 *`, and its tokens, each
-- with how many bytes are left from its first on
abbrev start : State
start = from_start (initial_setup_of Normal)

abbrev text : List ℕ
text = codes "[Event \"a\"]\n1. e4 *"

abbrev tokens : List (ℕ × Token)
tokens = (19, Tag (codes "Event") (codes "a") 11) ∷ (8, Skip) ∷ (7, Word (codes "1")) ∷ (6, Skip) ∷ (5, Skip)
    ∷ (4, Word (codes "e4")) ∷ (2, Skip) ∷ (1, Word (codes "*")) ∷ []

-- the example is read as the game of one move, 1. e4, if that move is what `e4` denotes
game_is_read : (m : Move) → verdict_now (from_start (initial_setup_of Normal)) ≡ None
    → reading (current (from_start (initial_setup_of Normal))) (codes "e4") ≡ reads.Move m
    → IsRead true 1 text 0 (finished (played (from_start (initial_setup_of Normal)) m) Unfinished None 19)
unfolding token_at tokens_of tokens_from
game_is_read m over says = record {
  tokens = tokens;
  split = read_split text 0;
  is = sym (moves_by_row true 1 19 None start (4, Word (codes "e4")) ((2, Skip) ∷ (1, Word (codes "*")) ∷ [])
      ∙ ap (λ (r : Row). after_row None start r
      (λ next. moves_read true 1 19 None next ((2, Skip) ∷ (1, Word (codes "*")) ∷ [])))
      (move_plays 1 start 15 m (reading (current start) (codes "e4")) says over refl));
}

-- a text is read as its tokens say
read_so : (at_text : List ℕ) (r : GameRead)
    → r ≡ read_of_split true 1 (length at_text) (tokens_from at_text (after_byte_order_mark at_text 0))
    → IsRead true 1 at_text 0 r
read_so at_text r is = record {
  tokens = tokens_from at_text (after_byte_order_mark at_text 0);
  split = read_split at_text (after_byte_order_mark at_text 0);
  is = is;
}

-- ---- variations in variations

-- the first fault in a line of these tokens, by what its move is read as; `inside` gives that of a variation in it
abbrev by_move : (Setup → ℕ → Option PgnFault) → Bool → Setup → Reading → Option PgnFault
by_move inside tags p r =
    word_gives None (λ m. line_fault tags (codes "e4 (") inside (Some p) (after p m) ((1, Skip) ∷ []))
    (λ kind. Some (record { kind = kind; offset = 0 })) r

of_a_game : (p : Setup) (m : Move) → reading p (codes "e4") ≡ reads.Move m
    → variations_fault endless (codes "e4 (") p 0 ≡ option_or (fault_with 64 p) None
of_a_game p m says = ap (by_move (λ q from. variation_fault endless MOST_NESTED (codes "e4 (") q from) true p) says

in_another : (most : ℕ) (p : Setup) (m : Move) → reading p (codes "e4") ≡ reads.Move m
    → fault_with (suc most) p ≡ option_or (fault_with most p) None
unfolding variation_fault
in_another most p m says = ap (by_move (λ q from. variation_fault endless most (codes "e4 (") q from) false p) says

too_many : (p : Setup) → fault_with 0 p ≡ Some (record { kind = TooLong; offset = 3 })
unfolding variation_fault
too_many p = refl

variations_are_counted : VariationsAreCounted
variations_are_counted = record { of_a_game = of_a_game; in_another = in_another; too_many = too_many }

pub texts_are_read : TextsAreRead
unfolding token_at tokens_of tokens_from
texts_are_read = record {
  game = game_is_read;
  no_game = read_so (codes " {a}") _ refl;
  no_result = read_so (codes "[A \"b\"]") _ refl;
  bad_tag = read_so (codes "[A \"b\"][A b]") _ refl;
  bad_fen = read_so (codes "[FEN \"x\"] *") _ refl;
  variations = variations_are_counted;
}

-- ---- laid out

-- the lines of the tags, then an empty line, the moves and an empty line, each with the prefix `# `
lines_laid_out : (tags : List (List ℕ)) → ended (codes "# ") tags ++ codes "# \n# 1. e4 *\n# \n"
    ≡ ended (codes "# ") (tags ++ [] ∷ codes "1. e4 *" ∷ [] ++ [] ∷ [])
lines_laid_out tags =
    sym (flat_map-append (λ (line : List ℕ). codes "# " ++ line ++ 10 ∷ []) (tags ++ [] ∷ codes "1. e4 *" ∷ [])
    ([] ∷ [])
    ∙ ap (λ xs. xs ++ codes "# \n")
    (flat_map-append (λ (line : List ℕ). codes "# " ++ line ++ 10 ∷ []) tags ([] ∷ codes "1. e4 *" ∷ []))
    ∙ append_assoc (ended (codes "# ") tags) (codes "# \n# 1. e4 *\n") (codes "# \n"))

-- a game of these tokens is laid out in this text
game_is_laid_out : (t : Tags) (s : State) → game_tokens s ≡ codes "1." ∷ codes "e4" ∷ codes "*" ∷ []
    → IsPgn (codes "# ") t s (ended (codes "# ") (tag_lines t s) ++ codes "# \n# 1. e4 *\n# \n")
game_is_laid_out t s is = record {
  lines = (codes "1." ∷ codes "e4" ∷ codes "*" ∷ []) ∷ [];
  full = grouped_full (codes "1.") (codes "e4" ∷ codes "*" ∷ []) [] (omega arith) tt;
  all = sym is;
  is = lines_laid_out (tag_lines t s);
}

pub texts_are_laid_out : TextsAreLaidOut
texts_are_laid_out = record {
  game = game_is_laid_out;
  lines = λ a b first next. full_cons (a ∷ []) b [] (omega arith) (omega (arith, first))
      (omega (arith, first, next, length-append a (32 ∷ b))) (grouped_full b [] [] (omega (arith, next)) tt);
}
