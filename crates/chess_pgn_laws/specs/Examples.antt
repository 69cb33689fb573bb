-- Small texts that show what the definitions of a split, of a game that is read and of a game's text mean.
use Rattle.std.specs.Prelude.{◌≡◌, ℕ, suc, true, List, [], ◌∷◌, ◌++◌, length, codes, Option, Some, None, Ok, is_some}
use Rattle.std.specs.Option.{option_or}
use Rattle.chess_base.specs.declared.fen_fault.FenFault.TheVariants.{Fields}
use Rattle.chess_base.specs.declared.man.Move.{Move}
use Rattle.chess_base.specs.declared.man.Variant.TheVariants.{Normal}
use Rattle.chess_base.specs.declared.setup.Setup.{Setup}
use Rattle.chess_base.specs.Initial.{initial_setup_of}
use Rattle.chess_game.specs.Game.{State, from_start, played, current, verdict_now}
use Rattle.chess_game.specs.declared.results.Outcome.{Outcome}
use Rattle.chess_game.specs.declared.results.Outcome.TheVariants.{Unfinished}
use Rattle.pgn_writer.specs.declared.termination.Termination.{Termination}
use Rattle.chess_text.specs.declared.reading.Reading.TheVariants as reads
use Rattle.chess_text.specs.Moves.{reading}
use Rattle.chess_pgn.specs.declared.read.PgnFault.{PgnFault}
use Rattle.chess_pgn.specs.declared.read.PgnFaultKind.TheVariants.{BadTag, BadFen, NoResult, TooLong}
use Rattle.pgn_writer.specs.declared.tags.Tags.{Tags}
use Rattle.pgn_writer.specs.GameText.{tag_lines, game_tokens}
use Rattle.pgn_tokens.specs.Tokens.{Token, Skip, Tag, Word, Bad_tag, Unclosed_comment, Unclosed_variation}
use Rattle.pgn_writer.specs.Written.{ended}
use Rattle.pgn_writer.specs.PgnText.{AreFullLines, IsPgn}
use Rattle.pgn_tokens.specs.Split.{IsSplit}
use Rattle.chess_pgn.specs.GameRead.{GameRead, declared_after, failed}
use Rattle.chess_pgn.specs.GameRead.{IsRead}
use Rattle.chess_pgn.specs.Variations.{variation_fault, variations_fault}

-- what is read of the game `s` and then the termination marker `o`; `offset` is that of the byte after the marker
abbrev pub finished : State → Outcome → Option Termination → ℕ → GameRead
finished s o termination offset = record {
  state = record s { declared = declared_after (is_some (verdict_now s)) o };
  answer = Ok (Some (record { outcome = o; termination = termination; offset = offset }));
}

-- examples of texts that are split into tokens
pub record TextsAreSplit : Type 0 where
  -- a tag, a space, a word, a comment, a variation and an outcome, each after how many bytes are left at it; 14 are
  -- left at the tag's string
  pub tokens : IsSplit (codes "[A \"b\"] e4{!}(d4)*") 0
      ((18, Tag (codes "A") (codes "b") 14) ∷ (11, Skip) ∷ (10, Word (codes "e4")) ∷ (8, Skip) ∷ (5, Skip)
      ∷ (1, Word (codes "*")) ∷ [])
  -- a line is skipped from `%` only at its front
  pub lines : IsSplit (codes "%a\n%b") 0 ((5, Skip) ∷ (3, Skip) ∷ (2, Skip) ∷ [])
  -- a string may hold a quote after a backslash, and a gap may come before the bracket
  pub string : IsSplit (codes "[A\"\\\"\" ]") 0 ((8, Tag (codes "A") (codes "\\\"") 5) ∷ [])
  pub no_string : IsSplit (codes "[A b]") 0 ((5, Bad_tag) ∷ [])
  pub no_end : IsSplit (codes "(a(b)") 0 ((5, Unclosed_variation) ∷ [])
  -- a comment in a variation isn't closed, with 2 bytes left at its brace
  pub no_comment_end : IsSplit (codes "(a(b{c") 0 ((6, Unclosed_comment 2) ∷ [])

-- the tokens of `e4 (e4 (e4 (` and so on without end, as tokens of the text `e4 (`: wherever reading begins, a move and
-- then a variation, whose `(` is at the offset 3
abbrev pub endless : List ℕ → ℕ → List (ℕ × Token)
endless text at = (4, Word (codes "e4")) ∷ (1, Skip) ∷ []

-- the first fault of a variation of `e4 (` whose moves begin in the position `p`, if so many variations (`most`) may be
-- open, this one included
abbrev pub fault_with : ℕ → Setup → Option PgnFault
fault_with most p = variation_fault endless most (codes "e4 (") p 3

-- how deep variations may be nested, where each replaces the move m: 64 deep in a game, and inside one of these one
-- less; where none may be open, a variation is the fault
pub record VariationsAreCounted : Type 0 where
  pub of_a_game : (p : Setup) (m : Move) → reading p (codes "e4") ≡ reads.Move m
      → variations_fault endless (codes "e4 (") p 0 ≡ option_or (fault_with 64 p) None
  pub in_another : (most : ℕ) (p : Setup) (m : Move) → reading p (codes "e4") ≡ reads.Move m
      → fault_with (suc most) p ≡ option_or (fault_with most p) None
  pub too_many : (p : Setup) → fault_with 0 p ≡ Some (record { kind = TooLong; offset = 3 })

-- examples of what is read of texts, in games of at most one half-move, and of how deep variations may be nested
pub record TextsAreRead : Type 0 where
  -- one move, where the initial position has no verdict and `e4` denotes the move m in it
  pub game : (m : Move) → verdict_now (from_start (initial_setup_of Normal)) ≡ None
      → reading (current (from_start (initial_setup_of Normal))) (codes "e4") ≡ reads.Move m
      → IsRead true 1 (codes "[Event \"a\"]\n1. e4 *") 0
      (finished (played (from_start (initial_setup_of Normal)) m) Unfinished None 19)
  pub no_game : IsRead true 1 (codes " {a}") 0
      (record { state = from_start (initial_setup_of Normal); answer = Ok None })
  pub no_result : IsRead true 1 (codes "[A \"b\"]") 0
      (failed (from_start (initial_setup_of Normal)) NoResult 7)
  pub bad_tag : IsRead true 1 (codes "[A \"b\"][A b]") 0
      (failed (from_start (initial_setup_of Normal)) BadTag 7)
  pub bad_fen : IsRead true 1 (codes "[FEN \"x\"] *") 0
      (failed (from_start (initial_setup_of Normal)) (BadFen Fields) 6)
  pub variations : VariationsAreCounted

-- examples of how tokens are laid out in lines
pub record TextsAreLaidOut : Type 0 where
  -- a game of one move, with `# ` before each line
  pub game : (t : Tags) (s : State) → game_tokens s ≡ codes "1." ∷ codes "e4" ∷ codes "*" ∷ []
      → IsPgn (codes "# ") t s (ended (codes "# ") (tag_lines t s) ++ codes "# \n# 1. e4 *\n# \n")
  -- tokens of 40 and 39 characters need two lines, since one would have 80
  pub lines : (a b : List ℕ) → length a ≡ 40 → length b ≡ 39 → AreFullLines ((a ∷ []) ∷ (b ∷ []) ∷ [])
