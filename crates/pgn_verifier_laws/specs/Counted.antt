-- A game that `verify` counts is one by the Laws of Chess.
use Rattle.std.specs.Prelude.{◌≡◌, ⊤, ℕ, ◌+◌, ◌-◌, ◌<◌, Bool, false, List, [], ◌∷◌, ◌++◌, length, take, Some, None, IsTrue}
use Rattle.std.specs.List.{filter}
use Rattle.chess_base.specs.MoveList.{moves}
use Rattle.chess_base.specs.Moves.{after, is_legal}
use Rattle.chess_base.specs.Sound.{IsSound}
use Rattle.chess_base.specs.declared.man.Move.{Move}
use Rattle.chess_base.specs.declared.setup.Setup.{Setup}
use Rattle.chess_game.specs.declared.results.Outcome.{Outcome}
use Rattle.chess_pgn.specs.GameRead.{ending}
use Rattle.pgn_tokens.specs.Split.{IsSplit}
use Rattle.pgn_tokens.specs.Tokens.{Token, Word}
use Rattle.byte_devices.specs.Bytes.{after_byte_order_mark}
use Rattle.chess_pgn_laws.specs.GameOfTokens.{game_by, move_words}
use Rattle.chess_text.specs.Moves.{denotes}
use Rattle.verify_options.specs.declared.options.Strictness.{Strictness}
use Rattle.pgn_verifier.specs.Reports.{AreReports, AreReportsIn, Placed}
use Rattle.pgn_verifier.specs.laws.Reported.{Plain, PlainGame, PlainFault, without_spans}
use Rattle.pgn_writer.specs.Outcomes.{outcome_of}

-- from the position `p` on these are moves of a game, each with its word in the text: each is legal where it is made,
-- and the only legal move there that its word denotes
abbrev pub AreTold : Setup → List (List ℕ) → List Move → Type 0
AreTold p [] [] = ⊤
AreTold p (word ∷ words) (m ∷ ms) =
    IsTrue (is_legal p m) × (filter (λ n. denotes p word n) (moves p) ≡ m ∷ []) × AreTold (after p m) words ms
AreTold p _ _ = ⊥

-- from its offset `from` up to `to` the text has a game of `plies` half-moves that ends with this outcome. `draws`:
-- whether fivefold repetition and 75 moves end a game
pub record HasGame (draws : Bool) (text : List ℕ) (from to plies : ℕ) (outcome : Outcome) : Type 0 where
  pub start : Setup
  pub sound : IsSound start
  -- the text's tokens from `from` on: those of the game, its termination marker such as `1-0`, and others
  pub tokens : List (ℕ × Token)
  pub split : IsSplit text (after_byte_order_mark text from) tokens
  pub own : List (ℕ × Token)
  -- how many bytes of the text are left where the marker begins
  pub left : ℕ
  pub marker : List ℕ
  pub others : List (ℕ × Token)
  pub all : own ++ (left, Word marker) ∷ others ≡ tokens
  pub marks : outcome_of marker ≡ Some outcome
  pub ends : to ≡ length text - left + length marker
  -- a move for each word of the game that is no number and no marks such as `!?`
  pub moves : List Move
  pub told : AreTold start (move_words own) moves
  pub many : length moves ≡ plies
  -- before its last move no verdict, such as mate, had ended the game
  pub unended : (k : ℕ) → k < plies → ending draws (game_by start (take k moves)) ≡ None

-- from this offset on the text has the games of these reports, one after another; after a fault the next game begins at
-- some offset (which one isn't said)
abbrev pub HasGames : Bool → List ℕ → ℕ → List Plain → Type 0
HasGames draws text from [] = ⊤
HasGames draws text from (PlainGame plies outcome termination ∷ reports) =
    (to : ℕ) × HasGame draws text from to plies outcome × HasGames draws text to reports
HasGames draws text from (PlainFault fault wrong_at explanation ∷ reports) = (to : ℕ) × HasGames draws text to reports

-- the games that `verify` counts in a text, up to its first fault, are games; `start`: the input's offset at which the
-- text begins
abbrev pub CountedGamesAreGames : Type 0
CountedGamesAreGames = (strict : Strictness) (start : ℕ) (text : List ℕ) (reports : List Placed)
    → AreReports false strict start text 0 reports → HasGames strict.draws_of_2014 text 0 (without_spans reports)

-- the games that `verify --keep-going` counts in a piece are games; the piece begins at this offset of the input
abbrev pub CountedGamesOfPiecesAreGames : Type 0
CountedGamesOfPiecesAreGames = (strict : Strictness) (offset : ℕ) (piece : List ℕ) (reports : List Placed)
    → AreReportsIn strict offset piece reports → HasGames strict.draws_of_2014 piece 0 (without_spans reports)
