-- What the reader of a game answers, step by step, in the words of the definitions.
use Rattle.std.specs.Prelude.{◌≡◌, ℕ, ◌<◌, ◌≤◌, Bool, true, false, not, List, [], ◌∷◌, length, Result, Ok, Err, None, Some, is_some}
use Rattle.chess_game.specs.Game.{Seen, State, current, refusal_now}
use Rattle.chess_game.specs.declared.game.PlayRefusal.{PlayRefusal}
use Rattle.chess_game.specs.declared.game.PlayRefusal.TheVariants.{Over, TooLong, Illegal}
use Rattle.chess_text.specs.declared.reading.Reading.{Reading}
use Rattle.chess_text.specs.declared.reading.Reading.TheVariants as reads
use Rattle.chess_text.specs.Moves.{reading}
use Rattle.chess_pgn.specs.declared.read.PgnFault.{PgnFault}
use Rattle.chess_pgn.specs.declared.read.PgnFaultKind.{PgnFaultKind}
use Rattle.chess_pgn.specs.declared.read.PgnFaultKind.TheVariants as faults
use Rattle.chess_pgn.specs.declared.progress.Progress.{Progress}
use Rattle.chess_pgn.specs.declared.read.Step as code
use Rattle.chess_pgn.specs.declared.read.Step.TheVariants as does
use Rattle.chess_pgn.specs.declared.word_kind.WordKind.{WordKind}
use Rattle.chess_pgn.specs.declared.word_kind.WordKind.TheVariants.{Move}
use Rattle.chess_pgn.specs.laws.WordKinds.{word_kind}
use Rattle.pgn_tokens.specs.Tokens.{Token, Word, tokens_from}
use Rattle.chess_pgn.specs.laws.TokenByToken.{SoFar, Step, On, Stop, game_of, tokens_read}

-- the fault to give for a move that the game refuses: it is over, full (`TooLong`), or the move is illegal
abbrev pub refusal_kind : PlayRefusal → PgnFaultKind
refusal_kind Over = faults.AfterEnd
refusal_kind TooLong = faults.TooLong
refusal_kind Illegal = faults.IllegalMove

-- what is read so far, as the definitions have it, from the code's game state `s` and its `Progress`
abbrev pub so_far : State → Progress → SoFar
so_far s p = record { state = s; is_met = p.is_met; is_begun = p.is_begun; termination = p.termination }

-- what the code returned for a token, as the definitions have it: reading goes on, or stops with an end or a fault; `s`
-- is the game's state after it
abbrev pub step_seen : State → Result code.Step PgnFault → Step
step_seen s (Ok (does.On p)) = On (so_far s p)
step_seen s (Ok (does.Ended end)) = Stop (record { state = s; answer = Ok (Some end) })
step_seen s (Err fault) = Stop (record { state = s; answer = Err fault })

-- whether the game plays what a word is read as: one legal move, and the game is neither over nor full
abbrev pub is_played : Seen → Reading → Bool
is_played game (reads.Move m) = not (is_some (refusal_now game))
is_played game _ = false

-- a word of this kind is no move that the game plays
abbrev pub IsNoMove : Seen → List ℕ → WordKind → Type 0
IsNoMove game word Move = is_played game (reading (current game.state) word) ≡ false
IsNoMove game word _ = Unit {0}

-- a token is no move that the game plays
abbrev pub IsLeft : Seen → Token → Type 0
IsLeft game (Word word) = IsNoMove game word (word_kind word)
IsLeft game _ = Unit {0}

-- the first of these tokens, if there is one, is no move that the game plays
abbrev pub StopsAt : Seen → List (ℕ × Token) → Type 0
StopsAt game [] = Unit {0}
StopsAt game (t ∷ ts) = IsLeft game t.1

-- what is known after a number or move, from what was known before it
abbrev pub begun : Progress → Progress
begun p = record { is_met = true; is_begun = true; termination = p.termination }

-- whether a word was taken as a number or move. `old` and `new` are the game before and after. If it was taken, reading
-- goes on with `new`, as `step` says, whatever was known before the word (`p`) and wherever the word is (`offset`). If
-- not, the game didn't change
abbrev pub IsTaken : Bool → Seen → Seen → (SoFar → ℕ → Step) → Type 0
IsTaken true old new step =
    (p : Progress) (offset : ℕ) → On (so_far new.state (begun p)) ≡ step (so_far old.state p) offset
IsTaken false old new step = new ≡ old

-- if a token ended the game (`Ended`), the game's end offset is greater than `first` and at most `last`; for any other
-- result nothing is said
abbrev pub EndsIn : ℕ → ℕ → Result code.Step PgnFault → Type 0
EndsIn first last (Ok (does.On p)) = Unit {0}
EndsIn first last (Ok (does.Ended end)) = (first < end.offset) × (end.offset ≤ last)
EndsIn first last (Err fault) = Unit {0}

-- reading on from the offset `a` gives the same as from `b`, whatever was read before
abbrev pub ReadsAlike : List ℕ → ℕ → ℕ → Type 0
ReadsAlike text a b = (limit : ℕ) (g : SoFar)
    → game_of true limit (length text) g (tokens_from text a) ≡ game_of true limit (length text) g (tokens_from text b)

-- a game was begun at the offset `from` of the text and is read up to `here`; `game` and `progress` are what was read.
-- Reading on from `here` gives what reading from `from` on gives. `limit` is the most half-moves
pub record IsReadOn (limit : ℕ) (text : List ℕ) (from : ℕ) (game : Seen) (progress : Progress) (here : ℕ)
    : Type 0 where
  pub forward : from ≤ here
  pub offset : here ≤ length text
  pub undeclared : game.state.declared ≡ None
  pub whole : game_of true limit (length text) (so_far game.state progress) (tokens_from text here)
      ≡ tokens_read true limit (length text) (tokens_from text from)

-- reading went on from the offset `from`, with `old` and `before` read up to there, to `here`, with `new` and `after`:
-- reading on gives the same from both
pub record GoesOn (text : List ℕ) (from : ℕ) (old : Seen) (before : Progress) (here : ℕ) (new : Seen)
    (after : Progress) : Type 0 where
  pub forward : from ≤ here
  pub offset : here ≤ length text
  pub undeclared : new.state.declared ≡ None
  pub same_limit : new.limit ≡ old.limit
  pub whole : game_of true old.limit (length text) (so_far new.state after) (tokens_from text here)
      ≡ game_of true old.limit (length text) (so_far old.state before) (tokens_from text from)
