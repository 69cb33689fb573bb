-- What the tokens of a game's text say, without reading one after another: which are taken, the start, the moves and
-- how the game ended; and why the next token is not taken.
use Rattle.std.specs.Prelude.{◌≡◌, ℕ, ◌+◌, ◌-◌, ◌<◌, nat_lt, Bool, true, false, not, ◌&&◌, ◌||◌, if◌then◌else◌, List, [], ◌∷◌, ◌++◌, length, Option, Some, None, is_some, Result, Ok, Err, codes}
use Rattle.std.specs.List.{list_any, flat_map}
use Rattle.std.specs.Option.{option_map}
use Rattle.std.specs.Result.{is_ok}
use Rattle.std.specs.Str.{bytes_eq}
use Rattle.chess_base.specs.declared.fen_fault.FenFault.{FenFault}
use Rattle.chess_base.specs.declared.man.Move.{Move as Played}
use Rattle.chess_base.specs.declared.man.Variant.{Variant}
use Rattle.chess_base.specs.declared.setup.Setup.{Setup}
use Rattle.chess_base.specs.Initial.{initial_setup_of}
use Rattle.chess_fen.specs.Reading.{fen_reading_as}
use Rattle.chess_game.specs.Game.{State, current, verdict_now}
use Rattle.chess_game.specs.Line.{position_after}
use Rattle.chess_text.specs.declared.reading.Reading.{Reading}
use Rattle.chess_text.specs.declared.reading.Reading.TheVariants as reads
use Rattle.chess_text.specs.Moves.{reading}
use Rattle.chess_pgn.specs.declared.read.PgnEnd.{PgnEnd}
use Rattle.chess_pgn.specs.declared.read.PgnFault.{PgnFault}
use Rattle.chess_pgn.specs.declared.read.PgnFaultKind.{PgnFaultKind}
use Rattle.chess_pgn.specs.declared.read.PgnFaultKind.TheVariants.{BadTag, BadFen, BadToken, IllegalMove, AmbiguousMove, AfterEnd, TooLong, UnclosedComment, UnclosedVariation, NoResult}
use Rattle.pgn_writer.specs.declared.termination.Termination.{Termination}
use Rattle.chess_pgn.specs.declared.word_kind.WordKind.{WordKind}
use Rattle.chess_pgn.specs.declared.word_kind.WordKind.TheVariants.{End, Number, Move}
use Rattle.chess_pgn.specs.GameRead.{GameRead, IsRead, declared_after, ending, tagged_variant}
use Rattle.pgn_tokens.specs.LastTags.{tag_section}
use Rattle.chess_pgn.specs.laws.TokenByToken.{termination_after}
use Rattle.pgn_tokens.specs.Tokens.{Token, Skip, Tag, Word, Bad_tag, Unclosed_comment, Unclosed_variation, Bad}
use Rattle.chess_pgn.specs.laws.WordKinds.{word_kind}

-- ---- kinds of tokens

-- whether a word of this kind is a move number or may be a move
abbrev pub is_number_or_move : WordKind → Bool
is_number_or_move Number = true
is_number_or_move Move = true
is_number_or_move _ = false

-- whether a word of this kind is an outcome such as `1-0`
abbrev pub is_outcome : WordKind → Bool
is_outcome (End o) = true
is_outcome _ = false

-- whether a token is a number or a move, after which no tag belongs to the game
abbrev pub begins : Token → Bool
begins (Word word) = is_number_or_move (word_kind word)
begins _ = false

-- whether a token is a tag, number or move, so that a text with it has a game
abbrev pub counts : Token → Bool
counts (Tag name text to_end) = true
counts (Word word) = is_number_or_move (word_kind word)
counts _ = false

-- whether a tag with this name is a FEN, which gives the game's start
abbrev pub is_fen : List ℕ → Bool
is_fen name = bytes_eq name (codes "FEN")

-- ---- what can be taken

-- whether reading may go on after a token: it is skipped, a word but no outcome (`AreReadAs` says whether its move can
-- be played), or a tag before the first number or move (`begun`: one came before), where a FEN must denote a sound
-- position of the variant `v`
abbrev pub can_be_taken : Variant → Bool → Token → Bool
can_be_taken v begun Skip = true
can_be_taken v begun (Tag name text to_end) = not begun && (not (is_fen name) || is_ok (fen_reading_as v text))
can_be_taken v begun (Word word) = not (is_outcome (word_kind word))
can_be_taken v begun _ = false

-- whether reading may go on after each of these tokens (`can_be_taken`); `v`: the variant of a FEN, `begun`: a number
-- or move came before them
abbrev pub can_all_be_taken : Variant → Bool → List (ℕ × Token) → Bool
can_all_be_taken v begun [] = true
can_all_be_taken v begun (t ∷ ts) = can_be_taken v begun t.1 && can_all_be_taken v (begun || begins t.1) ts

-- ---- what they say

-- the word as a list of one, if by its kind it may be a move; otherwise `[]`
abbrev pub if_move : List ℕ → WordKind → List (List ℕ)
if_move word Move = word ∷ []
if_move word _ = []

-- the token's word as a list of one, if it may be a move; otherwise `[]`
abbrev pub move_words_of : Token → List (List ℕ)
move_words_of (Word word) = if_move word (word_kind word)
move_words_of _ = []

-- the words of these tokens that may be moves, in order
abbrev pub move_words : List (ℕ × Token) → List (List ℕ)
move_words tokens = flat_map (λ t. move_words_of t.1) tokens

-- the start that a tag FEN gives, by what its text was read as: that position, or after a fault `p`, the start so far
abbrev pub if_read : Setup → Result Setup FenFault → Setup
if_read p (Ok start) = start
if_read p (Err fault) = p

-- the game's start after one more token: what a tag FEN denotes in the variant `v`; otherwise `p`, the start so far
abbrev pub start_by : Variant → Setup → Token → Setup
start_by v p (Tag name text to_end) = if is_fen name then if_read p (fen_reading_as v text) else p
start_by v p _ = p

-- the position of the last tag FEN of these tokens that denotes one in the variant `v`; `p` if there is none
abbrev pub tagged_start : Variant → Setup → List (ℕ × Token) → Setup
tagged_start v p [] = p
tagged_start v p (t ∷ ts) = tagged_start v (start_by v p t.1) ts

-- the Termination after one more token: what a tag of this name says; otherwise `o`, the one so far
abbrev pub termination_by_token : Option Termination → Token → Option Termination
termination_by_token o (Tag name text to_end) = termination_after o name text
termination_by_token o _ = o

-- what the last tag Termination of these tokens names; `o` if there is none
abbrev pub tagged_termination : Option Termination → List (ℕ × Token) → Option Termination
tagged_termination o [] = o
tagged_termination o (t ∷ ts) = tagged_termination (termination_by_token o t.1) ts

-- the game from this start by these moves, with nothing declared
abbrev pub game_by : Setup → List Played → State
game_by start ms = record { start = start; moves = ms; declared = None }

-- after the moves `done` from a start, each word denotes the move at its index, in the position reached by then, where
-- no verdict has ended the game and it has fewer than `limit` half-moves. `draws`: whether fivefold repetition and 75
-- moves end it
abbrev pub AreReadAs : Bool → ℕ → Setup → List Played → List (List ℕ) → List Played → Type 0
AreReadAs draws limit start done [] [] = Unit {0}
AreReadAs draws limit start done [] (m ∷ ms) = ⊥
AreReadAs draws limit start done (w ∷ ws) [] = ⊥
AreReadAs draws limit start done (w ∷ ws) (m ∷ ms) =
    (ending draws (game_by start done) ≡ None) × (length done < limit)
    × (reading (position_after start done) w ≡ reads.Move m) × AreReadAs draws limit start (done ++ m ∷ []) ws ms

-- ---- why a token is not taken

-- why a move is not played in the game `s`: AfterEnd if a verdict has ended it, TooLong if it has `limit` half-moves,
-- otherwise `kind`, the fault of the move itself (or none). `draws`: whether fivefold repetition and 75 moves end it
abbrev pub unless_closed : Bool → ℕ → State → Option PgnFaultKind → Option PgnFaultKind
unless_closed draws limit s kind = if is_some (ending draws s) then Some AfterEnd else
    (if nat_lt (length s.moves) limit then kind else Some TooLong)

-- why the move of a word is not played in the game `s`, by what the word denotes there; `None` if it is played.
-- `draws`: whether fivefold repetition and 75 moves end the game; `limit`: its most half-moves
abbrev pub move_fault : Bool → ℕ → State → Reading → Option PgnFaultKind
move_fault draws limit s reads.NotAMove = Some BadToken
move_fault draws limit s (reads.Move m) = unless_closed draws limit s None
move_fault draws limit s reads.Ambiguous = unless_closed draws limit s (Some AmbiguousMove)
move_fault draws limit s reads.NoSuch = unless_closed draws limit s (Some IllegalMove)

-- why a word of this kind can't be taken in the game `s`; `None` if it can, or if it is an outcome. `draws`: whether
-- fivefold repetition and 75 moves end the game; `limit`: its most half-moves
abbrev pub word_fault : Bool → ℕ → State → List ℕ → WordKind → Option PgnFaultKind
word_fault draws limit s word Move = move_fault draws limit s (reading (current s) word)
word_fault draws limit s word _ = None

-- a fault of this kind at this offset; `None` without a kind
abbrev pub fault_at : ℕ → Option PgnFaultKind → Option PgnFault
fault_at offset kind = option_map (λ k. record { kind = k; offset = offset }) kind

-- the fault of a tag FEN whose text was read with this result; `None` if it denotes a position
abbrev pub fen_fault : Result Setup FenFault → Option PgnFaultKind
fen_fault (Ok start) = None
fen_fault (Err fault) = Some (BadFen fault)

-- why a token can't be taken in the game `s` of the variant `v`, with the fault's offset; `None` if it can, or if it is
-- an outcome's word. `draws`: whether fivefold repetition and 75 moves end the game; `limit`: its most half-moves;
-- `total`: the text's length; `to_end`: how many bytes are left at the token; `begun`: a number or move came before it
abbrev pub token_fault : Bool → ℕ → ℕ → Variant → Bool → State → ℕ → Token → Option PgnFault
token_fault draws limit total v begun s to_end Skip = None
token_fault draws limit total v begun s to_end (Tag name text string) =
    if begun then fault_at (total - to_end) (Some NoResult)
    else (if is_fen name then fault_at (total - string) (fen_fault (fen_reading_as v text)) else None)
token_fault draws limit total v begun s to_end (Word word) =
    fault_at (total - to_end) (word_fault draws limit s word (word_kind word))
token_fault draws limit total v begun s to_end Bad_tag =
    fault_at (total - to_end) (Some (if begun then NoResult else BadTag))
token_fault draws limit total v begun s to_end (Unclosed_comment brace) =
    fault_at (total - brace) (Some UnclosedComment)
token_fault draws limit total v begun s to_end Unclosed_variation = fault_at (total - to_end) (Some UnclosedVariation)
token_fault draws limit total v begun s to_end Bad = fault_at (total - to_end) (Some BadToken)

-- ---- the game

-- why reading stopped after the tokens `taken`, before the others (the next argument), in a text of `total` bytes. `s`
-- is the game then, of the variant `v`. `draws`: whether fivefold repetition and 75 moves end it; `limit`: its most
-- half-moves
abbrev pub StopsAt : Bool → ℕ → ℕ → Variant → List (ℕ × Token) → List (ℕ × Token) → State
    → Result (Option PgnEnd) PgnFault
    → Type 0
-- the text ended before a tag, number or move came
StopsAt draws limit total v taken [] s (Ok None) = (s.declared ≡ None) × (list_any (λ t. counts t.1) taken ≡ false)
StopsAt draws limit total v taken [] s (Ok (Some e)) = ⊥
-- a game was begun, and has no result
StopsAt draws limit total v taken [] s (Err f) =
    (s.declared ≡ None) × (list_any (λ t. counts t.1) taken ≡ true) × (f ≡ record { kind = NoResult; offset = total })
StopsAt draws limit total v taken (t ∷ ts) s (Ok None) = ⊥
-- the next token is an outcome's word
StopsAt draws limit total v taken (t ∷ ts) s (Ok (Some e)) =
    (word : List ℕ) × (t.1 ≡ Word word) × (word_kind word ≡ End e.outcome)
    × (s.declared ≡ declared_after (is_some (verdict_now s)) e.outcome)
    × (e.termination ≡ tagged_termination None taken) × (e.offset ≡ total - t.0 + length word)
-- the next token can't be taken
StopsAt draws limit total v taken (t ∷ ts) s (Err f) =
    (s.declared ≡ None) × (token_fault draws limit total v (list_any (λ u. begins u.1) taken) s t.0 t.1 ≡ Some f)

-- the game read (`r`) is that of the first of `tokens`, those `taken`: they say its start (in the variant `v`) and its
-- moves, and reading stopped after them as it must (`StopsAt`). `draws`: whether fivefold repetition and 75 moves end
-- it; `limit`: its most half-moves; `total`: the text's length
pub record IsOfTokens (draws : Bool) (limit total : ℕ) (v : Variant) (tokens : List (ℕ × Token))
    (r : GameRead) : Type 0 where
  pub taken : List (ℕ × Token)
  pub others : List (ℕ × Token)
  pub all : taken ++ others ≡ tokens
  pub can_be : can_all_be_taken v false taken ≡ true
  pub start : r.state.start ≡ tagged_start v (initial_setup_of v) taken
  pub moves : AreReadAs draws limit r.state.start [] (move_words taken) r.state.moves
  pub stop : StopsAt draws limit total v taken others r.state r.answer

-- each game that is read from an offset `at` on is that of the first tokens there: its start is their last FEN's, its
-- moves their words', and the next token ends the game, can't be taken, or isn't there. `draws`: whether fivefold
-- repetition and 75 moves end it; `limit`: its most half-moves
abbrev pub GamesAreOfTokens : Type 0
GamesAreOfTokens =
    (draws : Bool) (limit : ℕ) (text : List ℕ) (at : ℕ) (r : GameRead) (read : IsRead draws limit text at r)
    → IsOfTokens draws limit (length text) (tagged_variant (tag_section read.tokens)) read.tokens r
