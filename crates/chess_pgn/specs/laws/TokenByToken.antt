-- What is read of a game token after token, by a step for each. The law `a_game_is_tags_and_moves` says that this is
-- what the game's tags and then its moves say.
use Rattle.std.specs.Prelude.{ℕ, ◌+◌, ◌-◌, nat_lt, Bool, true, false, if◌then◌else◌, List, [], ◌∷◌, length, Option, Some, None, is_some, Result, Ok, Err, codes}
use Rattle.std.specs.Str.{bytes_eq}
use Rattle.chess_base.specs.declared.fen_fault.FenFault.{FenFault}
use Rattle.chess_base.specs.declared.man.Variant.{Variant}
use Rattle.chess_base.specs.declared.setup.Setup.{Setup}
use Rattle.chess_base.specs.Initial.{initial_setup_of}
use Rattle.chess_fen.specs.Reading.{fen_reading_as}
use Rattle.chess_game.specs.Game.{State, from_start, played, current, verdict_now}
use Rattle.chess_game.specs.declared.results.Outcome.{Outcome}
use Rattle.chess_text.specs.declared.reading.Reading.{Reading}
use Rattle.chess_text.specs.declared.reading.Reading.TheVariants as reads
use Rattle.chess_pgn.specs.declared.read.PgnFaultKind.{PgnFaultKind}
use Rattle.chess_pgn.specs.declared.read.PgnFaultKind.TheVariants.{BadTag, BadFen, BadToken, IllegalMove, AmbiguousMove, AfterEnd, TooLong, UnclosedComment, UnclosedVariation, NoResult}
use Rattle.chess_pgn.specs.declared.word_kind.WordKind.{WordKind}
use Rattle.chess_pgn.specs.declared.word_kind.WordKind.TheVariants.{End, Number, Marks, Move}
use Rattle.pgn_writer.specs.declared.termination.Termination.{Termination}
use Rattle.chess_text.specs.Moves.{reading}
use Rattle.pgn_writer.specs.Terminations.{termination_named}
use Rattle.pgn_tokens.specs.LastTags.{tag_section}
use Rattle.pgn_tokens.specs.Tokens.{Token, Skip, Tag, Word, Bad_tag, Unclosed_comment, Unclosed_variation, Bad}
use Rattle.chess_pgn.specs.laws.WordKinds.{word_kind}
use Rattle.chess_pgn.specs.GameRead.{GameRead, declared_after, ending, tagged_variant}

-- what reading has found so far in a game's text: the game; whether there was a tag, number or move (`is_met`);
-- whether there was a number or move (`is_begun`), after which a tag belongs to the next game; and what its tag
-- Termination says
pub record SoFar : Type 0 where
  pub state : State
  pub is_met : Bool
  pub is_begun : Bool
  pub termination : Option Termination

-- what follows from one token: reading goes on with the game so far, or stops with what was read
pub data Step : Type 0 where
  On : (game : SoFar) → Step
  Stop : (read : GameRead) → Step

-- stops reading with a fault at an offset; the game is left as it was read so far (`g`)
abbrev pub fails : SoFar → PgnFaultKind → ℕ → Step
fails g kind offset = Stop (record { state = g.state; answer = Err (record { kind = kind; offset = offset }) })

-- ---- words

-- stops at the termination marker `o`: the game is `g`, with that outcome declared, unless it is `*` or the board has a
-- verdict (`declared_after`); `offset` is that of the byte after the marker
abbrev pub ends : SoFar → Outcome → ℕ → Step
ends g o offset = Stop (record {
  state = record g.state { declared = declared_after (is_some (verdict_now g.state)) o };
  answer = Ok (Some (record { outcome = o; termination = g.termination; offset = offset }));
})

-- `next`, if one more move may be played in the game so far (`g`); otherwise a fault at `offset`, that of the move's
-- word: AfterEnd if a verdict has ended the game, or else TooLong, as it has `limit` half-moves or more. `draws`:
-- whether fivefold repetition and 75 moves end a game
abbrev pub unless_full : Bool → ℕ → SoFar → ℕ → Step → Step
unless_full draws limit g offset next =
    if is_some (ending draws g.state) then fails g AfterEnd offset
    else (if nat_lt (length g.state.moves) limit then next else fails g TooLong offset)

-- what follows from a word that may be a move, by what it denotes in the current position: the move is played, or there
-- is a fault at the word's offset. `limit` is the most half-moves of a game, and `draws` says whether fivefold
-- repetition and 75 moves end it
abbrev pub move_step : Bool → ℕ → SoFar → ℕ → Reading → Step
move_step draws limit g offset reads.NotAMove = fails g BadToken offset
move_step draws limit g offset (reads.Move m) = unless_full draws limit g offset
    (On (record g { state = played g.state m; is_met = true; is_begun = true }))
move_step draws limit g offset reads.Ambiguous = unless_full draws limit g offset (fails g AmbiguousMove offset)
move_step draws limit g offset reads.NoSuch = unless_full draws limit g offset (fails g IllegalMove offset)

-- what follows from a word of the given kind at the given offset: an outcome ends the game `g`, a number begins its
-- moves, marks such as `!?` are skipped, a move is played. `limit` is the most half-moves of a game, and `draws` says
-- whether fivefold repetition and 75 moves end it
abbrev pub word_step : Bool → ℕ → SoFar → ℕ → List ℕ → WordKind → Step
word_step draws limit g offset word (End o) = ends g o (offset + length word)
word_step draws limit g offset word Number = On (record g { is_met = true; is_begun = true })
word_step draws limit g offset word Marks = On g
word_step draws limit g offset word Move = move_step draws limit g offset (reading (current g.state) word)

-- ---- tags

-- what follows from a tag FEN, from how its text was read: the game starts at that position, or the fault is BadFen
-- with the FEN's own fault; `offset` is the offset of the tag's string
abbrev pub fen_step : SoFar → ℕ → Result Setup FenFault → Step
fen_step g offset (Ok start) = On (record g { state = from_start start; is_met = true })
fen_step g offset (Err fault) = fails g (BadFen fault) offset

-- what the last tag Termination names, once a tag with this name and text is read: what that tag says, if its name is
-- Termination, otherwise `before`, what was known before it
abbrev pub termination_after : Option Termination → List ℕ → List ℕ → Option Termination
termination_after before name text = if bytes_eq name (codes "Termination") then termination_named text else before

-- what follows from a tag with this name and text: FEN sets the start, and what Termination says is kept; of any other
-- tag only that a tag was met (`is_met`). `g` is the game so far, `offset` that of the tag's string
abbrev pub tag_step : SoFar → List ℕ → List ℕ → ℕ → Step
tag_step g name text offset =
    if bytes_eq name (codes "FEN") then fen_step g offset (fen_reading_as g.state.start.variant text)
    else On (record g { is_met = true; termination = termination_after g.termination name text })

-- ---- tokens, in a text of so many bytes; each with how many bytes are left where it begins

-- what follows from one token for the game so far (`g`). `limit` is the most half-moves of a game, `draws` says whether
-- fivefold repetition and 75 moves end it, `total` is the text's length, and `to_end` how many bytes are left from the
-- token on, so that its offset is `total - to_end`
abbrev pub step : Bool → ℕ → ℕ → SoFar → ℕ → Token → Step
step draws limit total g to_end Skip = On g
step draws limit total g to_end (Tag name text string) =
    if g.is_begun then fails g NoResult (total - to_end) else tag_step g name text (total - string)
step draws limit total g to_end (Word word) = word_step draws limit g (total - to_end) word (word_kind word)
step draws limit total g to_end Bad_tag = fails g (if g.is_begun then NoResult else BadTag) (total - to_end)
step draws limit total g to_end (Unclosed_comment brace) = fails g UnclosedComment (total - brace)
step draws limit total g to_end Unclosed_variation = fails g UnclosedVariation (total - to_end)
step draws limit total g to_end Bad = fails g BadToken (total - to_end)

-- what was read if the text ends here, before a termination marker: no game (`None`), or the fault NoResult at the end
-- if a tag, number or move was met. `g` is the game so far, `total` the text's length
abbrev pub at_text_end : ℕ → SoFar → GameRead
at_text_end total g =
    record { state = g.state; answer = if g.is_met then Err (record { kind = NoResult; offset = total }) else Ok None }

-- what was read in the end: if the step says that reading goes on, what `later` gives for the game so far; otherwise
-- what the step stopped with
abbrev pub read_rest_with : Step → (SoFar → GameRead) → GameRead
read_rest_with (On g) later = later g
read_rest_with (Stop read) later = read

-- what was read in the end, from the game so far (`g`) and the tokens that are left, each paired with how many bytes
-- are left at it. `limit` is the most half-moves of a game, `draws` says whether fivefold repetition and 75 moves end
-- it, `total` is the text's length
abbrev pub game_of : Bool → ℕ → ℕ → SoFar → List (ℕ × Token) → GameRead
game_of draws limit total g [] = at_text_end total g
game_of draws limit total g (t ∷ ts) =
    read_rest_with (step draws limit total g t.0 t.1) (λ h. game_of draws limit total h ts)

-- what is known before the first token: the game is at the initial position of this variant, and nothing else was met
abbrev pub nothing_read : Variant → SoFar
nothing_read v =
    record { state = from_start (initial_setup_of v); is_met = false; is_begun = false; termination = None }

-- ---- the game

-- what was read from these tokens, each paired with how many bytes are left at it, in the variant that their tags name.
-- `limit` is the most half-moves of a game, `draws` says whether fivefold repetition and 75 moves end it, `total` is
-- the text's length
abbrev pub tokens_read : Bool → ℕ → ℕ → List (ℕ × Token) → GameRead
tokens_read draws limit total tokens =
    game_of draws limit total (nothing_read (tagged_variant (tag_section tokens))) tokens
