-- A game's text as it is written (PGN standard of 1994, sections 3.2, 8 and 9.7).
use Rattle.std.specs.Prelude.{ℕ, not, ◌&&◌, ◌||◌, List, [], ◌∷◌, ◌++◌, length, codes, decimal, ◌==◌}
use Rattle.chess_base.specs.declared.man.Colour.TheVariants.{White, Black}
use Rattle.chess_base.specs.declared.man.Move.{Move}
use Rattle.chess_base.specs.declared.setup.Setup.{Setup}
use Rattle.chess_base.specs.Men.{same_colour}
use Rattle.chess_base.specs.Moves.{after}
use Rattle.chess_base.specs.Options.{list_if}
use Rattle.chess_fen.specs.Writing.{fen, is_initial}
use Rattle.chess_game.specs.Game.{State, outcome_now}
use Rattle.chess_game.specs.Results.{outcome_text}
use Rattle.pgn_writer.specs.declared.tags.Tags.{Tags}
use Rattle.chess_text.specs.San.{is_fischerandom, san}
use Rattle.pgn_writer.specs.Terminations.{termination_text, termination_of}
use Rattle.pgn_writer.specs.Written.{tag_line, ended, lines_of}

-- ---- tags

-- the tag lines of the game `s`; `t` has what `s` doesn't, such as the players. First the seven of each game (section
-- 8.1.1); then, sorted by name: FEN and SetUp (section 9.7), except for normal chess from the initial position;
-- Termination; and, for Chess960, Variant
abbrev pub tag_lines : Tags → State → List (List ℕ)
tag_lines t s = tag_line (codes "Event") t.event ∷ tag_line (codes "Site") t.site ∷ tag_line (codes "Date") t.date
    ∷ tag_line (codes "Round") t.round ∷ tag_line (codes "White") t.white ∷ tag_line (codes "Black") t.black
    ∷ tag_line (codes "Result") (outcome_text (outcome_now s))
    ∷ list_if (is_fischerandom s.start.variant || not (is_initial s.start))
    (tag_line (codes "FEN") (fen s.start) ∷ tag_line (codes "SetUp") (codes "1") ∷ [])
    ++ tag_line (codes "Termination") (termination_text (termination_of t.ended (outcome_now s)))
    ∷ list_if (is_fischerandom s.start.variant) (tag_line (codes "Variant") (codes "fischerandom") ∷ [])

-- ---- the tokens of the moves

-- the tokens of moves from position `p` on (section 8.2): the SAN of each, and before each move of White its number,
-- such as `12.`
abbrev pub move_tokens : Setup → List Move → List (List ℕ)
move_tokens p [] = []
move_tokens p (m ∷ ms) =
    list_if (same_colour p.side White) ((decimal p.fullmove ++ codes ".") ∷ []) ++ san p m ∷ move_tokens (after p m) ms

-- the tokens of a game: its moves with their numbers, and the outcome. A first move by Black has a number too, such as
-- `12...`
abbrev pub game_tokens : State → List (List ℕ)
game_tokens s = list_if (same_colour s.start.side Black && not (length s.moves == 0))
    ((decimal s.start.fullmove ++ codes "...") ∷ [])
    ++ (move_tokens s.start s.moves ++ outcome_text (outcome_now s) ∷ [])

-- ---- the whole text

-- the text of the game `s`: its tags (`t` as in `tag_lines`), an empty line, the moves and the outcome, an empty line;
-- `prefix` before each line, even an empty one (`# ` in a session, nothing in a match)
unfoldable pub pgn : List ℕ → Tags → State → List ℕ
pgn prefix t s = ended prefix (tag_lines t s ++ [] ∷ lines_of (game_tokens s) ++ [] ∷ [])
