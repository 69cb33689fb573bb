-- A game's PGN for normal chess only: each definition is that of the same name without `normal_`, but none takes a
-- variant, and no tag names one.
use Rattle.std.specs.Prelude.{ℕ, Bool, not, ◌&&◌, List, [], ◌∷◌, ◌++◌, length, codes, decimal, ◌==◌}
use Rattle.std.specs.Str.{bytes_eq}
use Rattle.chess_base.specs.declared.man.Colour.TheVariants.{White, Black}
use Rattle.chess_base.specs.declared.man.Move.{Move}
use Rattle.chess_base.specs.declared.setup.Setup.{Setup}
use Rattle.chess_base.specs.Men.{same_colour}
use Rattle.chess_base.specs.Options.{list_if}
use Rattle.chess_base_laws.specs.Normal.{normal_after}
use Rattle.chess_fen_laws.specs.Normal.{normal_fen}
use Rattle.chess_text_laws.specs.Normal.{normal_san}
use Rattle.chess_game.specs.Game.{State}
use Rattle.chess_game.specs.Results.{outcome_text}
use Rattle.pgn_writer.specs.declared.tags.Tags.{Tags}
use Rattle.pgn_writer.specs.Terminations.{termination_text, termination_of}
use Rattle.pgn_writer.specs.Written.{tag_line, ended, lines_of}
use Rattle.chess_cecp_laws.specs.NormalGame.{normal_initial, normal_outcome_now}

-- whether `start` is the initial position
abbrev pub normal_is_initial : Setup → Bool
normal_is_initial start = bytes_eq (normal_fen start) (normal_fen normal_initial)

-- the lines of the tags of the game `s`, of which `t` gives the names, date and so on
abbrev pub normal_tag_lines : Tags → State → List (List ℕ)
normal_tag_lines t s =
    tag_line (codes "Event") t.event ∷ tag_line (codes "Site") t.site ∷ tag_line (codes "Date") t.date
    ∷ tag_line (codes "Round") t.round ∷ tag_line (codes "White") t.white ∷ tag_line (codes "Black") t.black
    ∷ tag_line (codes "Result") (outcome_text (normal_outcome_now s))
    ∷ list_if (not (normal_is_initial s.start))
    (tag_line (codes "FEN") (normal_fen s.start) ∷ tag_line (codes "SetUp") (codes "1") ∷ [])
    ++ tag_line (codes "Termination") (termination_text (termination_of t.ended (normal_outcome_now s))) ∷ []

-- the tokens of moves made one after another from the position `p` on: in SAN, each of White's after its number
abbrev pub normal_move_tokens : Setup → List Move → List (List ℕ)
normal_move_tokens p [] = []
normal_move_tokens p (m ∷ ms) =
    list_if (same_colour p.side White) ((decimal p.fullmove ++ codes ".") ∷ [])
    ++ normal_san p m ∷ normal_move_tokens (normal_after p m) ms

-- the tokens of a game: its moves with their numbers, and the outcome last
abbrev pub normal_game_tokens : State → List (List ℕ)
normal_game_tokens s =
    list_if (same_colour s.start.side Black && not (length s.moves == 0))
    ((decimal s.start.fullmove ++ codes "...") ∷ [])
    ++ (normal_move_tokens s.start s.moves ++ outcome_text (normal_outcome_now s) ∷ [])

-- a game's text: tags, an empty line, the moves, an empty line; each line after `prefix`
unfoldable pub normal_pgn : List ℕ → Tags → State → List ℕ
normal_pgn prefix t s =
    ended prefix (normal_tag_lines t s ++ [] ∷ lines_of (normal_game_tokens s) ++ [] ∷ [])
