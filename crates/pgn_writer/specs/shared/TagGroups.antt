-- The lines of a game's tags, in the groups in which they are written.
use Rattle.std.specs.Prelude.{ℕ, not, ◌||◌, List, [], ◌∷◌, ◌++◌, codes}
use Rattle.chess_base.specs.declared.man.Variant.{Variant}
use Rattle.chess_base.specs.declared.setup.Setup.{Setup}
use Rattle.chess_base.specs.Options.{list_if}
use Rattle.chess_fen.specs.Writing.{fen, is_initial}
use Rattle.chess_game.specs.Results.{outcome_text}
use Rattle.chess_game.specs.declared.results.Outcome.{Outcome}
use Rattle.pgn_writer.specs.declared.tags.Tags.{Tags}
use Rattle.pgn_writer.specs.declared.termination.Termination.{Termination}
use Rattle.pgn_writer.specs.Terminations.{termination_text}
use Rattle.pgn_writer.specs.Written.{tag_line}
use Rattle.chess_text.specs.San.{is_fischerandom}

-- the lines of the seven tags that each game has: six texts of `t`, and the outcome `o`
abbrev pub roster_lines : Tags → Outcome → List (List ℕ)
roster_lines t o =
    tag_line (codes "Event") t.event ∷ tag_line (codes "Site") t.site ∷ tag_line (codes "Date") t.date
    ∷ tag_line (codes "Round") t.round ∷ tag_line (codes "White") t.white ∷ tag_line (codes "Black") t.black
    ∷ tag_line (codes "Result") (outcome_text o) ∷ []

-- the lines of the tags FEN and SetUp for a game from this start
abbrev pub fen_lines : Setup → List (List ℕ)
fen_lines start = tag_line (codes "FEN") (fen start) ∷ tag_line (codes "SetUp") (codes "1") ∷ []

-- the lines of the tags FEN and SetUp for a game of variant `v` from this start: none for normal chess from the initial
-- position
abbrev pub start_lines_in : Variant → Setup → List (List ℕ)
start_lines_in v start = list_if (is_fischerandom v || not (is_initial start)) (fen_lines start)

-- the line of the tag Termination, and for Chess960 that of Variant
abbrev pub last_lines : Variant → Termination → List (List ℕ)
last_lines v termination =
    tag_line (codes "Termination") (termination_text termination)
    ∷ list_if (is_fischerandom v) (tag_line (codes "Variant") (codes "fischerandom") ∷ [])

-- the lines of the tags after the seven that each game has, for a game from this start that ended so
abbrev pub further_lines : Setup → Termination → List (List ℕ)
further_lines start termination = start_lines_in start.variant start ++ last_lines start.variant termination
