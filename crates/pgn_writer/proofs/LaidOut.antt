-- A text that is laid out as a game's (`IsPgn`: the tags' lines, and the moves in lines as full as they can be) is the
-- text `pgn`, since full lines with these tokens are the only ones (only_lines of FilledLines).
use Rattle.std.proofs.Common.{◌≡◌, ℕ, List, [], ◌∷◌, ◌++◌, ap, ◌∙◌}
use Rattle.chess_game.specs.Game.{State}
use Rattle.pgn_writer.specs.{declared.tags.Tags.Tags, GameText.tag_lines, GameText.pgn, Written.ended, Written.lines_of, PgnText.IsPgn}
use Rattle.pgn_writer.proofs.FilledLines.{only_lines}

pub only_written : (prefix : List ℕ) (t : Tags) (s : State) (text : List ℕ) → IsPgn prefix t s text
    → text ≡ pgn prefix t s
unfolding pgn
only_written prefix t s text h =
    h.is ∙ ap (λ xs. ended prefix (tag_lines t s ++ [] ∷ xs ++ [] ∷ [])) (only_lines h.lines h.full ∙ ap lines_of h.all)
