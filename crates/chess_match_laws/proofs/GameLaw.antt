-- The moves of a match are legal, each in the position to which those before it lead: they were read from texts
-- (ReadLaw), and a move that is read is legal, by a law of chess_text. Induction over the moves (`line_from`).
use Rattle.std.proofs.Common.{ℕ, List, [], ◌∷◌, ◌++◌, subst}
use Rattle.chess_base.specs.{Men.other, declared.man.Colour.Colour, declared.man.Move.Move, declared.setup.Setup.Setup}
use Rattle.chess_game.specs.Line.{IsLine, position_after}
use Rattle.chess_text.specs.laws.Laws.{ReadMovesAreLegal}
use Rattle.cecp_engine.specs.Levels.{LevelSeen}
use Rattle.chess_match.specs.{declared.draws.Draws.Draws, Rules.Rules, Rules.rules_of, declared.patience.Patience.Patience, laws.Laws.lines_read}
use Rattle.chess_match_laws.specs.{Streams.AreRead, Streams.moves_of, OfActs.GamesAreLines, OfActs.MovesAreRead}
use Rattle.chess_match_laws.proofs.{Points.in_each, ReadLaw.moves_are_read}
use Rattle.chess_game.proofs.shared.Lines.{position_after-snoc}

-- the moves `ms`, which texts denote in turn after the moves `before`, are legal one after the other
line_from : ReadMovesAreLegal → (start : Setup) (level : Colour → LevelSeen) (patience : Patience) (draws : Draws) (limit : ℕ)
    (before ms : List Move) (mine theirs : List (List ℕ))
    → AreRead (rules_of start level patience draws limit) before ms mine theirs
    → IsLine (position_after start before) ms
line_from legal start level patience draws limit before [] mine theirs h = tt
line_from legal start level patience draws limit before (m ∷ ms) mine theirs (text, rest, e, denoted, more) = (
  legal (position_after start before) text m denoted,
  subst (λ (p : Setup). IsLine p ms) (position_after-snoc start before m)
      (line_from legal start level patience draws limit (before ++ m ∷ []) ms theirs rest more),
)

pub games_are_lines : ReadMovesAreLegal → GamesAreLines
games_are_lines legal start level patience draws limit H final is_match =
    let r : Rules = rules_of start level patience draws limit in
    line_from legal start level patience draws limit [] final.played (moves_of (lines_read r.start.side H))
    (moves_of (lines_read (other r.start.side) H)) (in_each MovesAreRead moves_are_read r H final is_match)
