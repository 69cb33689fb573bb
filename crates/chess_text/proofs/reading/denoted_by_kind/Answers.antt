-- What `denoted_among` reads from the starts (`legal_starts`: where a piece of this kind has a legal move to the end
-- square) is what is read of all legal moves that the parts denote (by_starts of MovesFromStarts).
use Rattle.std.proofs.Common.{ap, ◌∙◌, flat_map}
use Rattle.chess_moves.specs.Sets.{members}
use Rattle.chess_text.specs.{Moves.one_of, ties.Forms.denoted_start}
use Rattle.chess_text.proofs.MovesFromStarts.{by_starts}
use Rattle.chess_text.proofs.reading.denoted_by_kind.Goals as goal

pub returns : goal.returns
returns g c =
    by_starts (g.B.Board.position c.args.board.now) c.args.parts.now c.args.kind c.legal_starts.result
    c.denoted_among.result c.requires c.legal_starts.ensures
    (c.denoted_among.ensures
    ∙ ap (λ s. one_of (flat_map (denoted_start c.args.parts.now s c.args.kind) (members c.legal_starts.result)))
    c.setup.ensures.value)
