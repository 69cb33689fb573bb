-- What is kept are the first 40 bytes, or all of them (Kept.first_kept).
use Rattle.std.proofs.Common.{sym, ap, ◌∙◌, take}
use Rattle.pgn_pieces.proofs.Kept.{first_kept}
use Rattle.pgn_pieces.proofs.gone.Gone.beginning.Goals as goal

pub returns : goal.returns
returns c =
    let s = c.self.inside in
    c.as_slice.ensures.value ∙ sym (first_kept s.beginning.items s.line_ends s.plain c.self.invariant.0 c.self.invariant.1)
    ∙ ap (take 40) c.self.view_is
