-- What `Seen::find_end` found in the bytes held after the piece holds of the bytes that are coming, as these are the
-- same (Views.slice_is); and the bytes that it counts are added to the piece (Views.passed_on).
use Rattle.std.proofs.Common.{◌+◌, ap, subst, ◌∙◌}
use Rattle.pgn_pieces.specs.{Stream.State, ties.Held.Looks, ties.Held.passed}
use Rattle.pgn_pieces.proofs.Views.{passed_on, slice_is}
use Rattle.pgn_pieces.proofs.pieces.PgnPieces.find_end.Goals as goal

pub returns : goal.returns
returns c =
    let s = c.self.inside in
    let n = c.find_end-is_found.result.1 in
    let is = slice_is c.deref.result.now s.held.items (s.at + s.len) c.deref.ensures.value in (
      n,
      passed_on s.held.items s.at s.len n s.gone s.offset s.ended ∙ ap (passed n) c.self.view_is,
      subst (λ xs. Looks c.args.seen.now c.find_end-is_found.new.self xs c.find_end-is_found.result.0 n)
          (is ∙ ap (λ (t : State). t.coming) c.self.view_is) c.find_end-is_found.ensures,
    )
