-- All bytes that are held after the piece are added to it (Views.passed_on).
use Rattle.std.proofs.Common.{◌≡◌, ◌+◌, ◌-◌, length, drop, ap, ◌∙◌, length-drop, arith}
use Rattle.pgn_pieces.specs.{Stream.State, ties.Held.passed}
use Rattle.pgn_pieces.proofs.Views.{viewed, passed_on}
use Rattle.pgn_pieces.proofs.pieces.PgnPieces.take_rest.Goals as goal

pub returns-clause-state : goal.returns-clause-state
returns-clause-state c =
    let s = c.self.inside in
    let within = c.self.invariant.3 in
    let rest = length-drop (s.at + s.len) s.held.items in
    let n = length (drop (s.at + s.len) s.held.items) in
    let all : c.len.result - s.at ≡ s.len + n = omega (arith, rest, within) in
    ap (λ k. viewed s.held.items s.at k s.gone s.offset s.ended) all
    ∙ passed_on s.held.items s.at s.len n s.gone s.offset s.ended
    ∙ ap (λ (t : State). passed (length t.coming) t) c.self.view_is
