-- The piece is too long: by the test, or, if bytes of it were let go before, by the invariant. So its bytes may be
-- replaced by others with the same counts (Views.let_gone).
use Rattle.std.proofs.Common.{◌<◌, ◌+◌, length, subst, arith}
use Rattle.std.proofs.lemmas.Bool.Decides.{nat_tests}
use Rattle.pgn_pieces.specs.{Stream.State, ties.Held.LetGo}
use Rattle.pgn_pieces.proofs.Views.{viewed, let_gone}
use Rattle.pgn_pieces.proofs.pieces.PgnPieces.let_go.Goals as goal
use Rattle.pgn_pieces.proofs.pieces.PgnPieces.let_go.Goals.{then-not-is_empty-via-then-not-is_empty, then-not-is_empty-via-else-not-is_empty+then-self-gt-PIECE_LEN}

pub returns-then-not-is_empty : goal.returns-then-not-is_empty
returns-then-not-is_empty c =
    let s = c.self.inside in
    let long = c.self.invariant.4 in
    let test = c.is_empty.ensures in
    let many : 16777216 < length s.gone + s.len = elim c.then-not-is_empty.branch [
      | then-not-is_empty-via-then-not-is_empty w ↦ (let not = w.if-not-is_empty.true in
          let some : 0 < length s.gone = grind (arith, nat_tests, test, not) in
          let l = long some in omega (arith, l))
      | then-not-is_empty-via-else-not-is_empty+then-self-gt-PIECE_LEN w ↦ (let l = w.if-self-gt-PIECE_LEN.true in omega (arith, l))
    ] in
    subst (λ (t : State). LetGo t (viewed s.held.items (s.at + s.len) 0 c.add.new.self s.offset s.ended)) c.self.view_is
    (let_gone s.held.items c.deref.result.now s.at s.len s.gone c.add.new.self s.offset s.ended c.deref.ensures.value
    c.self.invariant.3 many c.add.ensures)
