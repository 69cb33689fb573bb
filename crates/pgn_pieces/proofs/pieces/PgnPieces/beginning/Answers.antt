-- If nothing of the piece was let go, its first 40 bytes are those of the bytes held (Kept.first_held). Otherwise more
-- than 40 were let go, and the first 40 of these are kept.
use Rattle.std.proofs.Common.{◌≡◌, ◌<◌, ◌++◌, [], length, take, drop, sym, ap, ◌∙◌, arith}
use Rattle.std.proofs.{lemmas.Bool.Decides.nat_tests, lemmas.List.take-append-le, lemmas.List.nil_from_length}
use Rattle.pgn_pieces.specs.Stream.{State}
use Rattle.pgn_pieces.proofs.Kept.{first_held}
use Rattle.pgn_pieces.proofs.pieces.PgnPieces.beginning.Goals as goal

pub returns-then-is_empty : goal.returns-then-is_empty
returns-then-is_empty c =
    let s = c.self.inside in
    let test = c.is_empty.ensures in
    let is = c.if-is_empty.true in
    let none : s.gone ≡ [] = nil_from_length s.gone (grind (arith, nat_tests, test, is)) in
    first_held s.held.items c.deref.result.now s.at s.len c.min-len.result c.deref.ensures.value c.min-len.ensures
    ∙ ap (λ xs. take 40 (xs ++ take s.len (drop s.at s.held.items))) (sym none)
    ∙ ap (λ (t : State). take 40 t.part) c.self.view_is

pub returns : goal.returns
returns c =
    let s = c.self.inside in
    let test = c.is_empty.ensures in
    let not = c.if-is_empty.false in
    let long = c.self.invariant.4 in
    let some : 0 < length s.gone = grind (arith, nat_tests, test, not) in
    let many = long some in
    c.beginning.ensures ∙ sym (take-append-le 40 s.gone (take s.len (drop s.at s.held.items)) (omega (arith, many)))
    ∙ ap (λ (t : State). take 40 t.part) c.self.view_is
