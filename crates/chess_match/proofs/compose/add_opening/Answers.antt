-- The bytes put are those of the definition's `opening`, by whether the side's clock has counted moves: it counts those
-- of the match (CoreSteps.clocks_moves). If it has, `add_later_opening` puts them. If not, this is the side's first
-- opening, whose three parts are joined: the last move, the clocks and `go`.
use Rattle.std.proofs.Common.{◌≡◌, ◌++◌, ◌∷◌, [], append_assoc, true, false, length, arith, lt-ltb, le-ltb, nat_lt, codes}
use Rattle.chess_match.specs.{Lines.Says, ties.Delivering.clocks, ties.Delivering.last_move}
use Rattle.chess_match.proofs.{CoreSteps.clocks_moves, shared.Lines.bytes_of-append, Sends.go_line}
use Rattle.chess_match.proofs.compose.add_opening.Goals as goal

pub returns-then-moves-gt0-clause-text : goal.returns-then-moves-gt0-clause-text
returns-then-moves-gt0-clause-text c r played m s =
    let k = clocks_moves r _ played m s c.args.side in
    let moved : nat_lt 0 (length (m.seat c.args.side).used) ≡ true =
    lt-ltb 0 _ (omega (arith, c.moves.ensures.value, k, c.if-moves-gt0.true)) in
    rw moved (c.add_later_opening.ensures.text r played m s)

pub returns-else-moves-gt0-clause-text : goal.returns-else-moves-gt0-clause-text
returns-else-moves-gt0-clause-text c r played m s =
    let k = clocks_moves r _ played m s c.args.side in
    let unmoved : nat_lt 0 (length (m.seat c.args.side).used) ≡ false =
    le-ltb 0 _ (omega (arith, c.moves.ensures.value, k, c.if-moves-gt0.false)) in
    rw (
      unmoved,
      bytes_of-append (last_move r m c.args.side) (clocks r m c.args.side ++ Says (codes "go") ∷ []),
      bytes_of-append (clocks r m c.args.side) (Says (codes "go") ∷ []),
      go_line,
      c.append.ensures.text,
      c.add_clocks.ensures.text r played m s,
      c.add_last.ensures.text r played m s,
    ) (simp append_assoc)
