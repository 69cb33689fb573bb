-- The loop's invariant: reading the rest of the text below the ranks so far gives the board of the whole text, and the
-- ranks to come are still empty (`Placing` of proofs/Placing).
use Rattle.chess_fen.proofs.Placing.{Placing}
use Rattle.chess_fen.proofs.placement.read_placement.Given as goal

abbrev pub invariant-loop-rank : goal.invariant-loop-rank
invariant-loop-rank l = Placing l.text l.men l.rest l.rank
