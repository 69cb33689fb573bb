-- The move was made in some sound position p. `before` gives back just p, as the clause `back` says, so what it gives
-- is sound (both lemmas are in Made of chess_moves); and the sets are those of its pieces (by the contract of
-- `move_back`): so the board keeps its invariant.
use Rattle.chess_moves.proofs.shared.Made.{IsMade-sound, WasMade-back}
use Rattle.chess_bits.proofs.bits.BitsBoard.take_back.Goals as goal

pub invariant_of-self : goal.invariant_of-self
invariant_of-self c = (
  rw (c.move_back.ensures.setup, c.self.view_is) (IsMade-sound c.args.self.now c.args.m c.args.saved c.requires),
  c.move_back.ensures.sets c.self.invariant.1,
)

pub returns-clause-back : goal.returns-clause-back
returns-clause-back c = λ p made. rw (c.move_back.ensures.setup, c.self.view_is)
    (WasMade-back p c.args.m c.args.saved c.args.self.now made)

pub returns-clause-sound : goal.returns-clause-sound
returns-clause-sound c =
    rw (c.move_back.ensures.setup, c.self.view_is) (IsMade-sound c.args.self.now c.args.m c.args.saved c.requires)
