-- The position after the move is sound (IsSound-after of chess_base), as the clause `sound` says, and the sets are
-- those of its pieces (by the contract of `make_move`): so the board keeps its invariant.
use Rattle.std.proofs.Common.{◌≡◌, true}
use Rattle.chess_base.specs.Moves.{is_legal}
use Rattle.chess_base.proofs.shared.LegalMoves.{IsSound-after}
use Rattle.chess_bits.proofs.bits.BitsBoard.make.Goals as goal

pub invariant_of-self : goal.invariant_of-self
invariant_of-self c =
    let legal : is_legal c.self.inside.setup c.args.m ≡ true = rw c.self.view_is c.requires in (
      rw c.make_move.ensures.setup (IsSound-after c.self.inside.setup c.args.m c.self.invariant.0 legal),
      c.make_move.ensures.sets c.self.invariant.1,
    )

pub returns-clause-sound : goal.returns-clause-sound
returns-clause-sound c =
    let legal : is_legal c.self.inside.setup c.args.m ≡ true = rw c.self.view_is c.requires in
    rw c.make_move.ensures.setup (IsSound-after c.self.inside.setup c.args.m c.self.invariant.0 legal)
