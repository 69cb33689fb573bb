-- The square one rank back from the end of an en passant capture is on the board, as `one_rank_back` requires, since
-- the position is sound (en_passant_in_board of StaysSound).
use Rattle.std.proofs.Common.{arith, ◌≡◌, true}
use Rattle.chess_base.proofs.StaysSound.{en_passant_in_board}
use Rattle.chess_base.specs.Moves.{is_en_passant}
use Rattle.chess_base.proofs.before.captured_square.Goals as goal

pub one_rank_back-requires : goal.one_rank_back-requires
one_rank_back-requires c =
    let passed : is_en_passant c.args.setup.now c.args.m.now ≡ true = grind arith in
    en_passant_in_board c.args.setup.now c.args.m.now c.requires passed
