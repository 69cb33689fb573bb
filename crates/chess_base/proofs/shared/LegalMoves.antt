-- For boards and lists of moves, passed on: each pseudo-legal move of a sound position makes a `Change` (change_of),
-- after which a colour that had one king still has one (one_king_after). A legal move of a sound position leaves a
-- sound position (IsSound-after), and taking it back gives the position before (before-after).
pub use Rattle.chess_base.proofs.CastlingChange.{change_of}
pub use Rattle.chess_base.proofs.CountsAfter.{one_king_after}
pub use Rattle.chess_base.proofs.StaysSound.{IsSound-after}
pub use Rattle.chess_base.proofs.TakesBack.{before-after}
