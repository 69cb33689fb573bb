-- The position p before a move that was made (`WasMade`, `IsMade`): `before` gives back just p (WasMade-back), which is
-- sound (IsMade-sound), and a pawn that the move took en passant was on the board (captured_in_board). All three follow
-- from `before-after` and `at_target` of chess_base, since p was sound and the move legal. For boards.
use Rattle.std.proofs.Common.{◌≡◌, ◌<◌, IsTrue}
use Rattle.chess_base.specs.{declared.man.Move.Move, declared.setup.Setup.Setup, declared.setup.Saved.Saved, Squares.is_at, Men.forward, Sound.IsSound, Moves.after, Before.saved_of, Before.before}
use Rattle.chess_base.proofs.{shared.Changes.at_target, shared.Men.in_board, shared.LegalMoves.before-after}
use Rattle.chess_moves.specs.Made.{WasMade, IsMade}

-- if move m of position p was made, `before` gives p back
pub WasMade-back : (p : Setup) (m : Move) (s : Saved) (q : Setup) → WasMade p m s q → before q m s ≡ p
WasMade-back p m s q h = rw (h.left, h.saved) (before-after p m h.sound h.legal)

-- what `before` gives for a move that was made is a sound position
pub IsMade-sound : (q : Setup) (m : Move) (s : Saved) → IsMade q m s → IsSound (before q m s)
IsMade-sound q m s h = rw (WasMade-back h.0 m s q h.1) h.1.sound

-- if a move that was made ended on the en passant target, the square where the captured pawn was is on the board
pub captured_in_board : (q : Setup) (m : Move) (s : Saved) → IsMade q m s → IsTrue (is_at s.target m.to)
    → forward q.side m.to < 64
unfolding saved_of after
captured_in_board q m s h at =
    let p = h.0 in
    let at' = rw h.1.saved at at in
    let there = at_target p m.to h.1.sound.target at' in
    rw h.1.left (in_board _ _ _ _ h.1.sound.board there.2)
