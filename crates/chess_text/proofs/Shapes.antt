-- The result of reading a text shows whether the text has a move's shape: it has none exactly if the result is
-- `NotAMove` (read_shape), since any list of legal moves, also the empty one, is read as another result.
use Rattle.std.proofs.Common.{◌≡◌, ℕ, Bool, true, false, List, [], ◌∷◌, refl, if◌then◌else◌, filter}
use Rattle.chess_base.specs.{declared.man.Move.Move, declared.setup.Setup.Setup, MoveList.moves}
use Rattle.chess_text.specs.Moves.{one_of, reading, has_shape, shape, denotes}
use Rattle.chess_text.specs.declared.reading.Reading.TheVariants as reads

one_has_shape : (ms : List Move) → has_shape (one_of ms) ≡ true
one_has_shape [] = refl
one_has_shape (m ∷ []) = refl
one_has_shape (m ∷ n ∷ ms) = refl

by_shape : (b : Bool) (ms : List Move) → has_shape (if b then one_of ms else reads.NotAMove) ≡ b
by_shape true ms = one_has_shape ms
by_shape false ms = refl

pub read_shape : (p : Setup) (text : List ℕ) → has_shape (reading p text) ≡ shape text
unfolding reading
read_shape p text = by_shape (shape text) (filter (λ m. denotes p text m) (moves p))
