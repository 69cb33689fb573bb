-- The loop's invariant: the right that the remaining letters give, after what was found so far, is that of all letters.
use Rattle.std.proofs.Common.{◌≡◌, drop, None}
use Rattle.chess_fen.specs.ties.Reader.{right_after_letters}
use Rattle.chess_fen.proofs.castling_rights.right_of_letters.Given as goal

abbrev pub invariant-loop-letter : goal.invariant-loop-letter
invariant-loop-letter l = right_after_letters l.men l.colour l.castling_side l.found (drop l.letter-index l.letters)
    ≡ right_after_letters l.men l.colour l.castling_side None l.letters
