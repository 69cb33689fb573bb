-- The bytes of two lists of lines, one after the other, are those of each: by induction over the first list.
use Rattle.std.proofs.Common.{◌≡◌, List, [], ◌∷◌, ◌++◌, refl, sym, append_assoc}
use Rattle.chess_match.specs.Lines.{SentLine, bytes_of, text_of}

-- the bytes of lines and of others after them
pub bytes_of-append : (a b : List SentLine) → bytes_of (a ++ b) ≡ bytes_of a ++ bytes_of b
unfolding bytes_of
bytes_of-append [] b = refl
bytes_of-append (l ∷ ls) b = rw (bytes_of-append ls b) (sym (append_assoc (text_of l) (10 ∷ bytes_of ls) (bytes_of b)))
