-- The text of a rank, put together square by square from any of its squares on.
use Rattle.std.specs.Prelude.{ℕ, zero, suc, ◌+◌, List, [], ◌∷◌, ◌++◌, Option, Some, None}
use Rattle.byte_devices.specs.Bytes.{byte}
use Rattle.chess_base.specs.declared.man.Man.{Man}
use Rattle.chess_base.specs.Letters.{letter}

-- a run of n empty squares as text: the digit n, or nothing for n = 0
abbrev pub run_text : ℕ → List ℕ
run_text zero = []
run_text (suc n) = (byte "0" + suc n) ∷ []

-- the text of the rest of a rank, after `empty` empty squares that are not yet written: with 2 of them before a white
-- pawn it begins "2P"
abbrev pub row_text : ℕ → List (Option Man) → List ℕ
row_text empty [] = run_text empty
row_text empty (None ∷ row) = row_text (suc empty) row
row_text empty (Some man ∷ row) = run_text empty ++ letter man ∷ row_text 0 row
