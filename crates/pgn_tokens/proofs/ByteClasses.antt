-- The table `CLASSES` of bytes.rt agrees with the definitions at each of the 256 bytes, by computing: it has `w` (119)
-- exactly for the bytes of words (word_class), and `p` (112) exactly for white space and dots (passed_class).
use Rattle.std.proofs.Common.{◌≡◌, ℕ, ◌<◌, ◌||◌, nat_eq, eqb, get_or, refl}
use Rattle.byte_devices.proofs.shared.ByteTables.{agree_below, class_by_test}
use Rattle.pgn_tokens.specs.{declared.bytes.TheConstants.CLASSES}
use Rattle.pgn_tokens.specs.{Tokens.is_word_byte, Tokens.is_white_space}

pub word_class : (b : ℕ) → b < 256 → nat_eq (get_or CLASSES b 0) 119 ≡ is_word_byte b
unfolding agree_below
word_class b lt = class_by_test CLASSES 119 (λ k. is_word_byte k) b lt refl

pub passed_class : (b : ℕ) → b < 256 → nat_eq (get_or CLASSES b 0) 112 ≡ (is_white_space b || eqb b 46)
unfolding agree_below
passed_class b lt = class_by_test CLASSES 112 (λ k. is_white_space k || eqb k 46) b lt refl
