-- For `is_king_attacked`: where a colour has one king, it is in check exactly if the king's square is attacked, as no
-- other square has a king of this colour (check_at_king); a colour without a king is not in check
-- (no_check_without_king). For `nearest_king`: if no square counted from a colour's side has its king, none of the
-- board has (none_from_side).
use Rattle.std.proofs.Common.{◌≡◌, ℕ, ◌<◌, ◌-◌, length, true, false, ◌&&◌, sym, ap, ◌∙◌, arith}
use Rattle.chess_base.specs.{declared.man.Colour.Colour, declared.man.Colour.TheVariants.White, declared.man.Colour.TheVariants.Black, declared.man.Kind.TheVariants.King, Attacks.is_attacked, Attacks.is_in_check, Sound.has_one_king, ties.Lines.square_from_side}
use Rattle.chess_base.specs.Men.{Men, man_at, is_man, other}
use Rattle.chess_base.proofs.{shared.Squares.some_square-none, shared.Squares.one_decides, shared.Kings.one_king}

-- a colour with its one king on s is in check exactly if s is attacked
pub check_at_king : (men : Men) (c : Colour) (s : ℕ) → s < 64 → length men ≡ 64 → has_one_king men c ≡ true
    → is_man c King (man_at men s) ≡ true → is_attacked men s (other c) ≡ is_in_check men c
unfolding is_in_check
check_at_king men c s low all one there =
    one_decides (λ k. is_man c King (man_at men k)) (λ k. is_attacked men k (other c)) s low there
    (λ k _ e fails. ap (λ t. is_attacked men t (other c)) (one_king men c k s all one e there) ∙ fails)

-- a colour without a king is not in check
pub no_check_without_king : (men : Men) (c : Colour)
    → ((k : ℕ) → k < 64 → is_man c King (man_at men k) ≡ false) → false ≡ is_in_check men c
unfolding is_in_check
no_check_without_king men c none =
    sym (some_square-none (λ k. is_man c King (man_at men k) && is_attacked men k (other c))
    (λ k low. ap (λ v. v && is_attacked men k (other c)) (none k low)))

from_h8 : (k : ℕ) → k < 64 → 63 - (63 - k) ≡ k
from_h8 k low = omega arith

-- a search from either side of the board looks at each square
pub none_from_side : (men : Men) (c : Colour)
    → ((k : ℕ) → k < 64 → is_man c King (man_at men (square_from_side c k)) ≡ false)
    → (k : ℕ) → k < 64 → is_man c King (man_at men k) ≡ false
none_from_side men White h k low = h k low
none_from_side men Black h k low = rw (from_h8 k low) at (h (63 - k) (omega arith))
