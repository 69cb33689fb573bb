-- The table NAMES marks just the bytes of names: it is compared with the definition at each of the 256 bytes, by
-- computing.
use Rattle.std.proofs.Common.{◌≡◌, ℕ, ◌<◌, nat_eq, get_or, refl}
use Rattle.byte_devices.specs.{declared.bytes.TheConstants.NAMES, Bytes.is_name_byte}
use Rattle.byte_devices.proofs.shared.ByteTables.{agree_below, class_by_test}

pub name_class : (b : ℕ) → b < 256 → nat_eq (get_or NAMES b 0) 110 ≡ is_name_byte b
unfolding agree_below
name_class b lt = class_by_test NAMES 110 (λ k. is_name_byte k) b lt refl
