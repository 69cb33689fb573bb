-- At most 60 first bytes of a text, with `?` for each that isn't printable, may be a tag's text (tag_text_is):
-- `shown_byte` gives only printable bytes, so all that are kept are (kept_text of CommentTexts).
use Rattle.std.proofs.Common.{◌≡◌, ℕ, ◌≤◌, List, length, map, take, ap, arith}
use Rattle.std.proofs.{lemmas.Bool.Decides.nat_tests, lemmas.List.length-map, lemmas.List.length-take}
use Rattle.chess_game.specs.Results.{IsTagText}
use Rattle.byte_devices.specs.Bytes.{shown_byte}
use Rattle.chess_game.proofs.CommentTexts.{kept_text}

abbrev IsPrintable : ℕ → Type 0
IsPrintable c = (32 ≤ c) × (c ≤ 126)

shown_byte_is : (c : ℕ) → IsPrintable (shown_byte c)
shown_byte_is c = (grind (arith, nat_tests), grind (arith, nat_tests))

pub tag_text_is : (bytes kept : List ℕ) (n : ℕ) → n ≤ 60 → kept ≡ map shown_byte (take n bytes) → IsTagText kept
tag_text_is bytes kept n few is =
    record {
      few = omega (arith, ap length is, length-map (take n bytes) shown_byte, length-take n bytes);
      printable = rw is (kept_text IsPrintable shown_byte shown_byte_is (take n bytes));
    }
