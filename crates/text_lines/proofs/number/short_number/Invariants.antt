-- The loop's invariant: `number` followed by the digits that are left is the whole number (`rest`); the text is all
-- digits exactly if the bytes left are (`digits`); and `number`, which has `byte-index` digits, is less than 10 to that
-- power (`small`).
use Rattle.std.proofs.Common.{drop, ◌^◌, ◌≡◌, ◌<◌}
use Rattle.std.specs.List.{list_all}
use Rattle.byte_devices.specs.Bytes.{is_digit}
use Rattle.text_lines.proofs.FewDigits.{value_after}
use Rattle.text_lines.proofs.number.short_number.Given as goal

abbrev pub invariant-loop-byte : goal.invariant-loop-byte
invariant-loop-byte l = record {
  rest : value_after l.number (drop l.byte-index l.text) ≡ value_after 0 l.text;
  digits : list_all is_digit (drop l.byte-index l.text) ≡ list_all is_digit l.text;
  small : l.number < 10 ^ l.byte-index;
}
