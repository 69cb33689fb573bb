-- The loop's invariant: the entry of the list that is being read goes from `from` to `at`, and none before it is the
-- word; so whether the text has the word is what has_word_after says of this entry and the bytes from `at` on. The
-- measure: how many these are.
use Rattle.std.proofs.Common.{length, drop, take, ◌-◌, ◌≡◌, ◌≤◌, bytes_eq}
use Rattle.std.specs.List.{list_any, slice_split}
use Rattle.cecp_engine.proofs.Pieces.{is_comma_or_blank, has_word_after}
use Rattle.cecp_engine.proofs.item.has_word.Given as goal

abbrev pub invariant-loop-at : goal.invariant-loop-at
invariant-loop-at l = record {
  pieces : list_any (λ piece. bytes_eq piece l.word) (slice_split is_comma_or_blank l.text)
      ≡ has_word_after l.word (take (l.at - l.from) (drop l.from l.text))
      (drop l.at l.text);
  in_order : l.from ≤ l.at;
  in_range : l.at ≤ length l.text;
}

abbrev pub decreases-loop-at : goal.decreases-loop-at
decreases-loop-at l = length l.text - l.at
