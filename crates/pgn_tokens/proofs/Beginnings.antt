-- Where reading from an offset of a text begins: at the offset itself, or after a byte order mark (EF BB BF) at offset
-- 0. This is not before the offset and in the text (not_before), and from the text's end on there is no token
-- (none_from_end).
use Rattle.std.proofs.Common.{◌≡◌, ℕ, ◌≤◌, true, eqb, List, [], ◌∷◌, length, take, ap, arith, ◌&&◌, bytes_eq, length-drop, length-take}
use Rattle.std.proofs.{lemmas.Bool.and_parts, lemmas.Bool.Decides.nat_tests, lemmas.Slice.Eq.bytes_eq-Decides}
use Rattle.byte_devices.specs.Bytes.{after_byte_order_mark}
use Rattle.pgn_tokens.specs.Tokens.{tokens_from}
use Rattle.pgn_tokens.proofs.{ByteRuns.pick, Walk.no_token}

pub not_before : (text : List ℕ) (at : ℕ) → at ≤ length text → (at ≤ after_byte_order_mark text at)
    × (after_byte_order_mark text at ≤ length text)
not_before text at h = pick (λ (n : ℕ). (at ≤ n) × (n ≤ length text))
    (eqb at 0 && bytes_eq (take 3 text) (239 ∷ 187 ∷ 191 ∷ [])) _ _ (λ e. mark (and_parts (eqb at 0) _ e))
    (λ _. (omega arith, h))
  where
    mark : (eqb at 0 ≡ true) × (bytes_eq (take 3 text) (239 ∷ 187 ∷ 191 ∷ []) ≡ true) → (at ≤ 3) × (3 ≤ length text)
    mark (first, is) =
        let none : at ≡ 0 = grind (arith, nat_tests, first) in
        let same : length (take 3 text) ≡ 3 =
        ap length ((bytes_eq-Decides (take 3 text) (239 ∷ 187 ∷ 191 ∷ [])).0 is) in
        let few = length-take 3 text in
        (omega (arith, none), omega (arith, same, few))

-- from a text's end on there is no token
pub none_from_end : (text : List ℕ) → tokens_from text (after_byte_order_mark text (length text)) ≡ []
none_from_end text =
    let marked = not_before text (length text) (omega arith) in
    let left = length-drop (after_byte_order_mark text (length text)) text in
    no_token text (after_byte_order_mark text (length text)) (omega (arith, marked.0, left))
