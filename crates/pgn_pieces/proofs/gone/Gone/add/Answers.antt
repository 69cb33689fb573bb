-- Of the bytes that are let go the first are kept, and the others are counted (Kept.counts_added).
use Rattle.std.proofs.Common.{◌≡◌, ◌≤◌, ◌+◌, ◌-◌, ◌⊎◌, ◌++◌, length, take, drop, refl, sym, ap, subst, inl, inr, ◌∙◌, arith}
use Rattle.std.proofs.{lemmas.Bool.cases_lt, lemmas.List.take_rest}
use Rattle.pgn_pieces.specs.{Places.line_ends, ties.Held.SameCounts}
use Rattle.pgn_pieces.proofs.Kept.{known, counts_added}
use Rattle.pgn_pieces.proofs.gone.Gone.add.Goals as goal

pub returns : goal.returns
returns c =
    let s = c.self.inside in
    let first = s.beginning.items in
    let bytes = c.args.bytes.now in
    let k = c.min-kept.result in
    let few = c.self.invariant.0 in
    let here = c.min-kept.ensures in
    let len = c.len.ensures.value in
    let within : k ≤ length bytes = omega (arith, here) in
    let room : length first + k ≤ 40 = omega (arith, here, len, few) in
    let all : (k ≡ length bytes) ⊎ (length first + k ≡ 40) = elim (cases_lt (length bytes) (40 - length first)) [
      | inl lt ↦ inl (omega (arith, here, len, lt))
      | inr ge ↦ inr (omega (arith, here, len, ge, few))
    ] in
    let rest = take_rest bytes k in
    let ends : c.line_ends-ends.result ≡ line_ends (drop k bytes) = c.line_ends-ends.ensures.value ∙ ap line_ends rest in
    let text = c.append.ensures.text in
    let new : known c.append.new.buffer.items (s.line_ends + c.line_ends-ends.result)
    (s.plain + (length (take (length bytes - k) (drop k bytes)) - c.line_ends-ends.result))
    ≡ known (first ++ take k bytes) (s.line_ends + line_ends (drop k bytes))
    (s.plain + (length (drop k bytes) - line_ends (drop k bytes))) = rw (text, ends, rest) refl in
    subst (λ xs. SameCounts (xs ++ bytes) (known c.append.new.buffer.items (s.line_ends + c.line_ends-ends.result)
    (s.plain + (length (take (length bytes - k) (drop k bytes)) - c.line_ends-ends.result)))) c.self.view_is
    (subst (SameCounts (known first s.line_ends s.plain ++ bytes)) (sym new)
    (counts_added first bytes s.line_ends s.plain k few c.self.invariant.1 within room all))
