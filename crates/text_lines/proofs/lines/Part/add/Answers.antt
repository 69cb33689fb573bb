-- If not all bytes fit, the part keeps those that do and drops the others. The line is too long then, whatever was
-- dropped, and the lines are the same (LineParts.overflow_same).
use Rattle.std.proofs.Common.{arith, ◌≡◌, ◌++◌, ◌∷◌, ◌-◌, ◌<◌, [], length, take, List, ℕ, ap, sym, subst, ◌∙◌}
use Rattle.text_lines.specs.ties.Kept.{kept_part, SameLines}
use Rattle.text_lines.proofs.LineParts.{overflow_same}
use Rattle.text_lines.proofs.lines.Part.add.Goals as goal

pub returns-then-bytes-room : goal.returns-then-bytes-room
returns-then-bytes-room g c =
    let n = g.row.N in
    let items = c.self.inside.bytes.items in
    let room : n - c.len-room.result ≡ n - length items = ap (λ k. n - k) c.len-room.ensures.value in
    let kept : items ++ take (n - length items) c.args.bytes.now ≡ c.append.new.buffer.items =
    ap (λ k. items ++ take k c.args.bytes.now) (sym room) ∙ sym c.append.ensures.text in
    let over : n - length items < length c.args.bytes.now = omega (arith, room, c.if-bytes-room.true) in
    let P : List ℕ → Type 0 = λ v. SameLines n (v ++ c.args.bytes.now) (c.append.new.buffer.items ++ 0 ∷ []) in
    let came : List ℕ = kept_part items c.self.inside.is_too_long ++ c.args.bytes.now in
    let Q : List ℕ → Type 0 = λ v. SameLines n came (v ++ 0 ∷ []) in
    subst P c.self.view_is
    (subst Q kept
    (overflow_same n items c.self.inside.is_too_long c.args.bytes.now c.self.invariant.0 c.self.invariant.1 over))
