-- For `held_line`, which looks for a `\n` (byte 10) among the bytes not yet looked at. If there is none, all of them go
-- to the line that has begun, and no line is found (none_held). Otherwise those before it do, this line is found, and
-- the bytes after it stay to be looked at (line_held). Both by induction over these bytes. Also: parts with the same
-- lines make the same line (same_line); a window that begins later lacks its first bytes (window_left).
use Rattle.std.proofs.Common.{◌≡◌, ◌≢◌, ◌≤◌, ◌<◌, ℕ, ◌+◌, ◌-◌, eqb, Bool, true, false, List, [], ◌∷◌, ◌++◌, length, get_or, take, drop, Some, None, one-add, refl, sym, ap, subst, ◌∙◌, arith, append_assoc, append-nil, length-drop, eqb-true, cond, not, slice_range, ◌==◌}
use Rattle.std.specs.List.{position_or_len}
use Rattle.std.proofs.lemmas.List.{drop-drop, drop-take, drop_all, drop_more, take_all, length-take}
use Rattle.std.proofs.{lemmas.List.Sums.passes_at_first, Math.Nat.min-le_left}
use Rattle.text_lines.specs.Lines.{LineSeen, Held, line_of, lines_from, lines_held}
use Rattle.text_lines.specs.ties.Kept.{SameLines, HeldLine}
use Rattle.text_lines.proofs.LineParts.{byte_step, ten_step, none_from, line_ended}

-- how many bytes a text has before its first byte 10; all, if it has none
abbrev pub line_len : List ℕ → ℕ
line_len text = position_or_len (λ c. c == 10) text

-- ---- the lines

-- the bytes before the first byte 10 go to the part
passed : (n : ℕ) (at_end : Bool) (part coming rest : List ℕ) → lines_from n at_end part (coming ++ rest)
    ≡ lines_from n at_end (part ++ take (line_len coming) coming) (drop (line_len coming) coming ++ rest)
passed n at_end part [] rest = ap (λ v. lines_from n at_end v rest) (sym (append-nil part))
passed n at_end part (c ∷ cs) rest = by_test (eqb c 10) refl (passed n at_end (part ++ c ∷ []) cs rest)
  where
    past : ℕ → List ℕ → List ℕ → List LineSeen
    past k front text = lines_from n at_end (front ++ take k text) (drop k text ++ rest)

    by_test : (b : Bool) → eqb c 10 ≡ b
        → lines_from n at_end (part ++ c ∷ []) (cs ++ rest) ≡ past (line_len cs) (part ++ c ∷ []) cs
        → lines_from n at_end part (c ∷ (cs ++ rest)) ≡ past (cond (not b) (1 + line_len cs) 0) part (c ∷ cs)
    by_test true e on = sym (ap (λ v. lines_from n at_end v (c ∷ (cs ++ rest))) (append-nil part))
    by_test false e on =
        let other : c ≢ 10 = grind arith in
        byte_step n at_end part c (cs ++ rest) other ∙ on
        ∙ ap (λ v. lines_from n at_end v (drop (line_len cs) cs ++ rest))
        (append_assoc part (c ∷ []) (take (line_len cs) cs))
        ∙ sym (ap (λ k. past k part (c ∷ cs)) (one-add (line_len cs)))

-- a text from its first byte 10 on is that byte and what follows it
ends_at : (k : ℕ) (xs : List ℕ) → k ≡ line_len xs → k < length xs → drop k xs ≡ 10 ∷ drop (k + 1) xs
ends_at k xs h l =
    let end = passes_at_first (λ c. c == 10) xs 0 (subst (λ m. m < length xs) h l) in
    drop_more xs k 0 l
    ∙ ap (λ c. c ∷ drop (k + 1) xs) (eqb-true (get_or xs k 0) 10 (ap (λ m. get_or xs m 0 == 10) h ∙ end))

-- no byte 10 is held: all bytes go to the part
pub none_held : (n : ℕ) (held : Held) (part' coming' : List ℕ) (k : ℕ) → k ≡ line_len held.coming
    → k ≡ length held.coming → SameLines n (held.part ++ held.coming) part' → coming' ≡ []
    → HeldLine n held (record { part = part'; coming = coming' }) None
none_held n held part' coming' k is all same empty =
    let moved : (at_end : Bool) (rest : List ℕ) → lines_held n at_end held rest ≡ lines_from n at_end part' rest =
    λ at_end rest. passed n at_end held.part held.coming rest
    ∙ ap (λ m. lines_from n at_end (held.part ++ take m held.coming) (drop m held.coming ++ rest)) (sym is ∙ all)
    ∙ ap (λ v. lines_from n at_end (held.part ++ v) (drop (length held.coming) held.coming ++ rest))
    (take_all (length held.coming) held.coming (omega arith))
    ∙ ap (λ v. lines_from n at_end (held.part ++ held.coming) (v ++ rest))
    (drop_all (length held.coming) held.coming (omega arith))
    ∙ same at_end rest in (
      moved false [] ∙ none_from n part',
      empty,
      λ at_end rest. moved at_end rest ∙ ap (λ v. lines_from n at_end part' (v ++ rest)) (sym empty),
    )

-- a byte 10 is held: the part with the bytes before it is a line
pub line_held : (n : ℕ) (held : Held) (part' coming' : List ℕ) (k : ℕ) (line : LineSeen)
    → k ≡ line_len held.coming → k < length held.coming → line ≡ line_of n true (held.part ++ take k held.coming)
    → part' ≡ [] → coming' ≡ drop (k + 1) held.coming
    → HeldLine n held (record { part = part'; coming = coming' }) (Some line)
line_held n held part' coming' k line is within shown empty left =
    let whole : List ℕ = held.part ++ take k held.coming in
    let len : length (drop (k + 1) held.coming) ≡ length held.coming - (k + 1) = length-drop (k + 1) held.coming in
    let cut = ends_at k held.coming is within in (
      ap (λ (l : LineSeen). l.ended) shown ∙ line_ended n true whole,
      omega (arith, len, within, ap length left),
      λ at_end rest. passed n at_end held.part held.coming rest
          ∙ ap (λ m. lines_from n at_end (held.part ++ take m held.coming) (drop m held.coming ++ rest)) (sym is)
          ∙ ap (λ v. lines_from n at_end whole (v ++ rest)) cut
          ∙ ten_step n at_end whole 10 (drop (k + 1) held.coming ++ rest) refl
          ∙ ap (λ v. v ∷ lines_from n at_end [] (drop (k + 1) held.coming ++ rest)) (sym shown)
          ∙ ap (λ v. line ∷ lines_from n at_end v (drop (k + 1) held.coming ++ rest)) (sym empty)
          ∙ ap (λ v. line ∷ lines_from n at_end part' (v ++ rest)) (sym left),
    )

-- if the same lines follow after x as after y, whatever comes, then a `\n` that comes next makes the same line of them
pub same_line : (n : ℕ) (x y : List ℕ) → SameLines n x y → line_of n true x ≡ line_of n true y
same_line n x y same = heads (line_of n true x) (line_of n true y) (lines_from n true [] []) (
    sym (ten_step n true x 10 [] refl) ∙ same true (10 ∷ []) ∙ ten_step n true y 10 [] refl
    )
  where
    heads : (a b : LineSeen) (ls : List LineSeen) → a ∷ ls ≡ b ∷ ls → a ≡ b
    heads a b ls e = cc

-- a window without its first bytes
pub window_left : (piece : List ℕ) (from to count : ℕ) → from ≤ to → count ≤ length (slice_range piece from to)
    → slice_range piece (from + count) to ≡ drop count (slice_range piece from to)
window_left piece from to count ordered few =
    let len = length-take (to - from) (drop from piece) in
    let le = min-le_left (to - from) (length (drop from piece)) in
    let cut : to - from ≡ count + (to - (from + count)) = omega (arith, few, len, le, ordered) in
    sym (ap (λ k. drop count (take k (drop from piece))) cut
    ∙ drop-take count (to - (from + count)) (drop from piece)
    ∙ ap (take (to - (from + count))) (drop-drop count from piece))
