-- The line ends of two texts put together are those of each (count_append), and no text has more line ends than bytes
-- (line_ends-le): by induction on the text. Also, the first bytes of two texts put together are those of the first, and
-- then those of the second if the first is too short (take_append).
use Rattle.std.proofs.Common.{◌≡◌, ◌≤◌, ℕ, zero, suc, ◌+◌, ◌-◌, List, [], ◌∷◌, ◌++◌, length, take, ap, ◌∙◌, arith, if◌then◌else◌, ◌==◌}
use Rattle.std.proofs.lemmas.List.Sums.{sum_by-append, count_by-le-length}
use Rattle.pgn_pieces.specs.Places.{line_ends}

pub count_append : (xs ys : List ℕ) → line_ends (xs ++ ys) ≡ line_ends xs + line_ends ys
count_append = sum_by-append (λ c. if c == 10 then 1 else 0)

pub line_ends-le : (xs : List ℕ) → line_ends xs ≤ length xs
line_ends-le xs = count_by-le-length (λ c. c == 10) xs

pub take_append : (n : ℕ) (xs ys : List ℕ) → take n (xs ++ ys) ≡ take n xs ++ take (n - length xs) ys
take_append zero xs ys = let e : 0 ≡ 0 - length xs = omega arith in ap (λ k. take k ys) e
take_append (suc n) [] ys = let e : suc n ≡ suc n - 0 = omega arith in ap (λ k. take k ys) e
take_append (suc n) (x ∷ xs) ys =
    let e : n - length xs ≡ suc n - length (x ∷ xs) = omega arith in
    ap (λ zs. x ∷ zs) (take_append n xs ys) ∙ ap (λ k. x ∷ (take n xs ++ take k ys)) e
