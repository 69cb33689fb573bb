-- Numbers of legal moves. Some pieces have no more than all pieces, by induction over the squares, so at most as many
-- as a list holds (some_fit: 896). If some pieces, or the piece on one square, have a legal move, there is one
-- (some_of, some_from). Of joined lists one has an element exactly if the whole has (any_of).
use Rattle.std.proofs.Common.{◌≡◌, ℕ, suc, ◌+◌, ◌≤◌, inl, inr, Bool, true, ◌||◌, List, [], ◌∷◌, ◌++◌, length, refl, sym, ap, ◌∙◌, length-append, nat_lt, ◌<◌, arith}
use Rattle.std.proofs.lemmas.Bool.{cases_Bool, lt-ltb, ltb-true}
use Rattle.std.specs.List.{filter, flat_map, list_any}
use Rattle.chess_base.specs.{declared.setup.Setup.Setup, MoveList.moves, Squares.squares, Sound.IsSound}
use Rattle.chess_moves.specs.{shared.MovesBySquares.moves_from, Sets.contains, Sets.members}
use Rattle.chess_moves.proofs.{shared.MovesBySquares.moves-by_start, shared.AnyMove.any-square, shared.LegalMoves.moves_fit}

-- a sum that begins with 0
pub none_counted : {m n : ℕ} → m ≡ n → 0 + m ≡ n
none_counted e = omega (arith, e)

-- the lists of the elements that pass q, joined, are no longer than those of all elements
fewer : {A : Type 0} (g : ℕ → List A) (q : ℕ → Bool) (xs : List ℕ)
    → length (flat_map g (filter q xs)) ≤ length (flat_map g xs)
fewer g q [] = omega arith
fewer g q (x ∷ xs) =
    let rest = fewer g q xs in
    let all = length-append (g x) (flat_map g xs) in
    let some = length-append (g x) (flat_map g (filter q xs)) in
    elim (cases_Bool (q x))
    [ inl kept ↦ rw kept (omega (arith, rest, all, some)) | inr left ↦ rw left (omega (arith, rest, all)) ]

-- if the pieces on the squares of w have a legal move, there is one
pub some_of : (p : Setup) (w : ℕ) → nat_lt 0 (length (flat_map (λ a. moves_from p a) (members w))) ≡ true
    → true ≡ nat_lt 0 (length (moves p))
unfolding members
some_of p w h =
    let less = fewer (λ a. moves_from p a) (λ k. contains w k) squares in
    let all = ap length (moves-by_start p) in
    let some : 0 < length (flat_map (λ a. moves_from p a) (filter (λ k. contains w k) squares)) = ltb-true _ _ h in
    sym (lt-ltb 0 (length (moves p)) (omega (arith, less, all, some)))

-- the pieces on the squares of w have no more legal moves than a list holds
pub some_fit : (p : Setup) (w : ℕ) → IsSound p → length (flat_map (λ a. moves_from p a) (members w)) ≤ 896
unfolding members
some_fit p w sound =
    let less = fewer (λ a. moves_from p a) (λ k. contains w k) squares in
    let all = ap length (moves-by_start p) in
    let fits = moves_fit p sound in
    omega (arith, less, all, fits)

-- one of the lists g a has an element exactly if the lists joined have one
pub any_of : {A : Type 0} (g : ℕ → List A) (xs : List ℕ)
    → list_any (λ a. nat_lt 0 (length (g a))) xs ≡ nat_lt 0 (length (flat_map g xs))
any_of g [] = refl
any_of {A = A} g (x ∷ xs) = by _ (g x) (flat_map g xs) (any_of g xs)
  where
    by : (t : Bool) (ys zs : List A) → t ≡ nat_lt 0 (length zs)
        → (nat_lt 0 (length ys) || t) ≡ nat_lt 0 (length (ys ++ zs))
    by t [] zs e = e
    by t (y ∷ ys) zs e =
        ap (λ s. s || t) (lt-ltb 0 (suc (length ys)) (omega arith))
        ∙ sym (lt-ltb 0 (suc (length (ys ++ zs))) (omega arith))

-- if there is a legal move from one square, there is one
pub some_from : (p : Setup) (a : ℕ) → a < 64 → 0 < length (moves_from p a) → true ≡ nat_lt 0 (length (moves p))
some_from p a low h =
    sym (any-square (λ b. nat_lt 0 (length (moves_from p b))) a low (lt-ltb 0 (length (moves_from p a)) h))
    ∙ any_of (λ b. moves_from p b) squares ∙ ap (λ ms. nat_lt 0 (length ms)) (sym (moves-by_start p))
