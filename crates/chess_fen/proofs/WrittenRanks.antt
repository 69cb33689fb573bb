-- A rank that is written square by square, with a count of the empty ones, has the definition's text (row_is). The
-- ranks are written from the eighth down: the text so far, with that of the ranks still to come, stays the whole text
-- after one more rank and its slash (more_ranks).
use Rattle.std.proofs.Common.{◌≡◌, ℕ, zero, suc, ◌+◌, ◌-◌, ◌*◌, ◌<◌, List, [], ◌∷◌, ◌++◌, take, drop, Option, Some, None, refl, sym, ap, ◌∙◌, append_assoc, append-nil, arith, is_none, replicate, true}
use Rattle.std.specs.List.{prefix_len}
use Rattle.chess_base.specs.{declared.man.Man.Man, Letters.letter}
use Rattle.chess_fen.specs.{Writing.squares_text, Writing.fen_rank, shared.Rows.run_text, shared.Rows.row_text, ties.Loops.ranks_text}

-- ---- a rank

-- the number of empty squares in front of others, the first of which is not empty
run_len : (n : ℕ) (others : List (Option Man)) → prefix_len is_none others ≡ 0
    → prefix_len is_none (replicate n None ++ others) ≡ n
run_len zero others none = none
run_len (suc n) others none =
    let one : 1 + n ≡ suc n = omega arith in ap (λ k. 1 + k) (run_len n others none) ∙ one

-- empty squares after another add nothing
run_passed : (n : ℕ) (others : List (Option Man))
    → squares_text true (replicate n None ++ others) ≡ squares_text true others
run_passed zero others = refl
run_passed (suc n) others = run_passed n others

-- empty squares in front of others, the first of which is not empty
runs : (others : List (Option Man)) → prefix_len is_none others ≡ 0 → squares_text true others ≡ fen_rank others
    → (n : ℕ) → fen_rank (replicate n None ++ others) ≡ run_text n ++ fen_rank others
runs others none same zero = refl
runs others none same (suc n) =
    ap (λ k. (48 + k) ∷ squares_text true (replicate n None ++ others)) (run_len (suc n) others none)
    ∙ ap (λ text. (48 + suc n) ∷ text) (run_passed n others ∙ same)

-- one empty square more is the same before the others as after them
pub moved : (n : ℕ) (row : List (Option Man)) → replicate (suc n) None ++ row ≡ replicate n None ++ None ∷ row
moved zero row = refl
moved (suc n) row = ap (λ xs. None ∷ xs) (moved n row)

-- what is written of squares after n empty ones is the rank's text of all of them
pub row_is : (row : List (Option Man)) (n : ℕ) → row_text n row ≡ fen_rank (replicate n None ++ row)
row_is [] n = sym (runs [] refl refl n ∙ append-nil (run_text n))
row_is (None ∷ row) n = row_is row (suc n) ∙ ap fen_rank (moved n row)
row_is (Some man ∷ row) n =
    ap (λ text. run_text n ++ letter man ∷ text) (row_is row 0) ∙ sym (runs (Some man ∷ row) refl refl n)

-- ---- the ranks

-- the whole text is the text so far and that of the ranks still to come; it is so too after one more rank and its
-- slash, where another rank follows
pub more_ranks : (left : ℕ) (men row : List (Option Man)) (old ranked new whole : List ℕ) → 0 < left - 1
    → old ++ ranks_text left men ≡ whole → row ≡ take 8 (drop (8 * (left - 1)) men) → ranked ≡ old ++ fen_rank row
    → new ≡ ranked ++ 47 ∷ []
    → new ++ ranks_text (left - 1) men ≡ whole
more_ranks zero men row old ranked new whole h so_far at is put = absurd (omega (arith, h))
more_ranks (suc zero) men row old ranked new whole h so_far at is put = absurd (omega (arith, h))
more_ranks (suc (suc n)) men row old ranked new whole h so_far at is put =
    let less : suc (suc n) - 1 ≡ suc n = omega arith in
    let here : row ≡ take 8 (drop (8 * suc n) men) = at ∙ ap (λ k. take 8 (drop (8 * k) men)) less in
    rw (put, is, here, less)
    (append_assoc (old ++ fen_rank (take 8 (drop (8 * suc n) men))) (47 ∷ []) (ranks_text (suc n) men)
    ∙ append_assoc old (fen_rank (take 8 (drop (8 * suc n) men))) (47 ∷ ranks_text (suc n) men) ∙ so_far)
