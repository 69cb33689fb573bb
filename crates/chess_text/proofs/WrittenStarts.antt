-- What SAN writes of a start square (nothing, file, rank or both) fits this square (written_admits), and none of the
-- other start squares (start_is_apart). By cases of what is written: no other start is on a file or rank that is
-- written without the other, and file and rank name one square.
use Rattle.std.proofs.Common.{◌≡◌, ◌≢◌, ℕ, Bool, true, false, not, cond, List, [], ◌∷◌, refl, ap, arith, eqb-true, eq-eqb}
use Rattle.chess_base.specs.Squares.{file, rank}
use Rattle.chess_text.specs.shared.Fitting.{admits}
use Rattle.chess_text.specs.ties.SanParts.{some_on_file, some_on_rank, distinction, disambiguate, if_written}

-- the start itself is as written
pub written_admits : (b : Bool) (n : ℕ) → admits (if_written b n) n ≡ true
written_admits true n = eq-eqb n n refl
written_admits false n = refl

-- a number that is written admits only itself
admitted : (n k : ℕ) → admits (if_written true n) k ≡ true → n ≡ k
admitted n k e = eqb-true n k e

pub same_square : (a b : ℕ) → file a ≡ file b → rank a ≡ rank b → b ≡ a
same_square a b f r = omega arith

-- a square s other than `from` doesn't fit what is written of `from`, if squares of `others` are on its file and on its
-- rank: by the file alone no other is on `from`'s file, by the rank alone none is on its rank
pub start_is_apart : (from s : ℕ) (others : List ℕ) → some_on_file (file s) others ≡ true
    → some_on_rank (rank s) others ≡ true → s ≢ from
    → admits (if_written (disambiguate from others).file (file from)) (file s) ≡ true
    → admits (if_written (disambiguate from others).rank (rank from)) (rank s) ≡ true → ⊥
start_is_apart from s [] f r differs a b = cc
start_is_apart from s (o ∷ os) f r differs a b = by_tests (some_on_file (file from) (o ∷ os)) refl
    (some_on_rank (rank from) (o ∷ os)) refl a b
  where
    by_tests : (x : Bool) → some_on_file (file from) (o ∷ os) ≡ x → (y : Bool) → some_on_rank (rank from) (o ∷ os) ≡ y
        → admits (if_written (cond (not x) (distinction true false) (cond (not y) (distinction false true) (distinction true true))).file
        (file from)) (file s) ≡ true
        → admits (if_written (cond (not x) (distinction true false) (cond (not y) (distinction false true) (distinction true true))).rank
        (rank from)) (rank s) ≡ true → ⊥
    by_tests false none y q a b =
        let same = ap (λ n. some_on_file n (o ∷ os)) (admitted (file from) (file s) a) in
        cc
    by_tests true p false none a b =
        let same = ap (λ n. some_on_rank n (o ∷ os)) (admitted (rank from) (rank s) b) in
        cc
    by_tests true p true q a b =
        differs (same_square from s (admitted (file from) (file s) a) (admitted (rank from) (rank s) b))
