-- How many bytes come before the first that ends a line, as the code counts them (before_end): up to that byte, and
-- with it, a text has a whole line (line_of); and if there is none, all of the text is a line without its end
-- (none_in). By induction on the text.
use Rattle.std.proofs.Common.{◌≡◌, ◌<◌, ℕ, ◌+◌, Bool, true, false, List, [], ◌∷◌, length, get_or, take, refl, sym, ap, subst, ◌∙◌, one-add, cond, not, ◌||◌, ◌==◌}
use Rattle.std.specs.List.{position_or_len}
use Rattle.std.proofs.{Math.Path.fun_ext, Math.Seq.take-length, lemmas.Bool.or_from, lemmas.List.take_more, lemmas.List.Sums.passes_at_first}
use Rattle.pgn_pieces.specs.{Places.breaks_line, ties.Held.has_line_end, ties.Held.IsWhole}

abbrev pub plain_len : List ℕ → ℕ
plain_len xs = position_or_len breaks_line xs

-- of three bytes that are searched for, two may be alike
pub before_end : (xs : List ℕ) → position_or_len (λ c. (c == 10) || ((c == 13) || (c == 13))) xs ≡ plain_len xs
before_end xs = ap (λ p. position_or_len p xs) (fun_ext (λ c. ap (λ b. (c == 10) || b) (one_of_two (c == 13))))
  where
    one_of_two : (b : Bool) → (b || b) ≡ b
    one_of_two true = refl
    one_of_two false = refl

none_before : (xs : List ℕ) → has_line_end (take (plain_len xs) xs) ≡ false
none_before [] = refl
none_before (x ∷ xs) = by_test (breaks_line x) refl (none_before xs)
  where
    by_test : (b : Bool) → breaks_line x ≡ b → has_line_end (take (plain_len xs) xs) ≡ false
        → has_line_end (take (cond (not b) (1 + plain_len xs) 0) (x ∷ xs)) ≡ false
    by_test true e on = refl
    by_test false e on =
        ap (λ n. has_line_end (take n (x ∷ xs))) (one-add (plain_len xs))
        ∙ or_from (breaks_line x) (has_line_end (take (plain_len xs) xs)) e on

pub none_in : (xs : List ℕ) → plain_len xs ≡ length xs → has_line_end xs ≡ false
none_in xs h = ap has_line_end (sym (take-length xs) ∙ ap (λ n. take n xs) (sym h)) ∙ none_before xs

pub line_of : (n : ℕ) (xs : List ℕ) → n ≡ plain_len xs → n < length xs → IsWhole (take (n + 1) xs)
line_of n xs h k = record {
  body = take n xs;
  end = get_or xs n 0;
  all = take_more xs n 0 k;
  ends = ap (λ m. breaks_line (get_or xs m 0)) h ∙ passes_at_first breaks_line xs 0 (subst (λ m. m < length xs) h k);
  plain = ap (λ m. has_line_end (take m xs)) h ∙ none_before xs;
}
