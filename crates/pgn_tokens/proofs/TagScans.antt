-- The last tag of a name among tokens, or else the one found before them (`last_from`), as the loop of `last_tag` keeps
-- it. A token more is one step (last_step): its tag, if it has the name, replaces the one found before; a token that no
-- tag may follow ends the tags.
use Rattle.std.proofs.Common.{◌≡◌, ℕ, suc, ◌+◌, Bool, true, false, cond, List, ◌∷◌, take, Option, Some, None, refl, arith}
use Rattle.std.specs.List.{cons_option, filter_map, last_or, prefix_len, take_while}
use Rattle.std.specs.Option.{option_or}
use Rattle.pgn_tokens.specs.{LastTags.may_precede_tags, LastTags.named_tag, Tokens.Token}

-- the last tag of a name among tokens, or the one before them
abbrev pub last_from : List ℕ → Option (List ℕ × ℕ) → List (ℕ × Token) → Option (List ℕ × ℕ)
last_from name before tokens =
    last_or before (filter_map (λ t. named_tag name t.1) (take_while (λ t. may_precede_tags t.1) tokens))

next_found : (before found : Option (List ℕ × ℕ)) (others : List (List ℕ × ℕ))
    → last_or before (cons_option found others) ≡ last_or (option_or found before) others
next_found before None others = refl
next_found before (Some tag) others = refl

-- one token more
pub last_step : (name : List ℕ) (before : Option (List ℕ × ℕ)) (t : ℕ × Token) (ts : List (ℕ × Token))
    → last_from name before (t ∷ ts)
    ≡ cond (may_precede_tags t.1) (last_from name (option_or (named_tag name t.1) before) ts) before
last_step name before t ts = by_test (may_precede_tags t.1)
  where
    n : ℕ
    n = prefix_len (λ u. may_precede_tags u.1) ts

    by_test : (b : Bool) → last_or before (filter_map (λ u. named_tag name u.1) (take (cond b (1 + n) 0) (t ∷ ts)))
        ≡ cond b (last_from name (option_or (named_tag name t.1) before) ts) before
    by_test true =
        let next : 1 + n ≡ suc n = omega arith in
        rw next (next_found before (named_tag name t.1) (filter_map (λ u. named_tag name u.1) (take n ts)))
    by_test false = refl
