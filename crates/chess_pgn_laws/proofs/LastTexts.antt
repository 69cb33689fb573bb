-- The text of the last tag with a name, found token by token with the last one so far in hand (`text_from`), is that of
-- the definition (text_is): by induction on the tokens.
use Rattle.std.proofs.Common.{◌≡◌, ℕ, Bool, true, false, cond, List, [], ◌∷◌, Option, Some, None, refl, sym, ap, ◌∙◌, if◌then◌else◌}
use Rattle.std.specs.Option.{option_map, option_or}
use Rattle.pgn_tokens.specs.LastTags.{may_precede_tags, named_tag, tag_section, last_tag}
use Rattle.pgn_tokens.specs.Tokens.{Token}
use Rattle.pgn_tokens.proofs.shared.Tags.{last_from, last_step}

-- the text of the last tag of the name among these tokens, as far as they can be the game's tags; `before` if there is
-- none
abbrev pub text_from : List ℕ → Option (List ℕ) → List (ℕ × Token) → Option (List ℕ)
text_from name before [] = before
text_from name before (t ∷ ts) = if may_precede_tags t.1
    then text_from name (option_or (option_map (λ tag. tag.0) (named_tag name t.1)) before) ts else before

-- the text of one of two tags, the first if it is found
text_or : (found before : Option (List ℕ × ℕ))
    → option_or (option_map (λ (tag : List ℕ × ℕ). tag.0) found) (option_map (λ (tag : List ℕ × ℕ). tag.0) before)
    ≡ option_map (λ (tag : List ℕ × ℕ). tag.0) (option_or found before)
text_or None before = refl
text_or (Some tag) before = refl

text_from_is : (name : List ℕ) (before : Option (List ℕ × ℕ)) (ts : List (ℕ × Token))
    → text_from name (option_map (λ tag. tag.0) before) ts ≡ option_map (λ tag. tag.0) (last_from name before ts)
text_from_is name before [] = refl
text_from_is name before (t ∷ ts) =
    by_test (may_precede_tags t.1) (text_from_is name (option_or (named_tag name t.1) before) ts)
    ∙ ap (option_map (λ (tag : List ℕ × ℕ). tag.0)) (sym (last_step name before t ts))
  where
    text : Option (List ℕ × ℕ) → Option (List ℕ)
    text tag = option_map (λ (found : List ℕ × ℕ). found.0) tag

    by_test : (b : Bool) → text_from name (text (option_or (named_tag name t.1) before)) ts
        ≡ text (last_from name (option_or (named_tag name t.1) before) ts)
        → cond b (text_from name (option_or (text (named_tag name t.1)) (text before)) ts) (text before)
        ≡ text (cond b (last_from name (option_or (named_tag name t.1) before) ts) before)
    by_test true later = ap (λ o. text_from name o ts) (text_or (named_tag name t.1) before) ∙ later
    by_test false later = refl

pub text_is : (name : List ℕ) (ts : List (ℕ × Token))
    → text_from name None ts ≡ option_map (λ tag. tag.0) (last_tag name (tag_section ts))
text_is name ts = text_from_is name None ts
