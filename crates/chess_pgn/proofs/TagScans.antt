-- The variant that a game's tags name, found token by token with the variant so far in hand (`variant_from`), is that
-- of the last tag `Variant`, as the definition has it (variants_are). By induction on the tokens.
use Rattle.std.proofs.Common.{◌≡◌, ℕ, Bool, true, false, cond, List, [], ◌∷◌, Option, Some, None, refl, sym, ap, ◌∙◌, if◌then◌else◌, codes}
use Rattle.std.specs.Option.{option_map_or, option_or}
use Rattle.chess_base.specs.{declared.man.Variant.Variant, declared.man.Variant.TheVariants.Normal}
use Rattle.chess_pgn.specs.{GameRead.tagged_variant, shared.VariantNames.variant_named}
use Rattle.pgn_tokens.specs.{LastTags.may_precede_tags, LastTags.named_tag, LastTags.tag_section, Tokens.Token}
use Rattle.pgn_tokens.proofs.shared.Tags.{last_from, last_step}

-- the variant that a tag Variant names; `v` if there is none
abbrev pub variant_or : Variant → Option (List ℕ × ℕ) → Variant
variant_or v tag = option_map_or (λ t. variant_named t.0) tag v

-- the variant after one more token: what a tag Variant names, else `v`, the variant so far
abbrev pub variant_said : Variant → Token → Variant
variant_said v t = variant_or v (named_tag (codes "Variant") t)

-- the variant that the last tag Variant of these tokens names, as far as they can be the game's tags; `v`, the variant
-- so far, if there is none
abbrev pub variant_from : Variant → List (ℕ × Token) → Variant
variant_from v [] = v
variant_from v (t ∷ ts) = if may_precede_tags t.1 then variant_from (variant_said v t.1) ts else v

-- a tag `Variant` more takes the place of the one before
said_or : (found before : Option (List ℕ × ℕ))
    → variant_or (variant_or Normal before) found ≡ variant_or Normal (option_or found before)
said_or None before = refl
said_or (Some tag) before = refl

-- the variant found token by token is that of the last tag `Variant`, or else of the one before
variant_from_is : (before : Option (List ℕ × ℕ)) (ts : List (ℕ × Token))
    → variant_from (variant_or Normal before) ts ≡ variant_or Normal (last_from (codes "Variant") before ts)
variant_from_is before [] = refl
variant_from_is before (t ∷ ts) =
    by_test (may_precede_tags t.1) (variant_from_is (option_or (named_tag (codes "Variant") t.1) before) ts)
    ∙ ap (variant_or Normal) (sym (last_step (codes "Variant") before t ts))
  where
    by_test : (b : Bool) → variant_from (variant_or Normal (option_or (named_tag (codes "Variant") t.1) before)) ts
        ≡ variant_or Normal (last_from (codes "Variant") (option_or (named_tag (codes "Variant") t.1) before) ts)
        → cond b (variant_from (variant_said (variant_or Normal before) t.1) ts) (variant_or Normal before)
        ≡ variant_or Normal
        (cond b (last_from (codes "Variant") (option_or (named_tag (codes "Variant") t.1) before) ts) before)
    by_test true later =
        ap (λ v. variant_from v ts) (said_or (named_tag (codes "Variant") t.1) before) ∙ later
    by_test false later = refl

pub variants_are : (ts : List (ℕ × Token)) → variant_from Normal ts ≡ tagged_variant (tag_section ts)
variants_are ts = variant_from_is None ts
