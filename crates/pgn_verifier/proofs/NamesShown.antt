-- What a line shows of a tag such as White is from the last tag of that name, as `shown_tag` defines it (shown_is). The
-- contract of `tag_text` names some split of the text into tokens; a text has only one, so it is the definition's
-- (`tokens_from`). Also, a piece that is too long has no names to show (unnamed).
use Rattle.std.proofs.Common.{◌≡◌, ℕ, Bool, true, false, List, map, take, Option, Some, None, refl, ap, ◌∙◌, if◌then◌else◌, codes}
use Rattle.std.specs.Option.{option_map, option_map_or}
use Rattle.byte_devices.specs.Bytes.{shown_byte}
use Rattle.pgn_tokens.specs.{LastTags.last_tag, LastTags.tag_section, Split.IsSplit, Tokens.Token, Tokens.tokens_from}
use Rattle.pgn_tokens.proofs.shared.Tokens.{split_read}
use Rattle.pgn_verifier.specs.Reports.{shown_tag}

-- the text of a tag as a line shows it: its first 40 bytes, made printable; `?` if there is no such tag
abbrev pub shown_or : Option (List ℕ) → List ℕ
shown_or text = option_map_or (λ t. map shown_byte (take 40 t)) text (codes "?")

-- the same for what `last_tag` returns, of which the text is the first part
by_tag : (tag : Option (List ℕ × ℕ)) → shown_or (option_map (λ t. t.0) tag)
    ≡ option_map_or (λ t. map shown_byte (take 40 t.0)) tag (codes "?")
by_tag None = refl
by_tag (Some tag) = refl

-- if `found` is the text of the last tag with this name in a split, what is shown of it is as defined
pub shown_is : (text name : List ℕ) (at : ℕ) (found : Option (List ℕ))
    → (tokens : List (ℕ × Token)) × IsSplit text at tokens
    × (found ≡ option_map (λ t. t.0) (last_tag name (tag_section tokens)))
    → shown_or found ≡ shown_tag (tokens_from text at) name
shown_is text name at found (tokens, split, is) =
    ap shown_or is ∙ by_tag (last_tag name (tag_section tokens))
    ∙ ap (λ ts. shown_tag ts name) (split_read text split)

-- a piece that is too long has no names to show (`none` is empty then), whether they are asked for or not
pub unnamed : (asked : Bool) (none : List ℕ) → none ≡ (if asked then none else none)
unnamed true none = refl
unnamed false none = refl
