-- For the loop of `last_tag`, which goes from token to token and keeps the last tag of a name found so far. By its
-- invariant (Reads) the last tag from here on, or else the one kept, is the last tag of all; a token more keeps this
-- (one_more), and so does what is skipped after it (skipped_on).
use Rattle.std.proofs.Common.{◌≡◌, ◌≤◌, ℕ, ◌-◌, true, cond, List, ◌∷◌, length, Option, Some, None, IfSome, refl, sym, ap, subst, ◌∙◌, arith, bytes_eq}
use Rattle.std.specs.Option.{option_or}
use Rattle.pgn_tokens.specs.LastTags.{may_precede_tags, named_tag, tag_section, last_tag}
use Rattle.pgn_tokens.specs.Tokens.{Token, Skip, Word, Bad_tag, Unclosed_comment, Unclosed_variation, Bad, tokens_from}
use Rattle.pgn_tokens.specs.Tokens as tokens
use Rattle.pgn_tokens.specs.{declared.tag.Tag.Tag, shared.Places.IsWithin, Seen.found_seen, Seen.SkipsTo}
use Rattle.pgn_tokens.proofs.{ByteRuns.pick, SkippedTokens.skips_last, TagScans.last_from, TagScans.last_step, TokenPlaces.token_within}

-- the tag, if there is one, begins in a text of so many bytes
abbrev pub InText : ℕ → Option Tag → Type 0
InText total tag = IfSome tag (λ t. t.to_end ≤ total)

-- the loop at the offset `here`, with `last` found since `from`: the last tag from `here` on, or else `last`, is the
-- last one from `from` on
pub record Reads (text name : List ℕ) (from : ℕ) (last : Option Tag) (here : ℕ) : Type 0 where
  pub offset : here ≤ length text
  pub within : InText (length text) last
  pub whole : last_from name (found_seen last) (tokens_from text here)
      ≡ last_tag name (tag_section (tokens_from text from))

-- the tag found, or else the one before it, as the definitions see it
seen_or : (found before : Option Tag)
    → found_seen (option_or found before) ≡ option_or (found_seen found) (found_seen before)
seen_or None before = refl
seen_or (Some tag) before = refl

-- `InText`, for a tag as the definitions have it: its text, and how many bytes are left there
abbrev Within : ℕ → Option (List ℕ × ℕ) → Type 0
Within total tag = IfSome tag (λ t. t.1 ≤ total)

-- the tag of a token begins in the text if the token is in it; `n` is the token's offset
named_within : (total n : ℕ) (name : List ℕ) (t : Token) → IsWithin (total - n) t → Within total (named_tag name t)
named_within total n name Skip h = tt
named_within total n name (tokens.Tag other text left) h =
    pick (Within total) (bytes_eq other name) _ _ (λ _. omega (arith, h)) (λ _. tt)
named_within total n name (Word word) h = tt
named_within total n name Bad_tag h = tt
named_within total n name (Unclosed_comment left) h = tt
named_within total n name Unclosed_variation h = tt
named_within total n name Bad h = tt

or_within : (total : ℕ) (found before : Option Tag) → Within total (found_seen found) → InText total before
    → InText total (option_or found before)
or_within total None before h k = k
or_within total (Some tag) before h k = h

-- a token among the tags, at `here`: the loop goes on at `tail`, with the token's tag if it has this name (`next`)
pub one_more : (text name : List ℕ) (from : ℕ) (last found next : Option Tag) (here tail : ℕ) (t : Token)
    → Reads text name from last here → tokens_from text here ≡ (length text - here, t) ∷ tokens_from text tail
    → tail ≤ length text → true ≡ may_precede_tags t → found_seen found ≡ named_tag name t
    → next ≡ option_or found last → Reads text name from next tail
one_more text name from last found next here tail t r is within may named joined = record {
  offset = within;
  within =
      let token = token_within text here t (tokens_from text tail) r.offset is in
      subst (InText (length text)) (sym joined) (or_within (length text) found last
      (subst (Within (length text)) (sym named) (named_within (length text) here name t token)) r.within);
  whole =
      ap (λ o. last_from name (found_seen o) (tokens_from text tail)) joined
      ∙ ap (λ o. last_from name o (tokens_from text tail)) (seen_or found last)
      ∙ ap (λ o. last_from name (option_or o (found_seen last)) (tokens_from text tail)) named
      ∙ ap (λ b. cond b (last_from name (option_or (named_tag name t) (found_seen last)) (tokens_from text tail))
      (found_seen last)) may
      ∙ sym (last_step name (found_seen last) (length text - here, t) (tokens_from text tail))
      ∙ ap (last_from name (found_seen last)) (sym is) ∙ r.whole;
}

-- what is skipped after a token changes nothing
pub skipped_on : (text name : List ℕ) (from : ℕ) (last : Option Tag) (here there : ℕ) → Reads text name from last here
    → SkipsTo text here there → there ≤ length text → Reads text name from last there
skipped_on text name from last here there r skips within = record {
  offset = within;
  within = r.within;
  whole = sym (skips_last text here there skips name (found_seen last)) ∙ r.whole;
}
