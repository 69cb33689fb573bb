-- For the loop of `after_tags`, which passes over a game's tags. By its invariant (PassesTags) the tokens after the
-- tags are the same from here on as from the beginning. A token among tags keeps this (passes_on); any other token,
-- what can't be read and the text's end each end the tags.
use Rattle.std.proofs.Common.{◌≡◌, ◌≤◌, ℕ, ◌+◌, ◌-◌, true, false, cond, List, [], ◌∷◌, length, take, drop, refl, sym, ap, ◌∙◌, one-add}
use Rattle.std.specs.List.{prefix_len}
use Rattle.pgn_tokens.specs.{LastTags.may_precede_tags, Seen.fault_seen, TagsPassed.IsAfterTags, TagsPassed.after_tags, declared.token.TokenFault.TokenFault}
use Rattle.pgn_tokens.specs.Tokens.{Token, tokens_from}
use Rattle.pgn_tokens.specs.declared.token.TokenFault.TheVariants as fault

-- the tokens after the tags are not changed by one token more, in front, that may come among tags
pub tags_on : (t : ℕ × Token) (rest : List (ℕ × Token)) → true ≡ may_precede_tags t.1
    → after_tags (t ∷ rest) ≡ after_tags rest
tags_on t rest may =
    let n = prefix_len (λ u. may_precede_tags u.1) rest in
    ap (λ b. drop (length (take (cond b (1 + n) 0) (t ∷ rest))) (t ∷ rest)) (sym may)
    ∙ ap (λ k. drop (length (take k (t ∷ rest))) (t ∷ rest)) (one-add n)

-- a token that can't come among tags is the first after them
pub tags_end : (t : ℕ × Token) (rest : List (ℕ × Token)) → may_precede_tags t.1 ≡ false
    → after_tags (t ∷ rest) ≡ t ∷ rest
tags_end t rest h =
    ap (λ b. drop (length (take (cond b (1 + prefix_len (λ u. may_precede_tags u.1) rest) 0) (t ∷ rest))) (t ∷ rest)) h

-- the loop at the offset `here`, begun at `from`: the tokens after the tags are the same from either
pub record PassesTags (text : List ℕ) (from here : ℕ) : Type 0 where
  pub offset : here ≤ length text
  pub whole : after_tags (tokens_from text here) ≡ after_tags (tokens_from text from)

-- a token that may come among tags is passed over
pub passes_on : (text : List ℕ) (from here tail : ℕ) (t : Token) → PassesTags text from here
    → tokens_from text here ≡ (length text - here, t) ∷ tokens_from text tail → tail ≤ length text
    → true ≡ may_precede_tags t → PassesTags text from tail
passes_on text from here tail t r is inside may = record {
  offset = inside;
  whole = sym (ap after_tags is ∙ tags_on (length text - here, t) (tokens_from text tail) may) ∙ r.whole;
}

-- a token that can't come among tags ends them: they end `here`
pub passed_all : (text : List ℕ) (from here : ℕ) (t : Token) (rest : List (ℕ × Token)) → PassesTags text from here
    → tokens_from text here ≡ (length text - here, t) ∷ rest → may_precede_tags t ≡ false → IsAfterTags text from here
passed_all text from here t rest r is ends =
    sym r.whole ∙ ap after_tags is ∙ tags_end (length text - here, t) rest ends ∙ sym is

-- the text's end ends them too
pub passed_to_end : (text : List ℕ) (from here : ℕ) → PassesTags text from here → tokens_from text here ≡ []
    → IsAfterTags text from here
passed_to_end text from here r is = sym r.whole ∙ ap after_tags is ∙ sym is

-- and what can't be read, as it is a token that can't come among tags
pub no_tag : (f : TokenFault) → may_precede_tags (fault_seen f) ≡ false
no_tag fault.BadTag = refl
no_tag (fault.UnclosedComment left) = refl
no_tag fault.UnclosedVariation = refl
no_tag fault.BadByte = refl
