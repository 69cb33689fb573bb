-- For `game_end`. In the loop of `end_after_tags`, which looks for the first token that ends a game, the first end from
-- here on is the first one of all (Seeks, the invariant), and this is the game's, as all its tags come before (end_is).
-- Then: a game's end is in the text and after the offset where the game begins (end_in_text), by induction on the
-- tokens.
use Rattle.std.proofs.Common.{◌≡◌, ◌≤◌, ◌<◌, ℕ, zero, suc, ◌+◌, ◌-◌, Bool, true, false, cond, List, [], ◌∷◌, length, take, drop, Option, Some, None, IfSome, refl, sym, ap, subst, ◌∙◌, one-add, arith, rules, option_map, length-drop, slice_get, ◌==◌}
use Rattle.std.specs.List.{cons_option, filter_map, prefix_len}
use Rattle.byte_devices.specs.Bytes.{after_byte_order_mark}
use Rattle.chess_game.specs.declared.results.Outcome.{Outcome}
use Rattle.chess_pgn.specs.{GameEnds.ends_at, GameEnds.game_end}
use Rattle.pgn_tokens.specs.{LastTags.may_precede_tags, TagsPassed.IsAfterTags, TagsPassed.after_tags, declared.token.TokenFault.TokenFault, shared.Places.IsWithin, Seen.fault_seen}
use Rattle.pgn_tokens.specs.Tokens.{Token, Skip, Tag, Word, Bad_tag, Unclosed_comment, Unclosed_variation, Bad, token_at, tokens_of, begins_line, tokens_from}
use Rattle.pgn_tokens.specs.declared.token.TokenFault.TheVariants as fault
use Rattle.pgn_tokens.proofs.shared.Tags.{tags_end, tags_on}
use Rattle.pgn_tokens.proofs.shared.Tokens.{not_before, within, shorter}
use Rattle.pgn_writer.specs.Outcomes.{outcome_of}

outcome_has_bytes : (word : List ℕ) (o : Outcome) → Some o ≡ outcome_of word → 0 < length word
outcome_has_bytes [] o h = cc
outcome_has_bytes (c ∷ word) o h = search rules

-- ---- the end

-- where the first of these tokens that ends a game does so; `None` if none does. The number is the text's length
abbrev pub first_end : ℕ → List (ℕ × Token) → Option ℕ
first_end total tokens = slice_get (filter_map (ends_at total) tokens) 0

-- the loop at the offset `here`, begun at `begin`: the first end of a game is the same from either
pub record Seeks (text : List ℕ) (begin here : ℕ) : Type 0 where
  pub offset : here ≤ length text
  pub whole : first_end (length text) (tokens_from text here) ≡ first_end (length text) (tokens_from text begin)

-- a round of the loop, at the first token from `here` on
module _ (text : List ℕ) (begin here : ℕ) (r : Seeks text begin here) where
  module _ (t : Token) (rest : List (ℕ × Token)) (is : tokens_from text here ≡ (length text - here, t) ∷ rest) where
    here_on : first_end (length text) (tokens_from text begin)
        ≡ slice_get (cons_option (ends_at (length text) (length text - here, t))
        (filter_map (ends_at (length text)) rest)) 0
    here_on = sym r.whole ∙ ap (first_end (length text)) is

    -- the token ends the game
    pub found : (end : ℕ) → ends_at (length text) (length text - here, t) ≡ Some end
        → first_end (length text) (tokens_from text begin) ≡ Some end
    found end ends = here_on
        ∙ ap (λ o. slice_get (cons_option o (filter_map (ends_at (length text)) rest)) 0) ends

    -- it does not
    passed_over : ends_at (length text) (length text - here, t) ≡ None
        → first_end (length text) rest ≡ first_end (length text) (tokens_from text begin)
    passed_over none = sym (here_on
        ∙ ap (λ o. slice_get (cons_option o (filter_map (ends_at (length text)) rest)) 0) none)

  pub seeks_on : (tail : ℕ) (t : Token)
      → tokens_from text here ≡ (length text - here, t) ∷ tokens_from text tail → tail ≤ length text
      → ends_at (length text) (length text - here, t) ≡ None → Seeks text begin tail
  seeks_on tail t is inside none = record {
    offset = inside;
    whole = passed_over t (tokens_from text tail) is none;
  }

  -- none is found up to the text's end
  pub none_to_end : tokens_from text here ≡ [] → first_end (length text) (tokens_from text begin) ≡ None
  none_to_end is = sym r.whole ∙ ap (first_end (length text)) is

  -- or up to what can't be read
  pub none_readable : (f : TokenFault) → tokens_from text here ≡ (length text - here, fault_seen f) ∷ []
      → first_end (length text) (tokens_from text begin) ≡ None
  none_readable f is = here_on (fault_seen f) [] is ∙ by_fault f
    where
      by_fault : (f : TokenFault)
          → slice_get (cons_option (ends_at (length text) (length text - here, fault_seen f)) []) 0 ≡ None
      by_fault fault.BadTag = refl
      by_fault (fault.UnclosedComment left) = refl
      by_fault fault.UnclosedVariation = refl
      by_fault fault.BadByte = refl

-- the first end among the tokens after a game's tags is the game's end
pub end_is : (text : List ℕ) (from begin : ℕ) (end : Option ℕ) → IsAfterTags text from begin
    → end ≡ first_end (length text) (tokens_from text begin)
    → end ≡ game_end (length text) (tokens_from text from)
end_is text from begin end after is = is ∙ ap (first_end (length text)) (sym after)

-- ---- in the text

-- the end, if there is one, is from `low` to `total`
abbrev EndsFrom : ℕ → ℕ → Option ℕ → Type 0
EndsFrom low total end = IfSome end (λ e. (low ≤ e) × (e ≤ total))

-- `EndsFrom` stays true if `low` is made smaller
raised : (low high total : ℕ) (end : Option ℕ) → low ≤ high → EndsFrom high total end → EndsFrom low total end
raised low high total None h k = tt
raised low high total (Some e) h k = let there = k.0 in (omega (arith, h, there), k.1)

-- of two ends in these bounds the first is
first_of : (low total : ℕ) (end : Option ℕ) (later : List ℕ) → EndsFrom low total end
    → EndsFrom low total (slice_get later 0) → EndsFrom low total (slice_get (cons_option end later) 0)
first_of low total None later h k = k
first_of low total (Some e) later h k = h

-- a token ends a game at its own offset (a tag) or after its word, so not before its offset, and in the text
token_ends : (total left : ℕ) (t : Token) → left ≤ total → IsWithin left t
    → EndsFrom (total - left) total (ends_at total (left, t))
token_ends total left Skip h w = tt
token_ends total left (Tag name text n) h w = (omega arith, omega (arith, h))
token_ends total left (Word word) h w = by_outcome (outcome_of word)
  where
    by_outcome : (o : Option Outcome)
        → EndsFrom (total - left) total (option_map (λ outcome. total - left + length word) o)
    by_outcome None = tt
    by_outcome (Some o) = (omega arith, omega (arith, h, w))
token_ends total left Bad_tag h w = tt
token_ends total left (Unclosed_comment n) h w = tt
token_ends total left Unclosed_variation h w = tt
token_ends total left Bad h w = tt

-- a token that can't be among a game's tags ends the game after its own first byte
begun_ends : (total left : ℕ) (t : Token) → left ≤ total → IsWithin left t → may_precede_tags t ≡ false
    → EndsFrom (total - left + 1) total (ends_at total (left, t))
begun_ends total left Skip h w ends = tt
begun_ends total left (Tag name text n) h w ends = absurd (cc)
begun_ends total left (Word word) h w ends = by_outcome (outcome_of word) refl
  where
    by_outcome : (o : Option Outcome) → o ≡ outcome_of word
        → EndsFrom (total - left + 1) total (option_map (λ outcome. total - left + length word) o)
    by_outcome None e = tt
    by_outcome (Some o) e =
        let some = outcome_has_bytes word o e in (omega (arith, some), omega (arith, h, w))
begun_ends total left Bad_tag h w ends = tt
begun_ends total left (Unclosed_comment n) h w ends = tt
begun_ends total left Unclosed_variation h w ends = tt
begun_ends total left Bad h w ends = tt

-- the first end among a text's tokens is in the text; by induction on the tokens
tokens_end : (total most : ℕ) (b : Bool) (rest : List ℕ) → length rest ≤ total
    → EndsFrom (total - length rest) total (first_end total (tokens_of most b rest))
unfolding tokens_of
tokens_end total zero b rest h = tt
tokens_end total (suc most) b [] h = tt
tokens_end total (suc most) b (c ∷ rest) h =
    let t : Token × List ℕ = token_at b c rest in
    let few = shorter b c rest in
    let later : List (ℕ × Token) = tokens_of most (c == 10) t.1 in
    first_of (total - suc (length rest)) total (ends_at total (suc (length rest), t.0))
    (filter_map (ends_at total) later)
    (token_ends total (suc (length rest)) t.0 h (within b c rest))
    (raised (total - suc (length rest)) (total - length t.1) total (first_end total later) (omega (arith, few))
    (tokens_end total most (c == 10) t.1 (omega (arith, h, few))))

-- one token more in front of a game's, by whether it may come among tags
by_tags : (low total left : ℕ) (t : Token) (later : List (ℕ × Token)) (may : Bool) → may_precede_tags t ≡ may
    → EndsFrom low total (first_end total (after_tags later))
    → (may_precede_tags t ≡ false → EndsFrom low total (first_end total ((left, t) ∷ later)))
    → EndsFrom low total (first_end total (after_tags ((left, t) ∷ later)))
by_tags low total left t later true e more ends =
    subst (λ ts. EndsFrom low total (first_end total ts)) (sym (tags_on (left, t) later (sym e))) more
by_tags low total left t later false e more ends =
    subst (λ ts. EndsFrom low total (first_end total ts)) (sym (tags_end (left, t) later e)) (ends e)

-- the first end after a game's tags is after the game's first byte
game_ends : (total most : ℕ) (b : Bool) (rest : List ℕ) → length rest ≤ total
    → EndsFrom (total - length rest + 1) total (first_end total (after_tags (tokens_of most b rest)))
unfolding tokens_of
game_ends total zero b rest h = tt
game_ends total (suc most) b [] h = tt
game_ends total (suc most) b (c ∷ rest) h =
    let t : Token × List ℕ = token_at b c rest in
    let few = shorter b c rest in
    let later : List (ℕ × Token) = tokens_of most (c == 10) t.1 in
    by_tags (total - suc (length rest) + 1) total (suc (length rest)) t.0 later (may_precede_tags t.0) refl
    (raised (total - suc (length rest) + 1) (total - length t.1 + 1) total (first_end total (after_tags later))
    (omega (arith, few, h)) (game_ends total most (c == 10) t.1 (omega (arith, h, few))))
    (λ e. first_of (total - suc (length rest) + 1) total (ends_at total (suc (length rest), t.0))
    (filter_map (ends_at total) later) (begun_ends total (suc (length rest)) t.0 h (within b c rest) e)
    (raised (total - suc (length rest) + 1) (total - length t.1) total (first_end total later)
    (omega (arith, few, h)) (tokens_end total most (c == 10) t.1 (omega (arith, h, few)))))

-- a game's end is in the text, after the offset where the game begins
pub end_in_text : (text : List ℕ) (at : ℕ) → at ≤ length text
    → IfSome (game_end (length text) (tokens_from text (after_byte_order_mark text at)))
    (λ e. (at < e) × (e ≤ length text))
unfolding tokens_from
end_in_text text at h =
    let begin : ℕ = after_byte_order_mark text at in
    let marked = not_before text at h in
    let left = length-drop begin text in
    by_end (game_end (length text) (tokens_from text begin))
    (game_ends (length text) (length text) (begins_line text begin) (drop begin text) (omega (arith, left)))
  where
    by_end : (end : Option ℕ)
        → EndsFrom (length text - length (drop (after_byte_order_mark text at) text) + 1) (length text) end
        → IfSome end (λ e. (at < e) × (e ≤ length text))
    by_end None k = tt
    by_end (Some e) k =
        let marked = not_before text at h in
        let left = length-drop (after_byte_order_mark text at) text in
        let low = k.0 in (omega (arith, marked.0, marked.1, left, low), k.1)

module _ (text : List ℕ) (at : ℕ) (end : Option ℕ) (h : at ≤ length text)
    (is : end ≡ game_end (length text) (tokens_from text (after_byte_order_mark text at)))
  where
    there : IfSome end (λ e. (at < e) × (e ≤ length text))
    there = subst (λ o. IfSome o (λ e. (at < e) × (e ≤ length text))) (sym is) (end_in_text text at h)

    pub is_later : IfSome end (λ e. at < e)
    is_later = by_end end there
      where
        by_end : (o : Option ℕ) → IfSome o (λ e. (at < e) × (e ≤ length text)) → IfSome o (λ e. at < e)
        by_end None k = tt
        by_end (Some e) k = k.0

    pub is_within : IfSome end (λ e. e ≤ length text)
    is_within = by_end end there
      where
        by_end : (o : Option ℕ) → IfSome o (λ e. (at < e) × (e ≤ length text)) → IfSome o (λ e. e ≤ length text)
        by_end None k = tt
        by_end (Some e) k = k.1
