-- For `next_tag` and the iterator over a game's tags. The tags that are left from an offset on (`tags_left`) are the
-- tag of the next token, if it is one, and then those from after it and what is skipped (tags_more). So a round of the
-- loop keeps its invariant (Reads), if the token is no tag (goes_on), and otherwise returns the first of the tags left
-- (found_tag).
use Rattle.std.proofs.Common.{◌≡◌, ◌≤◌, ℕ, suc, ◌+◌, ◌-◌, Bool, true, false, cond, List, [], ◌∷◌, ◌++◌, length, map, take, Option, Some, None, refl, sym, ap, ◌∙◌, arith, option_map}
use Rattle.std.specs.List.{cons_option, filter_map, prefix_len}
use Rattle.pgn_tokens.specs.{declared.tag_list.PgnTag.PgnTag, GameTags.tag_pair, GameTags.pair_of, GameTags.game_tags_of, LastTags.may_precede_tags, Tokens.Token, Tokens.Skip, Tokens.tokens_from, Seen.SkipsTo, ties.TagsLeft.tags_left}

-- the tags from a token on: its own, if it is a tag, and those after it; none, if no tag may come after it
tags_step : (total : ℕ) (t : ℕ × Token) (ts : List (ℕ × Token))
    → game_tags_of total (t ∷ ts)
    ≡ cond (may_precede_tags t.1) (cons_option (tag_pair total t.1) (game_tags_of total ts)) []
tags_step total t ts = by_test (may_precede_tags t.1)
  where
    n : ℕ
    n = prefix_len (λ u. may_precede_tags u.1) ts

    by_test : (b : Bool) → filter_map (λ u. tag_pair total u.1) (take (cond b (1 + n) 0) (t ∷ ts))
        ≡ cond b (cons_option (tag_pair total t.1) (game_tags_of total ts)) []
    by_test true =
        let next : 1 + n ≡ suc n = omega arith in
        rw next refl
    by_test false = refl

-- at what is skipped there is no tag
tags_on : (total : ℕ) (lefts : List ℕ) (ts : List (ℕ × Token))
    → game_tags_of total (map (λ left. (left, Skip)) lefts ++ ts) ≡ game_tags_of total ts
tags_on total [] ts = refl
tags_on total (left ∷ lefts) ts =
    tags_step total (left, Skip) (map (λ left. (left, Skip)) lefts ++ ts) ∙ tags_on total lefts ts

-- so they are the same from before and from after what is skipped
pub tags_skipped : (text : List ℕ) (a b : ℕ) → SkipsTo text a b → tags_left text a ≡ tags_left text b
tags_skipped text a b so = ap (game_tags_of (length text)) so.1 ∙ tags_on (length text) so.0 (tokens_from text b)

-- the tags from a token on that may come before others, from those after it and what is skipped then
pub tags_more : (text : List ℕ) (at tail after : ℕ) (t : Token)
    → tokens_from text at ≡ (length text - at, t) ∷ tokens_from text tail → true ≡ may_precede_tags t
    → SkipsTo text tail after → tags_left text at ≡ cons_option (tag_pair (length text) t) (tags_left text after)
tags_more text at tail after t is may skips =
    ap (game_tags_of (length text)) is ∙ tags_step (length text) (length text - at, t) (tokens_from text tail)
    ∙ ap (λ b. cond b (cons_option (tag_pair (length text) t) (tags_left text tail)) []) (sym may)
    ∙ ap (cons_option (tag_pair (length text) t)) (tags_skipped text tail after skips)

-- ---- the loop of `next_tag`

-- reading on from `here` gives the tags from `from` on
pub record Reads (text : List ℕ) (from here : ℕ) : Type 0 where
  pub offset : here ≤ length text
  pub whole : tags_left text here ≡ tags_left text from

-- one round, at the token `t`: its tag is returned, or the loop goes on at `after`
module _ (text : List ℕ) (from here tail after : ℕ) (t : Token) (found : Option PgnTag) (r : Reads text from here)
    (is : tokens_from text here ≡ (length text - here, t) ∷ tokens_from text tail) (may : true ≡ may_precede_tags t)
    (same : option_map pair_of found ≡ tag_pair (length text) t)
  where
    here_on : SkipsTo text tail after
        → tags_left text here ≡ cons_option (option_map pair_of found) (tags_left text after)
    here_on skips = tags_more text here tail after t is may skips
        ∙ ap (λ o. cons_option o (tags_left text after)) (sym same)

    pub goes_on : found ≡ None → SkipsTo text tail after → after ≤ length text → Reads text from after
    goes_on none skips within = record {
      offset = within;
      whole = sym (here_on skips ∙ ap (λ o. cons_option (option_map pair_of o) (tags_left text after)) none) ∙ r.whole;
    }

    pub found_tag : (tag : PgnTag) → found ≡ Some tag → SkipsTo text tail after
        → tags_left text from ≡ pair_of tag ∷ tags_left text after
    found_tag tag some skips = sym r.whole ∙ here_on skips
        ∙ ap (λ o. cons_option (option_map pair_of o) (tags_left text after)) some
