-- Passing over the tags, comments, glyphs, dots and marks with which a line's front begins, one by one: after one of
-- them one fewer may be passed (one_fewer). Where none begins (no_part), or no more may be passed, the text stays
-- (stays, stays_without_more). The first part is a tag, from whose name on the code reads (at_tag).
use Rattle.std.proofs.Common.{◌≡◌, ℕ, zero, suc, Bool, true, false, ◌&&◌, ◌||◌, ◌==◌, if◌then◌else◌, List, [], ◌∷◌, take, Option, Some, None, codes, refl, sym, ap, ◌∙◌}
use Rattle.std.specs.List.{list_any}
use Rattle.std.specs.Option.{option_map, option_map_or}
use Rattle.pgn_pieces.specs.{Pieces.after_name, Pieces.after_part, Pieces.after_parts, Pieces.begins_tag, ties.Fronts.after_value, ties.Fronts.without_blanks}

pub stays : (most : ℕ) (text : List ℕ) → None ≡ after_part text → after_parts most text ≡ text
unfolding after_parts
stays zero text none = refl
stays (suc more) text none = ap (λ (part : Option (List ℕ)). option_map_or (after_parts more) part text) (sym none)

pub stays_without_more : (most : ℕ) (text : List ℕ) → most ≡ 0 → after_parts most text ≡ text
unfolding after_parts
stays_without_more zero text h = refl
stays_without_more (suc more) text h = absurd (cc)

pub one_fewer : (most more : ℕ) (text next : List ℕ) → most ≡ suc more → Some next ≡ after_part text
    → after_parts more next ≡ after_parts most text
unfolding after_parts
one_fewer most more text next is some =
    sym (ap (λ (n : ℕ). after_parts n text) is
    ∙ ap (λ (part : Option (List ℕ)). option_map_or (after_parts more) part text) (sym some))

if_tag : (tag : Bool) (x y : Option (List ℕ)) → tag ≡ true
    → option_map without_blanks x ≡ option_map without_blanks (if tag then x else y)
if_tag tag x y is = sym (ap (λ b. option_map without_blanks (if b then x else y)) is)

pub at_tag : (text : List ℕ) → begins_tag text ≡ true → after_value (after_name text) ≡ after_part text
at_tag text tag = if_tag (begins_tag text) _ _ tag

if_none : (bracket name quote brace glyph dot good poor : Bool) (tag comment glyphs mark : Option (List ℕ))
    → ((bracket || (brace || (glyph || (dot || (good || (poor || false)))))) || false) ≡ false
    → None ≡ option_map without_blanks (if (bracket && true) && name && quote then tag
    else (if brace && true then comment else (if glyph && true then glyphs
    else (if (dot || (good || (poor || false))) || false then mark else None))))
if_none true name quote brace glyph dot good poor tag comment glyphs mark none = absurd (cc)
if_none false name quote true glyph dot good poor tag comment glyphs mark none = absurd (cc)
if_none false name quote false true dot good poor tag comment glyphs mark none = absurd (cc)
if_none false name quote false false true good poor tag comment glyphs mark none = absurd (cc)
if_none false name quote false false false true poor tag comment glyphs mark none = absurd (cc)
if_none false name quote false false false false true tag comment glyphs mark none = absurd (cc)
if_none false name quote false false false false false tag comment glyphs mark none = refl

-- where none of these bytes comes first, no tag, comment, glyph, dot or mark begins
pub no_part : (text : List ℕ) → list_any (λ c. list_any (λ k. c == k) (codes "[{$.!?")) (take 1 text) ≡ false
    → None ≡ after_part text
no_part [] none = refl
no_part (c ∷ rest) none =
    if_none (c == 91) _ _ (c == 123) (c == 36) (c == 46) (c == 33) (c == 63) _ _ _ _ none
