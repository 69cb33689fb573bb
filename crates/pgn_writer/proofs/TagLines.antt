-- For the loop of `put_tags`, which puts a line for each tag: after tag i the lines of the first i + 1 tags were added
-- (tags_more); where the writer fails at a line, it took a beginning of the lines of all tags (tags_break).
use Rattle.std.proofs.Common.{◌≡◌, ℕ, ◌+◌, ◌<◌, List, [], ◌∷◌, ◌++◌, length, get_or, take, refl, sym, ap, subst, ◌∙◌, flat_map}
use Rattle.byte_devices.specs.Devices.{OutputState, CutShort}
use Rattle.pgn_writer.specs.{ties.Waiting.TookSome, Written.tag_line, Written.ended, ties.TagLines.tag_lines_of, declared.tags.TagPair.TagPair}
use Rattle.pgn_writer.proofs.Added.{parts_more, parts_break}

-- the text of a tag's line, after the prefix and with its `\n`
abbrev ended_tag : List ℕ → TagPair → List ℕ
ended_tag prefix t = prefix ++ tag_line t.name.now t.text.now ++ 10 ∷ []

-- these texts one after the other are the text of the lines of all tags
ended_tags : (prefix : List ℕ) (tags : List TagPair)
    → flat_map (ended_tag prefix) tags ≡ ended prefix (tag_lines_of tags)
ended_tags prefix [] = refl
ended_tags prefix (t ∷ tags) = ap (λ text. ended_tag prefix t ++ text) (ended_tags prefix tags)

-- the line that is put in round i, after the prefix, is that of tag i
line_is : (prefix before line : List ℕ) (tags : List TagPair) (i : ℕ) (t : TagPair) → before ≡ prefix
    → line ≡ tag_line t.name.now t.text.now → t ≡ get_or tags i t
    → before ++ line ++ 10 ∷ [] ≡ ended_tag prefix (get_or tags i t)
line_is prefix before line tags i t p l is = ap (λ xs. xs ++ line ++ 10 ∷ []) p ∙ ap (λ xs. prefix ++ xs ++ 10 ∷ []) l
    ∙ ap (ended_tag prefix) is

-- the lines of the first i tags were added, and then that of tag i
pub tags_more : (a b c : OutputState) (w x y prefix before line : List ℕ) (tags : List TagPair) (i : ℕ) (t : TagPair)
    → i < length tags → before ≡ prefix → line ≡ tag_line t.name.now t.text.now → t ≡ get_or tags i t
    → TookSome a b w x (ended prefix (tag_lines_of (take i tags))) → TookSome b c x y (before ++ line ++ 10 ∷ [])
    → TookSome a c w y (ended prefix (tag_lines_of (take (i + 1) tags)))
tags_more a b c w x y prefix before line tags i t h p l is so_far next =
    subst (TookSome a c w y) (ended_tags prefix (take (i + 1) tags))
    (parts_more a b c w x y (ended_tag prefix) tags i t h
    (subst (TookSome a b w x) (sym (ended_tags prefix (take i tags))) so_far)
    (subst (TookSome b c x y) (line_is prefix before line tags i t p l is) next))

-- the lines of the first i tags were added, and the writer failed at that of tag i
pub tags_break : (a b c : OutputState) (w x prefix before line : List ℕ) (tags : List TagPair) (i : ℕ) (t : TagPair)
    → i < length tags → before ≡ prefix → line ≡ tag_line t.name.now t.text.now → t ≡ get_or tags i t
    → TookSome a b w x (ended prefix (tag_lines_of (take i tags))) → CutShort b c (x ++ (before ++ line ++ 10 ∷ []))
    → CutShort a c (w ++ ended prefix (tag_lines_of tags))
tags_break a b c w x prefix before line tags i t h p l is so_far broke =
    subst (λ text. CutShort a c (w ++ text)) (ended_tags prefix tags)
    (parts_break a b c w x (ended_tag prefix) tags i t h
    (subst (TookSome a b w x) (sym (ended_tags prefix (take i tags))) so_far)
    (subst (λ text. CutShort b c (x ++ text)) (line_is prefix before line tags i t p l is) broke))
