-- The definition of a tag (`tag_at`, in do-notation) reads the same as the one by its parts (`tag_by_parts`), which the
-- code mirrors: name, opening quote, string, `]` (parts_are). The helpers below are the definition's steps from each
-- part on.
use Rattle.std.proofs.Common.{◌≡◌, ℕ, false, cond, eqb, List, [], ◌∷◌, length, drop, Option, Some, None, refl, ap, ◌∙◌, arith, length-take-le, option_and_then, unwrap_or}
use Rattle.std.proofs.{lemmas.Bool.Decides.nat_tests, lemmas.List.Sums.prefix_len-le-length}
use Rattle.std.specs.List.{prefix_len, take_while}
use Rattle.pgn_tokens.specs.Tokens.{Token, Tag, Bad_tag, after_gap, after_next, string_at, tag_at}
use Rattle.byte_devices.specs.Bytes.{is_name_byte}
use Rattle.pgn_tokens.specs.shared.TagParts.{closed, with_text, with_string, with_tag_name, tag_by_parts}

-- the rest of `tag_at` once the string is found; then the same from the opening quote on, and from the name on
abbrev after_string : List ℕ → ℕ → List ℕ × List ℕ → Option (Token × List ℕ)
after_string name left inside =
    option_and_then (λ rest. Some (Tag name inside.0 left, rest)) (after_next 93 inside.1)

abbrev after_quote : List ℕ → List ℕ → Option (Token × List ℕ)
after_quote name string = option_and_then (after_string name (length string)) (string_at string)

abbrev after_name : List ℕ × List ℕ → Option (Token × List ℕ)
after_name name = option_and_then (after_quote name.0) (after_next 34 name.1)

-- a bad tag, and no text after it, for `None`
abbrev or_bad : Option (Token × List ℕ) → Token × List ℕ
or_bad tag = unwrap_or tag (Bad_tag, [])

-- what follows is the same in both, from the closing bracket on; then from the string, from the opening quote and from
-- the name on
by_bracket : (name text : List ℕ) (left : ℕ) (o : Option (List ℕ))
    → or_bad (option_and_then (λ rest. Some (Tag name text left, rest)) o) ≡ closed name left text o
by_bracket name text left None = refl
by_bracket name text left (Some rest) = refl

by_text : (name : List ℕ) (left : ℕ) (o : Option (List ℕ × List ℕ))
    → or_bad (option_and_then (after_string name left) o) ≡ with_text name left o
by_text name left None = refl
by_text name left (Some inside) = by_bracket name inside.0 left (after_next 93 inside.1)

by_string : (name : List ℕ) (o : Option (List ℕ)) → or_bad (option_and_then (after_quote name) o) ≡ with_string name o
by_string name None = refl
by_string name (Some string) = by_text name (length string) (string_at string)

by_name : (name rest : List ℕ)
    → or_bad (option_and_then after_name (cond (eqb (length name) 0) None (Some (name, rest))))
    ≡ with_tag_name name rest
by_name [] rest = refl
by_name (n ∷ ns) rest =
    let some : eqb (length (n ∷ ns)) 0 ≡ false = grind (arith, nat_tests) in
    ap (λ b. or_bad (option_and_then after_name (cond b None (Some (n ∷ ns, rest))))) some
    ∙ by_string (n ∷ ns) (after_next 34 rest)

pub parts_are : (text : List ℕ) → unwrap_or (tag_at text) (Bad_tag, []) ≡ tag_by_parts text
parts_are text = by_inner (after_gap text)
  where
    by_inner : (inner : List ℕ)
        → or_bad (option_and_then after_name (cond (eqb (length (take_while is_name_byte inner)) 0) None
        (Some (take_while is_name_byte inner, drop (length (take_while is_name_byte inner)) inner))))
        ≡ with_tag_name (take_while is_name_byte inner) (drop (prefix_len is_name_byte inner) inner)
    by_inner inner =
        by_name (take_while is_name_byte inner) (drop (length (take_while is_name_byte inner)) inner)
        ∙ ap (λ n. with_tag_name (take_while is_name_byte inner) (drop n inner))
        (length-take-le (prefix_len is_name_byte inner) inner (prefix_len-le-length is_name_byte inner))
