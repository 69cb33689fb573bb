-- A text's split into tokens (IsSplit, of specs/Split) is the same as its split by kinds (IsSplitByKinds), where each
-- token comes with its kind. The latter is the one that is read (TokenSplits), so a text has exactly one split
-- (split_read, read_split).
use Rattle.std.proofs.Common.{◌≡◌, ℕ, ◌+◌, ◌-◌, ◌≤◌, Bool, true, List, [], ◌∷◌, ◌++◌, length, drop, Option, Some, None, refl, sym, ap, subst, ◌∙◌, inl, inr, append_assoc, length-append, arith}
use Rattle.std.proofs.lemmas.List.{nil_from_length}
use Rattle.pgn_tokens.specs.Tokens.{Token, Skip, Tag, Word, Bad_tag, Unclosed_comment, Unclosed_variation, Bad, after_brace, begins_line, tokens_from}
use Rattle.pgn_tokens.specs.Split.{lacks, HasOpenComment, IsToken, blank, line, comment, glyph, variation, tag, asterisk, word, IsFaultOf, inner_comment, other, IsSplit, ended, token, stopped}
use Rattle.pgn_tokens.specs.shared.Kinds as kinds
use Rattle.pgn_tokens.specs.shared.Kinds.{Kind, Blank, Line, Comment, Nag, Variation, Tag_pair, Asterisk, Symbol, IsOf, IsLongest, token_of, HasNoToken, HasUnclosedComment, IsFault, IsSplitByKinds}
use Rattle.pgn_tokens.proofs.{ByteRuns.BraceSays, ByteRuns.brace_says, TokenKinds.longest_of_all, TokenSplits.read_kinds, TokenSplits.kinds_read}

-- ---- a token, and one of its kind

-- a text of a kind is the token of that kind
of_kind : (b : Bool) (left : ℕ) (kind : Kind) (front : List ℕ) → IsOf b kind front
    → IsToken b left front (token_of kind front left)
of_kind b left Blank front (c, is, h) = subst (λ xs. IsToken b left xs Skip) (sym is) (blank h)
of_kind b left Line front (c, rest, is, skip, lack) =
    subst (λ xs. IsToken b left xs Skip) (sym is) (line skip lack)
of_kind b left Comment front (body, is, lack) = subst (λ xs. IsToken b left xs Skip) (sym is) (comment body lack)
of_kind b left Nag front (digits, is, all) = subst (λ xs. IsToken b left xs Skip) (sym is) (glyph all)
of_kind b left Variation front (body, is, h) = subst (λ xs. IsToken b left xs Skip) (sym is) (variation h)
of_kind b left (Tag_pair name string closing) front (opening, o, s, close, is) =
    subst (λ xs. IsToken b left xs (Tag name string (length (string ++ closing) + left))) (sym is)
    (tag o s close.1 close.2)
of_kind b left Asterisk front is = subst (λ xs. IsToken b left xs (Word xs)) (sym is) asterisk
of_kind b left Symbol front h = word h.0 h.1

-- `front` is a text of some kind, and `t` is the token of that kind
record HasKind (b : Bool) (left : ℕ) (front : List ℕ) (t : Token) : Type 0 where
  kind : Kind
  is_of : IsOf b kind front
  is : t ≡ token_of kind front left

-- a token has a kind
kind_of : {b : Bool} {left : ℕ} {front : List ℕ} {t : Token} → IsToken b left front t → HasKind b left front t
kind_of (blank {c} h) = record { kind = Blank; is_of = (c, refl, h); is = refl }
kind_of (line {c} {text} skip lack) = record { kind = Line; is_of = (c, text, refl, skip, lack); is = refl }
kind_of (comment text lack) = record { kind = Comment; is_of = (text, refl, lack); is = refl }
kind_of (glyph {digits} all) = record { kind = Nag; is_of = (digits, refl, all); is = refl }
kind_of (variation {inner} h) = record { kind = Variation; is_of = (inner, refl, h); is = refl }
kind_of (tag {name} {opening} {string} {gap} {closing} o s g close) = record {
  kind = Tag_pair name string closing;
  is_of = (opening, o, s, (gap, g, close), refl);
  is = refl;
}
kind_of asterisk = record { kind = Asterisk; is_of = refl; is = refl }
kind_of (word {text} some all) = record { kind = Symbol; is_of = (some, all); is = refl }

-- ---- faults

-- a fault by one definition is a fault by the other, by the text's first byte
fault_by_first : (text : List ℕ) (fault : Token) → IsFault text fault → IsFaultOf text fault
fault_by_first text (Unclosed_comment n) (inl (body, is, lack, here)) =
    subst (λ m. IsFaultOf text (Unclosed_comment m)) (sym here)
    (subst (λ xs. IsFaultOf xs (Unclosed_comment (length xs))) (sym is) comment)
fault_by_first text (Unclosed_comment n) (inr (inner, is, h)) =
    subst (λ xs. IsFaultOf xs (Unclosed_comment n)) (sym is) (inner_comment h)
fault_by_first text Unclosed_variation ((inner, is), none) =
    subst (λ xs. IsFaultOf xs Unclosed_variation) (sym is) (variation (λ n h. none n (inr (inner, is, h))))
fault_by_first text Bad_tag (rest, is) = subst (λ xs. IsFaultOf xs Bad_tag) (sym is) tag
fault_by_first text Bad (c, rest, is, none) = subst (λ xs. IsFaultOf xs Bad) (sym is) (other none)
fault_by_first text Skip h = absurd h
fault_by_first text (Tag name string left) h = absurd h
fault_by_first text (Word bytes) h = absurd h

-- a text that begins with `{` (byte 123) and with no token has no `}`
no_brace : (b : Bool) (text : List ℕ) → HasNoToken b (123 ∷ text) → (o : Option (List ℕ)) → BraceSays text o
    → lacks 125 text ≡ true
no_brace b text none None lack = lack
no_brace b text none (Some r) found =
    absurd (none Comment (123 ∷ (found.inside ++ 125 ∷ [])) r
    (ap (λ xs. 123 ∷ xs) (found.is ∙ sym (append_assoc found.inside (125 ∷ []) r)))
    (found.inside, refl, found.lacks_brace))

-- no comment inside a variation is open, so a text that begins with the variation's `(` (byte 40) has no unclosed
-- comment
none_inside : (inner : List ℕ) → ((n : ℕ) → HasOpenComment inner n → ⊥) → (n : ℕ)
    → HasUnclosedComment (40 ∷ inner) n → ⊥
none_inside inner none n (inl (body, is, lack, here)) =
    let clash : ◌≡◌ {A = ℕ} 40 123 = cc in absurd (omega (arith, clash))
none_inside inner none n (inr (others, is, h)) =
    let same : others ≡ inner = cc in none n (subst (λ xs. HasOpenComment xs n) same h)

-- the other way round, for a text that begins with no token
fault_of_kinds : {text : List ℕ} {fault : Token} → IsFaultOf text fault → (b : Bool) → HasNoToken b text
    → IsFault text fault
fault_of_kinds (comment {text}) b none =
    inl (text, refl, no_brace b text none (after_brace text) (brace_says text), refl)
fault_of_kinds (inner_comment {text} h) b none = inr (text, refl, h)
fault_of_kinds (variation {text} h) b none = ((text, refl), none_inside text h)
fault_of_kinds (tag {text}) b none = (text, refl)
fault_of_kinds (other {c} {text} h) b none = (c, text, refl, h)

-- ---- a whole text

-- a split by kinds is a split
by_tokens : (text : List ℕ) {at : ℕ} {tokens : List (ℕ × Token)} → IsSplitByKinds text at tokens
    → IsSplit text at tokens
by_tokens text (kinds.ended e) = ended e
by_tokens text (kinds.token {at} kind front rest e long more) =
    token (rest, e, of_kind (begins_line text at) (length rest) kind front long.is)
    (λ wider u (after, same, is). let k = kind_of is in
    longest_of_all (begins_line text at) kind k.kind front rest wider after long (sym e ∙ same) k.is_of)
    (by_tokens text more)
by_tokens text (kinds.stopped {at} {fault} none h) =
    stopped (λ front t (rest, same, is). let k = kind_of is in none k.kind front rest same k.is_of)
    (fault_by_first (drop at text) fault h)

-- a split is a split by kinds
by_kinds : (text : List ℕ) {at : ℕ} {tokens : List (ℕ × Token)} → IsSplit text at tokens
    → IsSplitByKinds text at tokens
by_kinds text (ended e) = kinds.ended e
by_kinds text (token {at} {front} {t} {tokens} (rest, e, is) longest more) =
    let k = kind_of is in
    let long : IsLongest (IsOf (begins_line text at) k.kind) front rest = record {
      is = k.is_of;
      longest = λ wider others same h.
          let most : length (front ++ wider) ≤ length front =
          longest (front ++ wider) (token_of k.kind (front ++ wider) (length others)) (
            others,
            e ∙ ap (λ xs. front ++ xs) same ∙ sym (append_assoc front wider others),
            of_kind (begins_line text at) (length others) k.kind (front ++ wider) h,
          ) in
          nil_from_length wider (omega (arith, most, length-append front wider));
    } in
    subst (λ u. IsSplitByKinds text at ((length text - at, u) ∷ tokens)) (sym k.is)
    (kinds.token k.kind front rest e long (by_kinds text more))
by_kinds text (stopped {at} {fault} none h) =
    let no : HasNoToken (begins_line text at) (drop at text) = λ kind front rest same is.
    none front (token_of kind front (length rest))
    (rest, same, of_kind (begins_line text at) (length rest) kind front is) in
    kinds.stopped no (fault_of_kinds h (begins_line text at) no)

-- a split of a text is the one that is read
pub split_read : (text : List ℕ) {at : ℕ} {tokens : List (ℕ × Token)} → IsSplit text at tokens
    → tokens ≡ tokens_from text at
split_read text h = kinds_read text (by_kinds text h)

-- what is read is a split of the text
pub read_split : (text : List ℕ) (at : ℕ) → IsSplit text at (tokens_from text at)
read_split text at = by_tokens text (read_kinds text at)
