-- A token names a tag's string, or the `{` of a comment that isn't closed, by how many bytes are left there. These are
-- at most as many as are left where the token begins (within), for the first token from an offset on too
-- (token_within). By cases of the token's kind, and of the fault.
use Rattle.std.proofs.Common.{◌≡◌, ℕ, suc, ◌-◌, ◌≤◌, Bool, List, [], ◌∷◌, ◌++◌, length, drop, refl, sym, ap, subst, ◌∙◌, inl, inr, arith, length-append, length-drop}
use Rattle.pgn_tokens.specs.Tokens.{Token, Skip, Tag, Word, Bad_tag, Unclosed_comment, Unclosed_variation, Bad, token_at, begins_line, tokens_from}
use Rattle.pgn_tokens.specs.{Split.HasOpenComment, Split.here, Split.deeper, shared.Places.IsWithin}
use Rattle.pgn_tokens.specs.shared.Kinds.{Kind, Blank, Line, Comment, Nag, Variation, Tag_pair, Asterisk, Symbol, IsOf, token_of, IsFault}
use Rattle.pgn_tokens.proofs.TokenKinds.{TokenSays, known, faulty, token_says}
use Rattle.pgn_tokens.proofs.Walk.{no_token, token_more}

-- the places named by a token that was read are among the last so many bytes
abbrev Within : ℕ → Token × List ℕ → Type 0
Within n t = IsWithin n t.0

-- the `{` of an open comment is in the text
open_within : {text : List ℕ} {to_end : ℕ} → HasOpenComment text to_end → to_end ≤ length text
open_within (here {parts} text h lack) = omega (arith, length-append parts (123 ∷ text))
open_within (deeper {parts} {inner} h k) = omega (arith, open_within k, length-append parts (40 ∷ inner))

fault_within : (text : List ℕ) (fault : Token) → IsFault text fault → IsWithin (length text) fault
fault_within text (Unclosed_comment n) (inl (comment, is, lack, all)) = omega (arith, all)
fault_within text (Unclosed_comment n) (inr (inner, is, h)) = omega (arith, open_within h, ap length is)
fault_within text Unclosed_variation h = tt
fault_within text Bad_tag h = tt
fault_within text Bad h = tt
fault_within text Skip h = absurd h
fault_within text (Tag name string left) h = absurd h
fault_within text (Word word) h = absurd h

kind_within : (b : Bool) (kind : Kind) (front r : List ℕ) → IsOf b kind front
    → IsWithin (length (front ++ r)) (token_of kind front (length r))
kind_within b Blank front r h = tt
kind_within b Line front r h = tt
kind_within b Comment front r h = tt
kind_within b Nag front r h = tt
kind_within b Variation front r h = tt
kind_within b (Tag_pair name string closing) front r (opening, o, s, close, is) =
    omega (arith, length-append front r, ap length is, length-append opening (string ++ closing))
kind_within b Asterisk front r h = omega (arith, length-append front r)
kind_within b Symbol front r h = omega (arith, length-append front r)

pub within : (begins : Bool) (c : ℕ) (rest : List ℕ) → Within (suc (length rest)) (token_at begins c rest)
within begins c rest = by_says (token_at begins c rest) (token_says begins c rest)
  where
    by_says : (t : Token × List ℕ) → TokenSays begins (c ∷ rest) t → Within (suc (length rest)) t
    by_says t (known kind front r same long) =
        subst (λ xs. IsWithin (length xs) (token_of kind front (length r))) (sym same)
        (kind_within begins kind front r long.is)
    by_says t (faulty fault is_one h) = fault_within (c ∷ rest) fault h

same_first : (s t : ℕ × Token) (ss ts : List (ℕ × Token)) → s ∷ ss ≡ t ∷ ts → s ≡ t
same_first s t ss ts e = cc

-- the first token from an offset on names no place before it
pub token_within : (text : List ℕ) (at : ℕ) (token : Token) (ts : List (ℕ × Token)) → at ≤ length text
    → tokens_from text at ≡ (length text - at, token) ∷ ts → IsWithin (length text - at) token
token_within text at token ts h is = by_rest (drop at text) refl
  where
    by_rest : (rest : List ℕ) → drop at text ≡ rest → IsWithin (length text - at) token
    by_rest [] e =
        let none : tokens_from text at ≡ [] = no_token text at (omega (arith, ap length e)) in
        absurd (cc)
    by_rest (c ∷ rest) e =
        let left : suc (length rest) ≡ length text - at = sym (ap length e) ∙ length-drop at text in
        let more = token_more text at c rest e h in
        let same : (token_at (begins_line text at) c rest).0 ≡ token =
        ap (λ (t : ℕ × Token). t.1) (same_first _ _ _ _ (sym more ∙ is)) in
        subst (λ n. IsWithin n token) left
        (subst (IsWithin (suc (length rest))) same (within (begins_line text at) c rest))
