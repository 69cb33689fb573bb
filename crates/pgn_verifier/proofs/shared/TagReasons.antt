-- The reason that `reason` gives for a fault is right by the relation `IsReason` (reason_is), by cases of the fault.
-- For a bad tag it is the first part that the tag lacks: name, quote, string or bracket (tag_reason_is). What the
-- relation calls the opening of a tag is read as one (opened), and a name that is read after a `[` is one by the
-- relation (name_found).
use Rattle.std.proofs.Common.{◌≡◌, ℕ, ◌<◌, Bool, true, false, cond, eqb, List, [], ◌∷◌, ◌++◌, length, Option, Some, None, refl, sym, ap, subst, ◌∙◌, arith, codes, is_some}
use Rattle.std.specs.{List.list_all, Option.option_map_or}
use Rattle.std.proofs.lemmas.Bool.{and_parts, eqb-true}
use Rattle.chess_game.specs.declared.verdicts.Verdict.{Verdict}
use Rattle.byte_devices.specs.Bytes.{is_name_byte}
use Rattle.pgn_tokens.specs.Split.{IsGap}
use Rattle.pgn_tokens.specs.Tokens.{after_gap, after_next, name_at, string_at}
use Rattle.chess_pgn.specs.declared.read.PgnFaultKind.TheVariants as pgn
use Rattle.pgn_tokens.proofs.shared.Tags.{name_comes, opening_read, NameIs, name_is, name_after_gap, opening_is, string_read, StringLeaves, string_leaves}
use Rattle.pgn_verifier.specs.{Explanations.IsReason, declared.game_fault.FaultKind.FaultKind}
use Rattle.pgn_verifier.specs.WrongParts.{HasName, HasOpening, HasString, IsTagReason, no_name, no_value, not_closed, no_bracket}
use Rattle.pgn_verifier.specs.declared.game_fault.FaultKind.TheVariants.{Pgn, InVariation, UnknownVariant, ResultDiffers, BoardSaysOtherwise}
use Rattle.pgn_verifier.specs.laws.Reasons.{string_reason, value_reason, name_reason, tag_reason, reason}

-- ---- the parts of a tag that a text has are those that are read

-- what is inside a bracket
inside_is : {c d : ℕ} {xs ys : List ℕ} → c ∷ xs ≡ d ∷ ys → xs ≡ ys
inside_is e = cc (e)

-- of a tag that has a name by the definition a name is read
has_name : (text : List ℕ) → HasName (91 ∷ text) → is_some (name_at (after_gap text)) ≡ true
has_name text (gap, c, rest, h, first, is) =
    ap (λ xs. is_some (name_at (after_gap xs))) (inside_is is) ∙ name_comes gap c rest h first

-- the text after a name
pub same_end : {a b : List ℕ × List ℕ} → Some a ≡ Some b → a.1 ≡ b.1
same_end e = ap (λ (o : Option (List ℕ × List ℕ)). option_map_or (λ (f : List ℕ × List ℕ). f.1) o []) e

-- the name and the text after it, and the rest after the quote
pub record Opened (text rest : List ℕ) : Type 0 where
  pub name : List ℕ
  pub after_name : List ℕ
  pub named : name_at (after_gap text) ≡ Some (name, after_name)
  pub quoted : after_next 34 after_name ≡ Some rest

-- the parts of a tag up to its first quote, as they are read
pub opened : (text rest : List ℕ) → HasOpening (91 ∷ text) rest → Opened text rest
opened text rest (name, opening, o, is) =
    let read = opening_read o rest in record {
      name = name;
      after_name = read.after_name;
      named = ap (λ xs. name_at (after_gap xs)) (inside_is (is ∙ read.is)) ∙ read.named;
      quoted = read.quoted;
    }

-- of a text that has a string by the definition a string is read
has_string : (text : List ℕ) → HasString text → is_some (string_at text) ≡ true
has_string text (string, rest, h, is) = ap (λ xs. is_some (string_at xs)) is ∙ ap is_some (string_read h rest)

-- ---- what is read is what the text has

-- a name that is read after a gap is there
pub name_found : (text : List ℕ) (found : List ℕ × List ℕ) → name_at (after_gap text) ≡ Some found → HasName (91 ∷ text)
name_found text found h = by_name found.0 read.some read.named (name_after_gap text found h)
  where
    read : NameIs (after_gap text) found
    read = name_is (after_gap text) found h

    by_name : (name : List ℕ) → 0 < length name → list_all is_name_byte name ≡ true
        → (gap : List ℕ) × IsGap false gap × (text ≡ gap ++ (name ++ found.1)) → HasName (91 ∷ text)
    by_name [] some all (gap, g, is) = absurd (omega (arith, some))
    by_name (n ∷ ns) some all (gap, g, is) =
        (gap, n, ns ++ found.1, g, (and_parts (is_name_byte n) (list_all is_name_byte ns) all).0, ap (λ xs. 91 ∷ xs) is)

-- ---- the reason that is found is one

-- the reason for a tag that opens well is that of its string
by_string : (text rest : List ℕ) → HasOpening text rest → IsTagReason text (Some (string_reason rest))
by_string text rest o = by_found (string_at rest) refl (string_leaves rest)
  where
    by_found : (found : Option (List ℕ × List ℕ)) → string_at rest ≡ found → StringLeaves rest found
        → IsTagReason text
        (Some (cond (is_some found) (codes "no bracket after the value") (codes "string not closed")))
    by_found None e leaves = not_closed o (λ h. (let some : false ≡ true = sym (ap is_some e) ∙ has_string rest h in absurd (cc)))
    by_found (Some found) e leaves = no_bracket o (found.0, found.1, leaves.0, leaves.1)

-- the reason for a tag with a name is that of the value after it
by_value : (text : List ℕ) (found : List ℕ × List ℕ) → name_at (after_gap text) ≡ Some found
    → IsTagReason (91 ∷ text) (Some (value_reason found.1))
by_value text found h = by_quote (after_next 34 found.1) refl
  where
    unopened : after_next 34 found.1 ≡ None → (rest : List ℕ) → HasOpening (91 ∷ text) rest → ⊥
    unopened e rest o =
        let there = opened text rest o in
        let clash : None ≡ Some rest =
        sym e ∙ ap (after_next 34) (same_end (sym h ∙ there.named)) ∙ there.quoted in absurd (cc)

    by_quote : (string : Option (List ℕ)) → after_next 34 found.1 ≡ string
        → IsTagReason (91 ∷ text) (Some (option_map_or string_reason string (codes "no value")))
    by_quote None e = no_value (name_found text found h) (unopened e)
    by_quote (Some rest) e =
        let o = opening_is text found rest h e in
        by_string (91 ∷ text) rest (found.0, o.0, o.1, o.2)

-- the reason for a tag is that of its name and what follows
by_name : (text : List ℕ) → IsTagReason (91 ∷ text) (Some (name_reason text))
by_name text = by_found (name_at (after_gap text)) refl
  where
    by_found : (found : Option (List ℕ × List ℕ)) → name_at (after_gap text) ≡ found
        → IsTagReason (91 ∷ text)
        (Some (option_map_or (λ (f : List ℕ × List ℕ). value_reason f.1) found (codes "no name")))
    by_found None e = no_name (λ h. (let some : false ≡ true = sym (ap is_some e) ∙ has_name text h in absurd (cc)))
    by_found (Some found) e = by_value text found e

-- the reason for a bad tag is right
pub tag_reason_is : (text : List ℕ) → IsTagReason text (Some (tag_reason text))
tag_reason_is [] = no_name empty
  where
    empty : HasName [] → ⊥
    empty (gap, c, rest, h, first, is) = absurd (cc)
tag_reason_is (c ∷ rest) = by_test (eqb c 91) refl
  where
    no_bracket_first : eqb c 91 ≡ false → HasName (c ∷ rest) → ⊥
    no_bracket_first e (gap, d, more, h, first, is) =
        let bracket : c ≡ 91 = cc (is) in
        let clash : false ≡ true = sym e ∙ ap (λ k. eqb k 91) bracket in absurd (cc)

    by_test : (t : Bool) → eqb c 91 ≡ t
        → IsTagReason (c ∷ rest) (Some (option_map_or name_reason (cond t (Some rest) None) (codes "no name")))
    by_test true e =
        subst (λ d. IsTagReason (d ∷ rest) (Some (name_reason rest))) (sym (eqb-true c 91 e)) (by_name rest)
    by_test false e = no_name (no_bracket_first e)

-- ---- the reasons for all faults

-- the reason for a fault is right
pub reason_is : (kind : FaultKind) (text : List ℕ) (verdict : Option Verdict)
    → IsReason kind text verdict (reason kind text verdict)
reason_is (Pgn pgn.BadTag) text verdict = tag_reason_is text
reason_is (Pgn (pgn.BadFen fault)) text verdict = refl
reason_is (Pgn pgn.BadToken) text verdict = refl
reason_is (Pgn pgn.IllegalMove) text verdict = refl
reason_is (Pgn pgn.AmbiguousMove) text verdict = refl
reason_is (Pgn pgn.AfterEnd) text verdict = refl
reason_is (Pgn pgn.TooLong) text verdict = refl
reason_is (Pgn pgn.UnclosedComment) text verdict = refl
reason_is (Pgn pgn.UnclosedVariation) text verdict = refl
reason_is (Pgn pgn.NoResult) text verdict = refl
reason_is (InVariation pgn.BadTag) text verdict = refl
reason_is (InVariation (pgn.BadFen fault)) text verdict = refl
reason_is (InVariation pgn.BadToken) text verdict = refl
reason_is (InVariation pgn.IllegalMove) text verdict = refl
reason_is (InVariation pgn.AmbiguousMove) text verdict = refl
reason_is (InVariation pgn.AfterEnd) text verdict = refl
reason_is (InVariation pgn.TooLong) text verdict = refl
reason_is (InVariation pgn.UnclosedComment) text verdict = refl
reason_is (InVariation pgn.UnclosedVariation) text verdict = refl
reason_is (InVariation pgn.NoResult) text verdict = refl
reason_is UnknownVariant text verdict = refl
reason_is (ResultDiffers tag_len outcome) text verdict = refl
reason_is BoardSaysOtherwise text verdict = refl
