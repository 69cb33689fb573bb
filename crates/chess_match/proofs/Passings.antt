-- Steps that pass at a table, and then others, pass as one list (`passed_more`). So the steps of sending lines
-- (`giving`) pass if their bytes are noted and then written (`given_lines`); those of no lines, if nothing is done
-- (`given_nothing`).
use Rattle.std.proofs.Common.{◌≡◌, ◌≢◌, ℕ, Bool, List, [], ◌∷◌, ◌++◌, sym, ◌∙◌, append_assoc, append-nil, subst}
use Rattle.byte_devices.specs.Bytes.{new_line}
use Rattle.chess_base.specs.declared.man.Colour.{Colour}
use Rattle.chess_match.specs.{Lines.SentLine, Lines.bytes_of, Lines.text_of, Notes.Gives, ties.Driving.giving}
use Rattle.chess_match.specs.Table.{Step, Does, Notes, Passing, Passes, sending}

pub passed_none : (d : Passing) → Passes d d []
passed_none d = record {
  extends = λ begun before p. subst (λ (K : List Step). d begun K) (sym (append-nil before)) p;
}

pub passed_more : (d d' d'' : Passing) (K J : List Step) → Passes d d' K → Passes d' d'' J → Passes d d'' (K ++ J)
passed_more d d' d'' K J p q = record {
  extends = λ begun before x. subst (λ (all : List Step). d'' begun all) (append_assoc before K J)
      (q.extends begun (before ++ K) (p.extends begun before x));
}

pub passed_as : (d d' : Passing) (K J : List Step) → K ≡ J → Passes d d' K → Passes d d' J
passed_as d d' K J e p = subst (λ (all : List Step). Passes d d' all) e p

-- lines whose text is not empty were noted, and then sent
pub given_lines : (d d' d'' : Passing) (failed : Bool) (S : Colour) (lines : List SentLine) (text : List ℕ)
    → bytes_of lines ≡ text → text ≢ [] → Passes d d' (Notes (Gives S text) ∷ [])
    → Passes d' d'' (Does (sending failed (record { to = S; lines = lines })) ∷ [])
    → Passes d d'' (giving failed S lines)
unfolding bytes_of
given_lines d d' d'' failed S [] text e some p q = absurd (some (sym e))
given_lines d d' d'' failed S (l ∷ ls) text e some p q =
    passed_more d d' d'' (Notes (Gives S (bytes_of (l ∷ ls))) ∷ [])
    (Does (sending failed (record { to = S; lines = l ∷ ls })) ∷ [])
    (subst (λ (t : List ℕ). Passes d d' (Notes (Gives S t) ∷ [])) (sym e) p) q

not_nil : (a : List ℕ) (b : ℕ) (c : List ℕ) → a ++ b ∷ c ≡ [] → ⊥
not_nil [] b c e = cc
not_nil (x ∷ a) b c e = cc

-- of lines whose text is empty there are none, so that no step passes
pub given_nothing : (d : Passing) (failed : Bool) (S : Colour) (lines : List SentLine) (text : List ℕ)
    → bytes_of lines ≡ text → text ≡ [] → Passes d d (giving failed S lines)
unfolding bytes_of
given_nothing d failed S [] text e none = passed_none d
given_nothing d failed S (l ∷ ls) text e none = absurd (not_nil (text_of l) new_line (bytes_of ls) (e ∙ none))
