-- What more bytes change for a server of lines: nothing of what was complete. The complete lines of some bytes are
-- still the first lines when more bytes follow (first_lines), and a server that one of them ended (as `quit` does)
-- answers no later line (stays_ended). At the end (early_goes_on): the server has not ended with the lines that were
-- complete before the last read, so that read was needed.
use Rattle.std.proofs.Common.{◌≡◌, ◌≢◌, ℕ, ◌-◌, ◌≤◌, Bool, true, false, List, [], ◌∷◌, ◌++◌, length, drop, ◌==◌, refl, sym, ap, ◌∙◌, arith, subst, take-append-drop}
use Rattle.text_lines.specs.Lines.{LineSeen, lines_from, stream_lines, line_of}
use Rattle.text_lines.specs.Next.{before_piece}
use Rattle.text_lines.proofs.shared.LineSteps.{none_from, ten_step, byte_step}
use Rattle.chess_cecp.specs.Serving.{Response, Server, and_then, responses}
use Rattle.chess_cecp.specs.declared.session.TheConstants.{COMMAND_LEN}

-- the lines `all` are the lines `front`, and maybe more after them
abbrev pub GoesOn : List LineSeen → List LineSeen → Type 0
GoesOn front all = (more : List LineSeen) × (all ≡ front ++ more)

one_on : (line : LineSeen) (front all : List LineSeen) → GoesOn front all → GoesOn (line ∷ front) (line ∷ all)
one_on line front all (more, e) = (more, ap (λ v. line ∷ v) e)

-- `GoesOn` of equal lists
moved : (a b c d : List LineSeen) → a ≡ b → c ≡ d → GoesOn b d → GoesOn a c
moved a b c d e f (more, h) = (more, f ∙ h ∙ ap (λ v. v ++ more) (sym e))

-- the complete lines of `a` are the first lines of `a ++ b`, where `part` is the beginning of a line before these bytes
-- and `n` the limit of a line's length; by induction on `a`, byte by byte: `\n` completes a line, any other byte goes
-- to `part`
first_of_from : (n : ℕ) (at_end : Bool) (part a b : List ℕ)
    → GoesOn (lines_from n false part a) (lines_from n at_end part (a ++ b))
first_of_from n at_end part [] b =
    (lines_from n at_end part b, ap (λ v. v ++ lines_from n at_end part b) (sym (none_from n part)))
first_of_from n at_end part (c ∷ cs) b = at (c == 10) refl (first_of_from n at_end [] cs b)
    (first_of_from n at_end (part ++ c ∷ []) cs b)
  where
    at : (t : Bool) → (c == 10) ≡ t → GoesOn (lines_from n false [] cs) (lines_from n at_end [] (cs ++ b))
        → GoesOn (lines_from n false (part ++ c ∷ []) cs) (lines_from n at_end (part ++ c ∷ []) (cs ++ b))
        → GoesOn (lines_from n false part (c ∷ cs)) (lines_from n at_end part (c ∷ (cs ++ b)))
    at true e h k = let ten : c ≡ 10 = grind arith in
        moved _ _ _ _ (ten_step n false part c cs ten) (ten_step n at_end part c (cs ++ b) ten)
        (one_on (line_of n true part) _ _ h)
    at false e h k = let other : c ≢ 10 = grind arith in
        moved _ _ _ _ (byte_step n false part c cs other) (byte_step n at_end part c (cs ++ b) other) k

-- the same of whole streams, which begin with no part of a line
pub first_lines : (n : ℕ) (at_end : Bool) (a b : List ℕ) → GoesOn (stream_lines n false a) (stream_lines n at_end (a ++ b))
first_lines n at_end a b = first_of_from n at_end [] a b

-- ---- responses

-- the response `r` is followed by `a` or by `b`. If `a` equals `b` as soon as the server ends with `b`, and it ends
-- with `r` and `b`, then both ways the response is the same
on_both : {S : Type 0} (r a b : Response S) → (b.ends ≡ true → a ≡ b) → (and_then r b).ends ≡ true
    → and_then r a ≡ and_then r b
on_both r a b same h = grind arith

-- if the server ends with one of the lines `xs`, the response to `xs` and more lines is the response to `xs` alone
pub stays_ended : {S : Type 0} (respond : Server S) (s : S) (xs ys : List LineSeen)
    → (responses respond s xs).ends ≡ true → responses respond s (xs ++ ys) ≡ responses respond s xs
stays_ended respond s [] ys h = cc
stays_ended respond s (x ∷ xs) ys h =
    on_both (respond s x) (responses respond (respond s x).state (xs ++ ys))
    (responses respond (respond s x).state xs) (stays_ended respond (respond s x).state xs ys) h

-- if the server ends with none of some lines, it ends with none of the first ones of them
pub had_not_ended : {S : Type 0} (respond : Server S) (s : S) (xs ys : List LineSeen)
    → (responses respond s (xs ++ ys)).ends ≡ false → (responses respond s xs).ends ≡ false
had_not_ended respond s xs ys h = grind (arith, stays_ended respond s xs ys)

-- of two beginnings of a list the shorter is a beginning of the longer
pub shorter_first : (xs ys us vs : List LineSeen) → xs ++ ys ≡ us ++ vs → length xs ≤ length us → GoesOn xs us
shorter_first [] ys us vs e h = (us, refl)
shorter_first (x ∷ xs) ys [] vs e h = absurd (omega arith)
shorter_first (x ∷ xs) ys (u ∷ us) vs e h =
    let heads : x ≡ u = cc in
    let tails : xs ++ ys ≡ us ++ vs = cc in
    let rest = shorter_first xs ys us vs tails (omega arith) in
    (rest.0, ap (λ v. v ∷ us) (sym heads) ∙ ap (λ v. x ∷ v) rest.1)

-- the lines that were complete before the last read, which gave `n` bytes, are the first of all lines read
pub early_first : (at_end : Bool) (n : ℕ) (text : List ℕ)
    → GoesOn (stream_lines COMMAND_LEN false (before_piece n text)) (stream_lines COMMAND_LEN at_end text)
early_first at_end n text =
    subst (λ v. GoesOn (stream_lines COMMAND_LEN false (before_piece n text)) (stream_lines COMMAND_LEN at_end v))
    (take-append-drop (length text - n) text)
    (first_lines COMMAND_LEN at_end (before_piece n text) (drop (length text - n) text))

-- a line was reached after the lines `done`, with which the server did not end. If the lines that were complete before
-- the last read (of `n` bytes) are no more than those, the server did not end with them either
pub early_goes_on : {S : Type 0} (respond : Server S) (s : S) (at_end : Bool) (n : ℕ) (text : List ℕ)
    (done : List LineSeen) (line : LineSeen) (after : List LineSeen)
    → stream_lines COMMAND_LEN at_end text ≡ done ++ line ∷ after → (responses respond s done).ends ≡ false
    → length (stream_lines COMMAND_LEN false (before_piece n text)) ≤ length done
    → (responses respond s (stream_lines COMMAND_LEN false (before_piece n text))).ends ≡ false
early_goes_on respond s at_end n text done line after lines goes_on few =
    let first = early_first at_end n text in
    let within = shorter_first _ first.0 done (line ∷ after) (sym first.1 ∙ lines) few in
    had_not_ended respond s _ within.0 (ap (λ v. (responses respond s v).ends) (sym within.1) ∙ goes_on)
