-- A server's response to several lines, taken apart. If the server ends with none of the first lines, the response to
-- all is the text for the first ones, and then the response to the others from the state that the first ones left
-- (responses_on, by induction on the first ones); and the response to a single line is what the server does with it
-- (alone).
use Rattle.std.proofs.Common.{◌≡◌, ℕ, Bool, true, false, List, [], ◌∷◌, ◌++◌, refl, sym, ap, ◌∙◌, append_assoc, append-nil, if◌then◌else◌, arith}
use Rattle.text_lines.specs.Lines.{LineSeen}
use Rattle.chess_cecp.specs.Serving.{Response, Server, and_then, responses}

-- the response `r` with this text before its own
abbrev pub with_front : {S : Type 0} → List ℕ → Response S → Response S
with_front text r = record r { text = text ++ r.text }

fronts : {S : Type 0} (a b : List ℕ) (r : Response S) → with_front a (with_front b r) ≡ with_front (a ++ b) r
fronts a b r = ap (λ t. record r { text = t }) (sym (append_assoc a b r.text))

-- two responses as one: `next` follows `r` if the server goes on after `r`, and is left out if it ends with it
pub passes : {S : Type 0} (r next : Response S) → r.ends ≡ false → and_then r next ≡ with_front r.text next
passes r next e = rw e

pub stops : {S : Type 0} (r next : Response S) → r.ends ≡ true → and_then r next ≡ r
stops r next e = rw e

-- if the server goes on after two responses, it went on after the first
first_goes : {S : Type 0} (r next : Response S) → (and_then r next).ends ≡ false → r.ends ≡ false
first_goes r next h = grind arith

-- the response to a single line is the server's response to it, whether or not it ends with it
alone_by : {S : Type 0} (b : Bool) (r : Response S) → r.ends ≡ b
    → (if b then r else with_front r.text (record { text = []; state = r.state; ends = false })) ≡ r
alone_by true r e = refl
alone_by false r e =
    ap (λ t. record { text = t; state = r.state; ends = false }) (append-nil r.text)
    ∙ ap (λ b. record { text = r.text; state = r.state; ends = b }) (sym e)

pub alone : {S : Type 0} (respond : Server S) (s : S) (line : LineSeen)
    → responses respond s (line ∷ []) ≡ respond s line
alone respond s line = alone_by (respond s line).ends (respond s line) refl

-- the server ends with none of `xs`: it responds to `ys` from the state in which `xs` left it; by induction on `xs`
pub responses_on : {S : Type 0} (respond : Server S) (s : S) (xs ys : List LineSeen)
    → (responses respond s xs).ends ≡ false
    → responses respond s (xs ++ ys)
    ≡ with_front (responses respond s xs).text (responses respond (responses respond s xs).state ys)
responses_on respond s [] ys h = refl
responses_on {S} respond s (x ∷ xs) ys h =
    let r = respond s x in
    let rest = responses respond r.state xs in
    let n : r.ends ≡ false = first_goes r rest h in
    let is : and_then r rest ≡ with_front r.text rest = passes r rest n in
    let m : rest.ends ≡ false = ap (λ (v : Response S). v.ends) (sym is) ∙ h in
    passes r (responses respond r.state (xs ++ ys)) n
    ∙ ap (with_front r.text) (responses_on respond r.state xs ys m)
    ∙ fronts r.text rest.text (responses respond rest.state ys)
    ∙ ap (λ (v : Response S). with_front v.text (responses respond v.state ys)) (sym is)
