-- A server answers lines, one after the other. A session is a server.
use Rattle.std.specs.Prelude.{ℕ, Bool, false, if◌then◌else◌, List, [], ◌∷◌, ◌++◌}
use Rattle.text_lines.specs.Lines.{LineSeen}

-- what a server does with a line: the text that it writes, its state then, and whether it ends (it responds to no later
-- line)
pub record Response (S : Type 0) : Type 0 where
  pub text : List ℕ
  pub state : S
  pub ends : Bool

-- the response that writes this text, and continues in the state `s`
abbrev pub says : {S : Type 0} → S → List ℕ → Response S
says s text = record { text = text; state = s; ends = false }

-- the response that writes nothing, and continues in the state `s`
abbrev pub becomes : {S : Type 0} → S → Response S
becomes s = says s []

-- a server with states of type `S`: how it responds to a line, by its state
abbrev pub Server : Type 0 → Type 0
Server S = S → LineSeen → Response S

-- two responses as one, with both texts: `first` to a line, `next` to later lines; just `first` if it ends the server
abbrev pub and_then : {S : Type 0} → Response S → Response S → Response S
and_then first next = if first.ends then first else record next { text = first.text ++ next.text }

-- the responses of the server `respond` to these lines, from the state `s` on, as one; none after the line that ends it
abbrev pub responses : {S : Type 0} → Server S → S → List LineSeen → Response S
responses respond s [] = becomes s
responses respond s (line ∷ rest) = and_then (respond s line) (responses respond (respond s line).state rest)
