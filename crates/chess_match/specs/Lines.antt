-- The lines that engines are sent.
use Rattle.std.specs.Prelude.{ℕ, Bool, List, [], ◌∷◌, ◌++◌, codes, decimal}
use Rattle.std.specs.Option.{option_map_or}
use Rattle.chess_base.specs.declared.man.Colour.{Colour}
use Rattle.byte_devices.specs.Bytes.{new_line}
use Rattle.chess_base.specs.Options.{list_if}
use Rattle.cecp_engine.specs.Levels.{level_text}
use Rattle.chess_match.specs.Rules.{Rules, start_fen}
use Rattle.chess_text.specs.San.{is_fischerandom}

-- a line sent to an engine
pub data SentLine : Type 0 where
  -- this text as it is
  Says : (text : List ℕ) → SentLine
  -- a move's text, such as `e2e4` or, in SAN, `Nf3`; if `prefixed`, after `usermove `
  MoveSent : (prefixed : Bool) → (text : List ℕ) → SentLine
  -- `time N`: the centiseconds this engine has left
  Time : (centiseconds : ℕ) → SentLine
  -- `otim N`: the centiseconds its opponent has left
  Otim : (centiseconds : ℕ) → SentLine

-- the text of a line without `\n`, such as `time 30000`
abbrev pub text_of : SentLine → List ℕ
text_of (Says text) = text
text_of (MoveSent prefixed text) = list_if prefixed (codes "usermove ") ++ text
text_of (Time n) = codes "time " ++ decimal n
text_of (Otim n) = codes "otim " ++ decimal n

-- the bytes of these lines, each ended by `\n`
unfoldable pub bytes_of : List SentLine → List ℕ
bytes_of [] = []
bytes_of (l ∷ ls) = text_of l ++ new_line ∷ bytes_of ls

-- the line `ping n`
abbrev pub ping : ℕ → SentLine
ping n = Says (codes "ping " ++ decimal n)

-- the lines that set `S`'s engine up for a game by the rules `r`, up to `ping 1`; `setboard` only if required
unfoldable pub setup_lines : Rules → Colour → List SentLine
setup_lines r S =
    Says (codes "new") ∷ (list_if (is_fischerandom r.start.variant) (Says (codes "variant fischerandom") ∷ [])
    ++ (Says (codes "level " ++ level_text (r.level S)) ∷ Says (codes "nopost") ∷ Says (codes "easy") ∷ Says (codes "force")
    ∷ (option_map_or (λ fen. Says (codes "setboard " ++ fen) ∷ []) (start_fen r.start) [] ++ ping 1 ∷ [])))
