-- Handshakes: how features are answered, and which a match needs (CECP, version 2: section 9).
use Rattle.std.specs.Prelude.{◌≡◌, ◌||◌, ℕ, Bool, true, false, List, [], ◌∷◌, map, drop, take, codes, is_some}
use Rattle.std.specs.List.{AllByRecursion, flat_map, list_all, list_any}
use Rattle.std.specs.Str.{bytes_eq}
use Rattle.chess_base.specs.Options.{list_if}
use Rattle.chess_base.specs.declared.man.Colour.{Colour}
use Rattle.chess_base.specs.declared.man.Variant.TheVariants.{Fischerandom}
use Rattle.cecp_engine.specs.Items.{Item, is_known, plays_fischerandom, takes}
use Rattle.chess_match.specs.Acts.{Act}
use Rattle.chess_match.specs.Effects.{Match}
use Rattle.chess_match.specs.Lines.{SentLine, Says, MoveSent}
use Rattle.chess_match.specs.Rules.{Rules, start_fen}
use Rattle.chess_match.specs.laws.Laws.{lines_given, lines_read}
use Rattle.chess_match_laws.specs.Streams.{items_said}

-- ---- answers

-- the NAME in a line `accepted NAME` or `rejected NAME`, as a list of one; empty for other lines
abbrev pub name_answered : SentLine → List (List ℕ)
name_answered (Says text) =
    list_if (bytes_eq (take 9 text) (codes "accepted ") || bytes_eq (take 9 text) (codes "rejected "))
    (drop 9 text ∷ [])
name_answered _ = []

-- the side `S` was sent an answer to each item of its `feature` lines, in order, by the item's name (an answer that
-- could not be sent counts)
abbrev pub ItemsAreAnswered : Rules → Colour → List Act → Match → Type 0
ItemsAreAnswered r S H m =
    flat_map name_answered (lines_given S H) ≡ map (λ i. i.name) (items_said (lines_read S H))

-- some features that are accepted, and some that are rejected
pub record NamesAreKnown : Type 0 where
  pub accepted : list_all is_known (codes "ping" ∷ codes "setboard" ∷ codes "playother" ∷ codes "san" ∷ codes "usermove"
      ∷ codes "time" ∷ codes "draw" ∷ codes "sigint" ∷ codes "sigterm" ∷ codes "reuse" ∷ codes "analyze"
      ∷ codes "myname" ∷ codes "variants" ∷ codes "colors" ∷ codes "debug" ∷ codes "done" ∷ []) ≡ true
  pub rejected : list_any is_known (codes "ics" ∷ codes "name" ∷ codes "pause" ∷ codes "nps" ∷ codes "memory"
      ∷ codes "smp" ∷ codes "egt" ∷ codes "option" ∷ codes "exclude" ∷ codes "setscore" ∷ codes "highlight"
      ∷ codes "PING" ∷ codes "p" ∷ []) ≡ false

-- ---- needed features

-- an engine with these items has what a match by the rules `r` needs: `ping`; `setboard`, if a FEN is to be sent; and
-- Chess960, if the game is of it
pub record HasNeeded (r : Rules) (items : List Item) : Type 0 where
  pub ping : takes (codes "ping") items ≡ true
  pub setboard : is_some (start_fen r.start) ≡ true → takes (codes "setboard") items ≡ true
  pub variant : r.start.variant ≡ Fischerandom → plays_fischerandom items ≡ true

-- both engines have what the match needs (whichever side `S` is asked for its move)
abbrev pub BothHaveNeeded : Rules → Colour → List Act → Match → Type 0
BothHaveNeeded r S H m = (X : Colour) → HasNeeded r (m.seat X).items

-- ---- `usermove`

-- whether a move is sent with `usermove` before it, as a list of one; empty for other lines
abbrev pub prefix_of : SentLine → List Bool
prefix_of (MoveSent prefixed text) = prefixed ∷ []
prefix_of _ = []

-- each move in the blocks for each side `S`, also in one that could not be sent, has `usermove` before it exactly if
-- the engine of `S` has that feature on
abbrev pub PrefixesAreAsAsked : Rules → List Act → Match → Type 0
PrefixesAreAsAsked r H m = (S : Colour) → AllByRecursion (λ (b : Bool). b ≡ takes (codes "usermove") (m.seat S).items)
    (flat_map prefix_of (lines_given S H))
