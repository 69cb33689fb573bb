-- What contracts see of the code's engine lines, items and features.
use Rattle.std.specs.Prelude.{ℕ, true, false, List, codes, Option, None, Some}
use Rattle.std.specs.Borrow.{Bor}
use Rattle.cecp_engine.specs.EngineLines as kinds
use Rattle.cecp_engine.specs.EngineLines.{LineKind}
use Rattle.cecp_engine.specs.Items as items
use Rattle.cecp_engine.specs.Items.{takes, plays_fischerandom}
use Rattle.cecp_engine.specs.declared.item.Item.{Item}
use Rattle.cecp_engine.specs.declared.item.Value.{Value}
use Rattle.cecp_engine.specs.declared.item.Value.TheVariants.{Digits, Quoted}
use Rattle.cecp_engine.specs.declared.features.Features.{Features as Taken}
use Rattle.cecp_engine.specs.declared.engine_line.EngineLine.{EngineLine}
use Rattle.cecp_engine.specs.declared.engine_line.EngineLine.TheVariants.{Features, Move, Resign, Offer, Draw, Win, Rejection, Pong, Other}

-- the kind of line that the code's `EngineLine` stands for
abbrev pub seen : EngineLine → LineKind
seen (Features text) = kinds.Features text.now
seen (Move text) = kinds.Moves text.now
seen Resign = kinds.Resigns
seen Offer = kinds.OffersDraw
seen Draw = kinds.ClaimsDraw
seen (Win c) = kinds.ClaimsWin c
seen Rejection = kinds.Rejects
seen (Pong n) = kinds.Answers n
seen Other = kinds.SaysElse

-- what the code's value of an item (`NAME=VALUE`) stands for
abbrev pub value_seen : Value → items.Value
value_seen (Digits text) = record { quoted = false; text = text.now }
value_seen (Quoted text) = record { quoted = true; text = text.now }

-- the item that the code's item stands for
abbrev pub item_seen : Item → items.Item
item_seen i = record { name = i.name.now; value = value_seen i.value }

-- the item, and the text after it, that the code's `next_item` returned; `None` if it returned none
abbrev pub item_read : Option (Item × Bor (List ℕ)) → Option (items.Item × List ℕ)
item_read None = None
item_read (Some p) = Some (item_seen p.0, p.1.now)

-- which features an engine has on, by all its items so far
unfoldable pub features_of : List items.Item → Taken
features_of said = record {
  ping = takes (codes "ping") said;
  setboard = takes (codes "setboard") said;
  san = takes (codes "san") said;
  usermove = takes (codes "usermove") said;
  time = takes (codes "time") said;
  draw = takes (codes "draw") said;
  fischerandom = plays_fischerandom said;
}
