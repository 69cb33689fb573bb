-- How one item more (`NAME=VALUE`) changes which features an engine has on, and what the code's `read_value` returned,
-- as a value of the definitions.
use Rattle.std.specs.Prelude.{ℕ, Bool, if◌then◌else◌, List, codes, Option, None, Some}
use Rattle.std.specs.Str.{bytes_eq}
use Rattle.cecp_engine.specs.Items.{Item, is_one, has_word}
use Rattle.std.specs.Borrow.{Bor}
use Rattle.cecp_engine.specs.Items as items
use Rattle.cecp_engine.specs.declared.item.Value.{Value}
use Rattle.cecp_engine.specs.Seen.{value_seen}

-- whether an engine has the feature `name` on after the item `i`: if the item has that name, by whether its value is 1,
-- without quotes; otherwise as `before`
abbrev pub said_again : List ℕ → Item → Bool → Bool
said_again name i before = if bytes_eq i.name name then is_one i.value else before

-- whether an engine plays Chess960 after the item `i`: if the item is `variants`, by whether its value has the word
-- `fischerandom`; otherwise as `before`
abbrev pub fischerandom_again : Item → Bool → Bool
fischerandom_again i before = if bytes_eq i.name (codes "variants") then has_word (codes "fischerandom")
    i.value.text else before

-- the value, and the text after it, that the code's function `read_value` returned; `None` if it returned none
abbrev pub value_read : Option (Value × Bor (List ℕ)) → Option (items.Value × List ℕ)
value_read None = None
value_read (Some p) = Some (value_seen p.0, p.1.now)
