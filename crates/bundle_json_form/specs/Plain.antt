-- The data that a value of a text stands for: what `serde_json` reads, with a number beyond all
-- floats as the infinite float.
use Rattle.std.specs.Prelude.{List, false, unwrap_or}
use Rattle.std.specs.Float.{inf}
use Rattle.std.specs.declared.alloc.Global.{Global}
use Rattle.json.specs.Json as json
use Rattle.json.specs.Value.{value_view}
use Rattle.json.specs.Value as of_values
use Rattle.json.specs.declared.value.Value.{Value}
use Rattle.serde_json.specs.Data.{Data, null, boolean, number, float, string, array, object, Items, no_items, item, Members, no_members, put}
use Rattle.serde_json.specs.Read.{number_of}

-- as `of_json`, but for numbers beyond all floats, whose documents are refused
abbrev mutual
  pub plain : json.Json → Data
  plain json.null = null
  plain (json.boolean b) = boolean b
  plain (json.number s) = number (unwrap_or (number_of s) (float (inf false)))
  plain (json.string s) = string s
  plain (json.array js) = array (plain_items js)
  plain (json.object ms) = object (plain_members ms no_members)

  pub plain_items : json.Items → Items
  plain_items json.no_items = no_items
  plain_items (json.item j js) = item (plain j) (plain_items js)

  -- the members go in one after another, so the last value of a key stays
  pub plain_members : json.Members → Members → Members
  plain_members json.no_members found = found
  plain_members (json.member k j ms) found = plain_members ms (put k (plain j) found)

abbrev pub seen : Value Global → Data
seen v = plain (value_view v)

abbrev pub items_seen : List (Value Global) → Items
items_seen vs = plain_items (of_values.items_view vs)
