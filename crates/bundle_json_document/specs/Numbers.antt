-- Which numbers of a text a document may have: whole ones of 64 bits.
use Rattle.std.specs.Prelude.{List, Bool, true, false, not, ◌&&◌, Option, Some, None}
use Rattle.json.specs.Json as json
use Rattle.json.specs.Token.{Token}
use Rattle.serde_json.specs.Data.{Num}
use Rattle.serde_json.specs.Find.{is_float}
use Rattle.serde_json.specs.Read.{number_of}

-- a number that is there and no float: a whole number of 64 bits, but for `-0`
abbrev pub is_whole_number : Option Num → Bool
is_whole_number None = false
is_whole_number (Some n) = not (is_float n)

-- no number is a float, nor beyond all floats
abbrev mutual
  pub is_whole : json.Json → Bool
  is_whole json.null = true
  is_whole (json.boolean b) = true
  is_whole (json.number s) = is_whole_number (number_of s)
  is_whole (json.string s) = true
  is_whole (json.array js) = items_are_whole js
  is_whole (json.object ms) = members_are_whole ms

  pub items_are_whole : json.Items → Bool
  items_are_whole json.no_items = true
  items_are_whole (json.item j js) = is_whole j && items_are_whole js

  pub members_are_whole : json.Members → Bool
  members_are_whole json.no_members = true
  members_are_whole (json.member k j ms) = is_whole j && members_are_whole ms

-- that something was read, of which this holds
abbrev pub holds_of_read : {A : Type 0} → (A → Bool) → Option (A × List Token) → Bool
holds_of_read f None = false
holds_of_read f (Some it) = f it.0
