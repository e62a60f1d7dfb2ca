-- What is added to a text of JSON.
use Rattle.std.specs.Prelude.{◌≡◌, ◌+◌, ◌-◌, ◌++◌, ◌&&◌, ℕ, true, false, List, string_bytes}
use Rattle.gutsirava_views.specs.Json.{comma, is_none, items_text, last_line, line}
use Rattle.gutsirava_views.specs.declared.json.JsonWriter.{JsonWriter}

-- an item begins with this text
pub record BeginsItem (lead : List ℕ) (old new : JsonWriter) : Type 0 where
  pub whole : string_bytes new.text
      ≡ string_bytes old.text ++ (comma old.is_first ++ (line old.depth ++ lead))
  pub depth_kept : new.depth ≡ old.depth
  pub later : new.is_first ≡ false

-- a bracket begins items one deeper
pub record Opens (bracket : List ℕ) (old new : JsonWriter) : Type 0 where
  pub whole : string_bytes new.text ≡ string_bytes old.text ++ bracket
  pub deeper : new.depth ≡ old.depth + 1
  pub first : new.is_first ≡ true

-- an item begins with this text, and with a bracket for items one deeper
pub record OpensItem (lead bracket : List ℕ) (old new : JsonWriter) : Type 0 where
  pub whole : string_bytes new.text ≡ string_bytes old.text
      ++ (comma old.is_first ++ (line old.depth ++ (lead ++ bracket)))
  pub deeper : new.depth ≡ old.depth + 1
  pub first : new.is_first ≡ true

-- a bracket ends items
pub record Closes (bracket : List ℕ) (old new : JsonWriter) : Type 0 where
  pub whole : string_bytes new.text
      ≡ string_bytes old.text ++ (last_line old.is_first (old.depth - 1) ++ bracket)
  pub shallower : new.depth ≡ old.depth - 1
  pub later : new.is_first ≡ false

-- these items stand there in addition, in their order
pub record AddsItems (depth : ℕ) (items : List (List ℕ)) (old new : JsonWriter) : Type 0 where
  pub whole : string_bytes new.text
      ≡ string_bytes old.text ++ items_text old.is_first depth items
  pub at_depth : new.depth ≡ depth
  pub first : new.is_first ≡ old.is_first && is_none items
