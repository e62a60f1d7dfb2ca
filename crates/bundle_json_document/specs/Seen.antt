-- Values of a text that were found, as data.
use Rattle.std.specs.Prelude.{ℕ, List, [], ◌∷◌, Option, option_map}
use Rattle.std.specs.Borrow.{Bor}
use Rattle.std.specs.declared.alloc.Global.{Global}
use Rattle.json.specs.declared.value.Value.{Value}
use Rattle.serde_json.specs.Data.{Data, Members, member, no_members}
use Rattle.bundle_json_form.specs.Plain.{seen}

-- what a look-up found
abbrev pub value_found : Option (Bor (Value Global)) → Option Data
value_found it = option_map (λ value. seen value.now) it

-- the members of an object, each key once
abbrev pub last_members : List (Bor (List ℕ) × Bor (Value Global)) → Members
last_members [] = no_members
last_members (m ∷ ms) = member m.0.now (seen m.1.now) (last_members ms)
