-- When modules are those that the entry of a program reaches.
use Rattle.std.specs.Prelude.{◌≡◌, ◌↔◌, ℕ, suc, List, [], Option, Some, None, Contains, length, map, slice_get, ◌<◌}
use Rattle.std.specs.Option.{option_and_then}
use Rattle.std.specs.declared.alloc.Global.{Global}
use Rattle.std.specs.declared.string.String.{String}
use Rattle.std.specs.declared.vec.Vec.{Vec}
use Rattle.std.specs.BTreeMap.{BTreeMap, get_by_text}
use Rattle.bundle_rules.specs.Nodes.{Text}
use Rattle.bundle_rules.specs.Judging.{requests_in}
use Rattle.bundle_rules.specs.Program.{Program, tree_of, IsList, IsReached}
use Rattle.bundle_link_index.specs.Numbered.{HasNoDoubles}
use Rattle.bundle_link.specs.Leads.{Deps, module_place, last_told}
use Rattle.bundle_link.specs.declared.reached.Reached.{Reached}

-- the requests that are noted at a place
abbrev pub deps_at : Option (Vec (String Global × ℕ) Global) → Deps
deps_at None = []
deps_at (Some its) = its.items

-- the texts that are noted at a place lead to the places of their modules among these numbers
abbrev pub LeadsBy :
    List (Vec (String Global × ℕ) Global) → List ℕ → ℕ → BTreeMap (String Global) ℕ → Type 0
LeadsBy deps ids place leads =
    (s : Text) →
    get_by_text leads s ≡ last_told (module_place ids) (deps_at (slice_get deps place)) s

-- the list is that of the program; its modules stand at these places among these numbers, and the
-- requests of each lead to the places of the list at which the modules stand to which they lead in
-- the program
pub record IsReachedOf (p : Program) (numbers : List ℕ) (found : Reached) : Type 0 where
  pub is_list : IsList p found.list.items
  pub reached : (n : ℕ) → Contains found.list.items n ↔ IsReached p n
  pub once : HasNoDoubles found.list.items
  pub places : map (slice_get numbers) found.places.items ≡ map (λ m. Some m) found.list.items
  pub long : length found.leads.items ≡ length found.list.items
  pub leads : (i m : ℕ) (its : BTreeMap (String Global) ℕ) (s : Text) →
      slice_get found.list.items i ≡ Some m →
      slice_get found.leads.items i ≡ Some its →
      Contains (requests_in p.settings (tree_of p m)) s →
      get_by_text its s ≡ option_and_then (module_place found.list.items) (p.leads m s)
  pub within : (i d : ℕ) (its : BTreeMap (String Global) ℕ) (s : Text) →
      slice_get found.leads.items i ≡ Some its →
      get_by_text its s ≡ Some d →
      d < length found.list.items
  pub last : (i : ℕ) → slice_get found.list.items i ≡ Some p.entry → suc i ≡ length found.list.items
