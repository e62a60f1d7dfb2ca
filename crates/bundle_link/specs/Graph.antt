-- Which modules request which, where they stand at the places of their numbers.
use Rattle.std.specs.Prelude.{◌≡◌, ℕ, ◌<◌, List, [], Option, Some, String, filter_map, slice_get}
use Rattle.std.specs.Borrow.{Bor}
use Rattle.std.specs.Option.{option_and_then}
use Rattle.std.specs.declared.alloc.Global.{Global}
use Rattle.std.specs.BTreeMap.{BTreeMap, get_by_text}
use Rattle.bundle_order_graph.specs.Modules.{Modules, deps}
use Rattle.bundle_rules.specs.Nodes.{Text, numbers_once}
use Rattle.bundle_link_index.specs.declared.target.LinkModule.{LinkModule}

-- the module to which a text leads by places among these numbers
abbrev pub asked_for : List ℕ → BTreeMap (String Global) ℕ → Text → Option ℕ
asked_for ids leads s = option_and_then (slice_get ids) (get_by_text leads s)

-- the modules to which these texts lead, in their order
abbrev pub asked_modules : List ℕ → BTreeMap (String Global) ℕ → List (Bor Text) → List ℕ
asked_modules ids leads texts = filter_map (λ text. asked_for ids leads text.now) texts

-- of the first n modules just the requests are noted that lead to these numbers
pub record IsRequestGraph
    (ids : List ℕ) (modules : List LinkModule) (n : ℕ) (graph : Modules) : Type 0 where
  pub own : (i m : ℕ) (its : LinkModule) →
      i < n →
      slice_get ids i ≡ Some m →
      slice_get modules i ≡ Some its →
      deps graph m ≡ numbers_once (asked_modules ids its.leads.now its.tables.now.requests.items)
  pub others : (m : ℕ) → ((i : ℕ) → i < n → slice_get ids i ≡ Some m → ⊥) → deps graph m ≡ []
