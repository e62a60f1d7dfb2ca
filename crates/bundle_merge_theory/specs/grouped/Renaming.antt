-- What is asked of a tree of which identifiers change.
use Rattle.std.specs.Prelude.{◌≡◌, ℕ, true, List, Some, codes, slice_get}
use Rattle.bundle_syntax.specs.Item.{Item}
use Rattle.bundle_rules.specs.Places.{Occurrence, occurrences, is_binding}
use Rattle.bundle_rules.specs.Scopes.{Es, Top}
use Rattle.bundle_rules.specs.Declarations.{Reading, Way, way_of, declared}
use Rattle.bundle_rules.specs.Denotes.{Global, denoted_of}
use Rattle.bundle_rules.specs.Statements.{TopItem, top_items}
use Rattle.bundle_rules.specs.Order.{is_of_nothing, is_of_scope}

-- each identifier that binds stands where names are declared
pub record HasWays (tree : List Item) : Type 0 where
  pub way : (n : ℕ) (o : Occurrence) → slice_get (occurrences tree) n ≡ Some o →
      is_binding o.role ≡ true → (w : Way) × (way_of o.path ≡ Some w)

-- what denotes the global `Object` has the context of what nothing binds, where contexts are read
pub record HasObjects (reading : Reading) (tree : List Item) : Type 0 where
  pub unbound : (n : ℕ) (o : Occurrence) → slice_get (occurrences tree) n ≡ Some o →
      denoted_of reading Es (declared reading Es tree) o ≡ Global (codes "Object") →
      is_of_nothing reading (Some o) ≡ true

-- what binds denotes a binding of the top in both trees or in neither
pub record TopsKept (reading : Reading) (tree : List Item) (its_reading : Reading)
    (its_tree : List Item) : Type 0 where
  pub top : (n : ℕ) (o p : Occurrence) → slice_get (occurrences tree) n ≡ Some o →
      slice_get (occurrences its_tree) n ≡ Some p → is_binding o.role ≡ true →
      is_of_scope Top (denoted_of reading Es (declared reading Es tree) o)
      ≡ is_of_scope Top (denoted_of its_reading Es (declared its_reading Es its_tree) p)

-- item k of the one tree and item k of the other
pub record AtOne (tree its_tree : List Item) (item its : TopItem) : Type 0 where
  pub at : ℕ
  pub here : slice_get (top_items tree) at ≡ Some item
  pub there : slice_get (top_items its_tree) at ≡ Some its
