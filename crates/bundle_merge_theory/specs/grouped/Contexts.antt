-- Names of the top, by symbol and context.
use Rattle.std.specs.Prelude.{◌≡◌, ◌≢◌, ℕ, true, List, Some, slice_get}
use Rattle.bundle_syntax.specs.Item.{Item}
use Rattle.bundle_rules.specs.Places.{Occurrence, occurrences, is_binding}
use Rattle.bundle_rules.specs.Scopes.{Es, scopes_around}
use Rattle.bundle_rules.specs.Declarations.{Way, way_of}
use Rattle.bundle_rules.specs.Denotes.{SameIdent}
use Rattle.bundle_rules.specs.Homes.{from_taker}
use Rattle.bundle_merge_theory.specs.grouped.Forms.{is_top_first}
use Rattle.bundle_merge_theory.specs.grouped.Renaming.{HasWays}

-- an identifier declares at the top of a module, by the nodes around it
pub record IsTopBinding (o : Occurrence) : Type 0 where
  pub binds : is_binding o.role ≡ true
  pub way : Way
  pub is : way_of o.path ≡ Some way
  pub top : is_top_first (from_taker way (scopes_around Es o.path)) ≡ true

-- what binds and has the symbol and context of what declares at the top declares there too
pub record TopsApart (tree : List Item) : Type 0 where
  pub apart : (n m : ℕ) (o p : Occurrence) → slice_get (occurrences tree) n ≡ Some o →
      slice_get (occurrences tree) m ≡ Some p → is_binding o.role ≡ true → SameIdent o p →
      IsTopBinding p → IsTopBinding o

-- nothing that binds has the context of what nothing binds
pub record BindsOwnContexts (tree : List Item) : Type 0 where
  pub own : (n : ℕ) (o : Occurrence) → slice_get (occurrences tree) n ≡ Some o →
      is_binding o.role ≡ true → o.ctxt ≢ 1

-- by symbol and context, names of the top and globals are told apart in this tree
pub record AreNamesToldApart (tree : List Item) : Type 0 where
  pub ways : HasWays tree
  pub tops : TopsApart tree
  pub own : BindsOwnContexts tree
