-- The contexts that the scopes of a list have, by their numbers in its table.
use Rattle.std.specs.Prelude.{◌≡◌, ℕ, ◌<◌, ◌≤◌, Bool, true, false, List, Option, Some, map, slice_get, unwrap_or}
use Rattle.bundle_syntax.specs.Item.{Item}
use Rattle.bundle_rules.specs.Scopes.{ModuleKind, Scope, scope_order}
use Rattle.bundle_rules.specs.Declarations.{BySymbol, Name}
use Rattle.bundle_rules.specs.Denotes.{Bound, denoted_as}
use Rattle.bundle_scope_denote.specs.declared.table.Denotations.{Denotations}
use Rattle.bundle_scope_denote.specs.declared.table.ScopeKind.{ScopeKind}
use Rattle.bundle_scope_denote.specs.declared.table.ScopeKind.TheVariants as k
use Rattle.bundle_scope_denote.specs.declared.table.Scope as s
use Rattle.bundle_scope_denote.specs.Chains.{numbered_scope_at}
use Rattle.bundle_scope_denote.specs.Numbers.{numbered_scope}
use Rattle.bundle_scope_names.proofs.Numbering.{Numbering}
use Rattle.bundle_merge_names.specs.declared.context.FreshContexts as c

-- the next context; where none is left, the number past the last
abbrev pub position : c.FreshContexts → ℕ
position contexts = unwrap_or contexts.next 4294967296

-- whether a scope is the top of a module, or the function as which a CommonJS module is read
abbrev pub is_at_top : ScopeKind → Bool
is_at_top k.Top = true
is_at_top k.Wrapper = true
is_at_top _ = false

-- the scope with a number, of which the table says what it is
abbrev pub scope_of : Denotations → ℕ → Option Scope
scope_of table number = numbered_scope_at (map numbered_scope table.scopes.items) number

-- the contexts of a list's scopes, by their numbers: each scope of which a name occurs has that of
-- the numbering
pub record AreNumbersOf (kind : ModuleKind) (items : List Item) (table : Denotations)
    (g : Numbering) (contexts : List (Option ℕ)) : Type 0 where
  pub each : (n : ℕ) (scope : Scope) (name : Name) (i : ℕ) →
      scope_of table n ≡ Some scope →
      denoted_as BySymbol kind items i ≡ Some (Bound scope name) →
      slice_get contexts n ≡ Some (Some (g (scope_order scope) name.sym))

-- contexts that were given to the scopes of a list, of which the top has this: those inside have
-- ones of a range, no two the same
pub record AreGivenTo (table : Denotations) (local from to : ℕ) (contexts : List (Option ℕ)) : Type
    0 where
  pub top : (n : ℕ) (scope : s.Scope) →
      slice_get table.scopes.items n ≡ Some scope →
      is_at_top scope.kind ≡ true →
      slice_get contexts n ≡ Some (Some local)
  pub within : (n c : ℕ) (scope : s.Scope) →
      slice_get table.scopes.items n ≡ Some scope →
      is_at_top scope.kind ≡ false →
      slice_get contexts n ≡ Some (Some c) →
      (from ≤ c) × (c < to)
  pub apart : (n m c : ℕ) (scope other : s.Scope) →
      slice_get table.scopes.items n ≡ Some scope →
      slice_get table.scopes.items m ≡ Some other →
      is_at_top scope.kind ≡ false →
      is_at_top other.kind ≡ false →
      slice_get contexts n ≡ Some (Some c) →
      slice_get contexts m ≡ Some (Some c) →
      n ≡ m
