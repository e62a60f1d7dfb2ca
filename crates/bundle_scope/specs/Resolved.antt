-- What a resolver owes for the tree of a module.
use Rattle.std.specs.Prelude.{◌≡◌, ◌≤◌, List, None, Some}
use Rattle.bundle_syntax.specs.Item.{Item}
use Rattle.bundle_rules.specs.Scopes.{ModuleKind}
use Rattle.bundle_rules.specs.Doubled.{first_doubled}
use Rattle.bundle_rules.specs.Renamed.{IsResolvedFrom}
use Rattle.bundle_scope_names.specs.Resolution.{AreContextsFit, ResolvesFit}
use Rattle.bundle_scope_names.specs.declared.contexts.ContextsGiven.{ContextsGiven}
use Rattle.bundle_scope.specs.Contexts.{HeldContexts}

-- where the contexts are fit, the tree is resolved by them: the numbers that were given are those
-- from the next one before to the next one after
abbrev pub IsResolvedBy : ModuleKind → (before after : HeldContexts) → List Item → List Item →
    Type 0
IsResolvedBy kind before after tree made =
    AreContextsFit before.local before.next →
    IsResolvedFrom kind before.local before.next after.next tree made

-- the contexts are for a list in which no name is doubled
pub record IsScopeJudged
    (kind : ModuleKind) (held : HeldContexts) (tree : List Item)
    (resolution : ContextsGiven) : Type 0 where
  pub undoubled : first_doubled kind tree ≡ None
  pub resolves : ResolvesFit kind tree held.local held.next (Some resolution)
  pub rises : held.next ≤ resolution.next
