-- The same tree, in which bindings are called otherwise.
use Rattle.std.proofs.Common.{◌≡◌, List, map, ap₂}
use Rattle.bundle_syntax.specs.Item.{Item}
use Rattle.bundle_rules.specs.Idents.{idents}
use Rattle.bundle_rules.specs.Rebuilds.{rebuilt, with_idents}
use Rattle.bundle_scope_denote.specs.declared.table.Denotations.{Denotations}
use Rattle.bundle_scope_names.specs.declared.names.ContextRule.{ContextRule}
use Rattle.bundle_scope_names.specs.declared.names.Names.{Names}
use Rattle.bundle_scope_names.specs.Called.{name_changes}
use Rattle.bundle_scope.specs.Named.{called_by}

-- what is rebuilt by these changes of a list is the tree with these names, where both are that tree
pub called-is : (tree list before : List Item) (contexts : ContextRule) (names : Names) (table : Denotations) → tree ≡ before → list ≡ before → rebuilt tree (name_changes names contexts (idents list) (map (λ denoted. denoted.binding) table.occurrences.items)) ≡ with_idents before (called_by table names contexts before)
called-is tree list before contexts names table one two =
    ap₂ (λ (t l : List Item). rebuilt t (name_changes names contexts (idents l) (map (λ denoted. denoted.binding) table.occurrences.items))) one two
