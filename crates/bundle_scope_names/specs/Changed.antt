-- The changes of a list's identifiers, one by one.
use Rattle.std.specs.Prelude.{ℕ, List, [], ◌∷◌, Option, Some, None, map}
use Rattle.bundle_syntax.specs.Item.{Item}
use Rattle.bundle_rules.specs.Idents.{Ident}
use Rattle.bundle_rules.specs.Rebuilds.{Change, change_to}
use Rattle.bundle_tree_places.specs.Marks.{listed_as}
use Rattle.bundle_scope_names.specs.declared.names.Names.{Names}
use Rattle.bundle_scope_names.specs.declared.names.ContextRule.{ContextRule}
use Rattle.bundle_scope_names.specs.Called.{called_ident, in_context}

-- the change of an identifier, if it denotes something
abbrev pub change_next : Names → ContextRule → Ident → Option (Option ℕ) → List Change
change_next names contexts ident None = []
change_next names contexts ident (Some binding) =
    change_to ident (in_context contexts (called_ident names ident binding)) ∷ []

-- the identifier of an element, if it binds or refers
abbrev pub idents_as : Item → List Ident
idents_as item = map (λ pair. pair.0) (listed_as item)
