-- What becomes of an item where aliases are inlined, and which aliases there are.
use Rattle.std.specs.Prelude.{◌≡◌, List, [], ◌∷◌, Option, Some, None, map}
use Rattle.std.specs.List.{flat_map}
use Rattle.bundle_tree_ast.specs.declared.module.ModuleItem.{ModuleItem}
use Rattle.bundle_syntax.specs.Item.{Item}
use Rattle.bundle_tree_listed.specs.Tree.{module_item_items}
use Rattle.bundle_rules.specs.Aliases.{IsAlias, MakesAlias}
use Rattle.bundle_rules.specs.Idents.{Ident}
use Rattle.bundle_rules.specs.Parts.{Owned, Parts}
use Rattle.bundle_rules.specs.Rebuilds.{Renaming, renamed_all}
use Rattle.bundle_marks.specs.Idents.{pair_named}
use Rattle.bundle_merge_modules.specs.Aliased.{alias_in}
use Rattle.bundle_merge_modules.specs.Pairs.{AliasPair}

-- an item that makes an alias goes, and any other is renamed
abbrev pub IsItemInlined : Renaming → List Item → Option (List Item) → Type 0
IsItemInlined renaming item None = (a : Ident) × (b : Ident) × MakesAlias item a b
IsItemInlined renaming item (Some made) =
    ((a b : Ident) → MakesAlias item a b → ⊥)
    × ((it : ModuleItem) × (module_item_items 0 it ≡ item)) × (made ≡ renamed_all renaming item)

-- one or none, as a list
abbrev pub option_list : {A : Type 0} → Option A → List A
option_list None = []
option_list (Some x) = x ∷ []

-- what an item makes an alias, and of what
abbrev pub alias_list : List Item → List (Ident × Ident)
alias_list item = option_list (alias_in item)

-- these pairs are the aliases that the items make, in turn
abbrev pub ArePairsOf : List Owned → List AliasPair → Type 0
ArePairsOf all pairs = map pair_named pairs ≡ flat_map alias_list (map (λ one. one.1) all)

-- no identifier is made an alias of two
abbrev pub AreAliasesOnce : Parts → Type 0
AreAliasesOnce parts = (a b c : Ident) → IsAlias parts a b → IsAlias parts a c → b ≡ c
