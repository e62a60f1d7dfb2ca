-- One renaming after the other.
use Rattle.std.specs.Prelude.{◌≡◌, List}
use Rattle.std.specs.List.{flat_map}
use Rattle.bundle_tree_ast.specs.declared.module.ModuleItem.{ModuleItem}
use Rattle.bundle_syntax.specs.Item.{Item}
use Rattle.bundle_tree_listed.specs.Tree.{module_item_items}
use Rattle.bundle_rules.specs.Rebuilds.{Renaming, renamed_all}

-- the list of the items of a module
abbrev pub items_list : List ModuleItem → List Item
items_list items = flat_map (module_item_items 0) items

-- to rename the items of a module by one and then by the other is to rename them by both
abbrev pub Compose : Renaming → Renaming → Renaming → Type 0
Compose first second both =
    (items : List ModuleItem) →
    renamed_all second (renamed_all first (items_list items)) ≡ renamed_all both (items_list items)
