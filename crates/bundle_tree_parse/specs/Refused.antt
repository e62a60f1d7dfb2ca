-- Lists that are of no tree.
use Rattle.std.specs.Prelude.{◌≡◌, List}
use Rattle.std.specs.List.{flat_map}
use Rattle.bundle_tree_ast.specs.declared.module.Module.{Module}
use Rattle.bundle_tree_ast.specs.declared.expr.Expr.{Expr}
use Rattle.bundle_tree_ast.specs.declared.prop.KeyValueProp.{KeyValueProp}
use Rattle.bundle_syntax.specs.Item.{Item}
use Rattle.bundle_tree_listed.specs.Tree.{key_value_prop_items, module_items}

-- no module has this list
abbrev pub IsListOfNoModule : List Item → Type 0
IsListOfNoModule items = (it : Module) → module_items 0 it ≡ items → ⊥

-- no row of properties, each in field 0, has this list
abbrev pub IsListOfNoProperties : List Item → Type 0
IsListOfNoProperties items =
    (list : List (KeyValueProp Expr)) → flat_map (key_value_prop_items 0) list ≡ items → ⊥
