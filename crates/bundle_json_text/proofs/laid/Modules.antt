-- The tree of a module, which is laid out as the JSON form wants it.
use Rattle.bundle_tree_ast.specs.declared.module.Module.{Module}
use Rattle.bundle_tree_listed.specs.Tree.{module_items}
use Rattle.bundle_scope_names.proofs.grown.Grown.{module_fit}
use Rattle.bundle_json_text.proofs.laid.Shown.{IsShownTree, shown_tree}

pub module_tree : (it : Module) → IsShownTree 0 (module_items 0 it)
module_tree it = shown_tree (module_fit 0 it)
