use Rattle.std.proofs.Common.{List, ap, ◌∙◌}
use Rattle.std.specs.Prelude.{flat_map}
use Rattle.bundle_tree_ast.specs.declared.module.ModuleItem.{ModuleItem}
use Rattle.bundle_tree_listed.specs.Tree.{module_item_items}
use Rattle.bundle_rules.specs.Parts.{body_of, tree_of_items}
use Rattle.bundle_merge_modules.proofs.TreeLemmas.{body-made}
use Rattle.bundle_merge_modules.proofs.modules.Modules.into_module.Goals as goal

pub returns : goal.returns
returns c =
    ap (λ (l : List ModuleItem). tree_of_items (flat_map (module_item_items 0) l)) c.in_ok-body.ensures
    ∙ body-made (module_item_items 0) c.self.inside.parts
    ∙ ap body_of c.self.view_is
