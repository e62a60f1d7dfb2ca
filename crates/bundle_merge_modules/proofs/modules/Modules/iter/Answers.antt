use Rattle.std.proofs.Common.{ap, ◌∙◌}
use Rattle.bundle_tree_listed.specs.Tree.{module_item_items}
use Rattle.bundle_rules.specs.Parts.{in_order}
use Rattle.bundle_merge_modules.specs.Held.{trees_of}
use Rattle.bundle_merge_modules.proofs.TreeLemmas.{order-made}
use Rattle.bundle_merge_modules.proofs.modules.Modules.iter.Goals as goal

pub returns : goal.returns
returns c =
    ap trees_of c.iter.ensures
    ∙ order-made (module_item_items 0) c.self.inside.parts
    ∙ ap in_order c.self.view_is
