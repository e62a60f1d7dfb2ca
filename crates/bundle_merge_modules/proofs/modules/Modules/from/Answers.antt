use Rattle.std.proofs.Common.{ap, ◌∙◌}
use Rattle.std.specs.Prelude.{map}
use Rattle.std.specs.declared.alloc.Global.{Global}
use Rattle.std.specs.declared.vec.Vec.{Vec}
use Rattle.bundle_tree_ast.specs.declared.module.ModuleItem.{ModuleItem}
use Rattle.bundle_tree_listed.specs.Tree.{module_item_items}
use Rattle.bundle_rules.specs.Parts.{parts_of}
use Rattle.bundle_merge_modules.specs.Held.{parts_held}
use Rattle.bundle_merge_modules.proofs.TreeLemmas.{held_by-made}
use Rattle.bundle_merge_modules.proofs.modules.Modules.from.Goals as goal

pub returns : goal.returns
returns c =
    ap parts_held c.in_ok-parts.ensures
    ∙ held_by-made (module_item_items 0) c.args.id c.into_body.result.items
    ∙ ap (λ (v : Vec ModuleItem Global). parts_of c.args.id (map (module_item_items 0) v.items)) c.into_body.ensures
