use Rattle.std.proofs.Common.{ap, subst}
use Rattle.bundle_tree_listed.specs.Tree.{module_item_items}
use Rattle.bundle_merge_modules.specs.Calls.{AsksOf}
use Rattle.bundle_rules.specs.Parts.{Parts, Retains}
use Rattle.bundle_merge_modules.specs.Held.{AsksItem, parts_held}
use Rattle.bundle_merge_modules.proofs.TreeLemmas.{Retains-made}
use Rattle.bundle_merge_modules.proofs.modules.Modules.retain_mut.Goals as goal

pub returns : goal.returns
returns g c =
    let tree = module_item_items 0 in
    let may = AsksOf (goal.F-post g c.args.f.now) in
    let say = AsksItem (goal.F-post g c.args.f.now) in
    subst (λ (parts : Parts). Retains say parts (parts_held c.retain_mut.new.self)) c.self.view_is
    (Retains-made tree may say (λ m x b a. (a.0, ap tree a.1, a.2)) c.self.inside.parts c.retain_mut.new.self c.retain_mut.ensures)
