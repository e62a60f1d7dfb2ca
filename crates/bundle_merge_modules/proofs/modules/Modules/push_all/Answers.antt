use Rattle.std.proofs.Common.{ap, ◌∙◌}
use Rattle.std.proofs.lemmas.Result.{on_ok_weaker}
use Rattle.bundle_tree_listed.specs.Tree.{module_item_items}
use Rattle.bundle_rules.specs.Parts.{Parts, joined}
use Rattle.bundle_merge_modules.specs.Held.{parts_held}
use Rattle.bundle_merge_modules.proofs.TreeLemmas.{joined-made}
use Rattle.bundle_merge_modules.proofs.modules.Modules.push_all.Goals as goal

pub returns-clause-added : goal.returns-clause-added
returns-clause-added c =
    on_ok_weaker c.push_all.result
    (λ e.
    ap parts_held e
    ∙ joined-made (module_item_items 0) c.self.inside.parts c.other.inside.parts
    ∙ ap (λ (parts : Parts). joined parts (parts_held c.other.inside.parts)) c.self.view_is
    ∙ ap (λ (parts : Parts). joined c.args.self.now parts) c.other.view_is)
    c.push_all.ensures.put
