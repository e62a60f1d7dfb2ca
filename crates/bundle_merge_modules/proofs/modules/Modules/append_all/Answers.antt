use Rattle.std.proofs.Common.{ap, ◌∙◌}
use Rattle.std.proofs.lemmas.Result.{on_ok_weaker}
use Rattle.bundle_tree_listed.specs.Tree.{module_item_items}
use Rattle.bundle_rules.specs.Parts.{Parts, with_all_appended}
use Rattle.bundle_merge_modules.specs.Held.{parts_held, trees_of}
use Rattle.bundle_merge_modules.proofs.TreeLemmas.{turn-made}
use Rattle.bundle_merge_modules.proofs.modules.Modules.append_all.Goals as goal

pub returns-clause-added : goal.returns-clause-added
returns-clause-added c =
    on_ok_weaker c.append_all.result
    (λ e.
    ap parts_held e
    ∙ turn-made (module_item_items 0) c.self.inside.parts c.args.items.items
    ∙ ap (λ (parts : Parts). with_all_appended parts (trees_of c.args.items.items)) c.self.view_is)
    c.append_all.ensures.put
