use Rattle.std.proofs.Common.{List, ap, ◌∙◌}
use Rattle.std.proofs.lemmas.Result.{on_ok_weaker}
use Rattle.bundle_tree_listed.specs.Tree.{module_item_items}
use Rattle.bundle_rules.specs.Parts.{Owned, Parts, with_prepended}
use Rattle.bundle_merge_modules.specs.Held.{parts_held}
use Rattle.bundle_merge_modules.proofs.TreeLemmas.{put-made}
use Rattle.bundle_merge_modules.proofs.modules.Modules.prepend.Goals as goal

pub returns-clause-added : goal.returns-clause-added
returns-clause-added c =
    let old = c.self.inside.parts in
    on_ok_weaker c.prepend.result
    (λ e.
    ap parts_held e
    ∙ ap (λ (l : List Owned). record (parts_held old) { prepended = l }) (put-made (module_item_items 0) old.prepended c.args.id c.args.item)
    ∙ ap (λ (parts : Parts). with_prepended parts (c.args.id, module_item_items 0 c.args.item)) c.self.view_is)
    c.prepend.ensures.put
