use Rattle.std.proofs.Common.{refl, sym, ◌∙◌}
use Rattle.bundle_tree_listed.specs.Tree.{module_item_items}
use Rattle.bundle_merge_modules.proofs.AliasLemmas.{makes-none, makes-some}
use Rattle.bundle_merge_modules.proofs.inline.made_of.Goals as goal

pub returns-then-makes : goal.returns-then-makes
returns-then-makes c = makes-some (module_item_items 0 c.args.item.now) (sym c.in_ok-makes.ensures ∙ c.if-makes.true)

pub returns : goal.returns
returns c =
    let tree = module_item_items 0 c.args.item.now in
    (makes-none tree (sym c.in_ok-makes.ensures ∙ c.if-makes.false), (c.args.item.now, refl), c.in_ok-made.ensures)
