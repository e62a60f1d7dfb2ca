use Rattle.std.proofs.Common.{List, Option, rules, subst}
use Rattle.std.specs.Prelude.{option_map}
use Rattle.bundle_syntax.specs.Item.{Item}
use Rattle.bundle_tree_listed.specs.Tree.{module_item_items}
use Rattle.bundle_merge_modules.specs.Made.{IsItemInlined}
use Rattle.bundle_merge_modules.proofs.InlinedLemmas.{maps_made}
use Rattle.bundle_merge_modules.proofs.inline.replace.Goals as goal

pub returns-in-Ok-clause-made : goal.returns-in-Ok-clause-made
returns-in-Ok-clause-made c =
    let tree = module_item_items 0 in
    let renaming = c.args.renaming.now in
    maps_made renaming c.args.modules.now c.map_some_items.new.self c.in-Ok.ensures.answered
    (λ m x y p.
    let made : IsItemInlined renaming (tree p.0.now) (option_map tree p.1) = search rules in
    subst (λ (l : List Item). IsItemInlined renaming l y) p.2 (subst (λ (o : Option (List Item)). IsItemInlined renaming (tree p.0.now) o) p.4 made))
