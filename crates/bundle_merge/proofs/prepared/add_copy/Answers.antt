-- The copy goes last.
use Rattle.std.proofs.Common.{◌∷◌, ◌++◌, [], Some, map, ap, sym, ◌∙◌}
use Rattle.std.proofs.lemmas.List.{map_push}
use Rattle.std.proofs.lemmas.Option.{slice_get-get_or, slice_get_past}
use Rattle.bundle_tree_ast.specs.declared.module.Module.{Module}
use Rattle.bundle_tree_listed.specs.Tree.{module_item_items}
use Rattle.bundle_merge_items.specs.Added.{module_item_lists}
use Rattle.bundle_merge.proofs.Copied.{set-none, set-one}
use Rattle.bundle_merge_items.proofs.Copies.{rebuilt-none}
use Rattle.bundle_merge.proofs.prepared.add_copy.Goals as goal

pub returns-in_ok-push : goal.returns-in_ok-push
returns-in_ok-push c =
    let copies = c.args.copies.now.items in
    let its = c.in-Some.module.now in
    let more : Module = record { body = c.push.new.self } in
    let item = module_item_items 0 c.args.item.now in
    set-one copies c.args.place its more item
    (slice_get-get_or copies c.args.place its c.in-Some.ensures.item.3.0
    ∙ ap (λ x. Some x) (sym c.in-Some.ensures.value))
    (ap (map (module_item_items 0)) c.in_ok-push.ensures.items
    ∙ map_push (module_item_items 0) its.body.items c.in_ok-rebuild_item.field-0
    ∙ ap (λ made. module_item_lists its ++ made ∷ []) (c.in_ok-rebuild_item.ensures ∙ rebuilt-none item))

pub returns-in_default : goal.returns-in_default
returns-in_default c =
    let copies = c.args.copies.now.items in
    set-none copies c.args.place (module_item_items 0 c.args.item.now)
    (slice_get_past copies c.args.place c.in_default.ensures.item.3)
