-- An item more is copied, if its module has a place.
use Rattle.std.proofs.Common.{◌≡◌, List, [], length, map, replicate, ap, sym, ◌∙◌}
use Rattle.std.proofs.lemmas.List.{length-replicate}
use Rattle.std.proofs.lemmas.Option.{none-some}
use Rattle.bundle_tree_ast.specs.declared.module.ModuleItem.{ModuleItem}
use Rattle.bundle_tree_listed.specs.Tree.{module_item_items}
use Rattle.bundle_link.proofs.NumberLemmas.{at-place, held, place-there}
use Rattle.bundle_merge_items.specs.Added.{module_item_lists}
use Rattle.bundle_merge_modules.specs.Held.{trees_of}
use Rattle.bundle_merge_modules.specs.Parts.{OwnedOf}
use Rattle.bundle_rules.specs.Parts.{in_order}
use Rattle.bundle_merge.proofs.Copied.{copied-begin, copied-end, copied-none, copied-one, with_one-long, with_rest}
use Rattle.bundle_merge.proofs.prepared.copies_of.Goals as goal

pub loop-id-init : goal.loop-id-init
loop-id-init c =
    let keys = c.args.places.now.keys in
    let none : map module_item_lists c.in_ok-copies.copies.items ≡ replicate (length keys) [] =
    c.in_ok-copies.ensures ∙ ap (λ n. replicate n []) c.len.ensures.len in (
      ap length none ∙ length-replicate (length keys) [],
      λ once.
          ap (λ lists. with_rest keys lists (trees_of c.into_iter-id-iterator.result)) none
          ∙ ap (λ (rest : List (OwnedOf ModuleItem)). with_rest keys (replicate (length keys) []) (trees_of rest)) c.into_iter-id-iterator.ensures.into_iter_gives
          ∙ ap (λ rest. with_rest keys (replicate (length keys) []) rest) c.iter-id-items.ensures
          ∙ copied-begin keys (in_order c.args.prepared.now),
    )

pub loop-id-preserved-in-Continue-branch-2 : goal.loop-id-preserved-in-Continue-branch-2
loop-id-preserved-in-Continue-branch-2 c =
    let keys = c.args.places.now.keys in
    let old = map module_item_lists c.loop-id.copies.items in
    let place = c.in-Some-get_index_of.place in
    let item = module_item_items 0 c.in-Some.item.now in
    let rest = trees_of c.next.new.self in
    let at = at-place keys c.in-Some.id place (sym c.get_index_of.ensures.index ∙ c.in-Some-get_index_of.is) in (
      ap length c.in_ok-add_copy.ensures ∙ with_one-long place item old ∙ c.loop-id.invariant.0,
      λ once.
          ap (λ lists. with_rest keys lists rest) c.in_ok-add_copy.ensures
          ∙ copied-one c.in-Some.id item rest keys old once place at
          ∙ ap (λ (left : List (OwnedOf ModuleItem)). with_rest keys old (trees_of left)) (sym c.in-Some.ensures.steps)
          ∙ c.loop-id.invariant.1 once,
    )

pub loop-id-preserved : goal.loop-id-preserved
loop-id-preserved c =
    let keys = c.args.places.now.keys in
    let old = map module_item_lists c.loop-id.copies.items in
    let item = module_item_items 0 c.in-Some.item.now in
    let rest = trees_of c.next.new.self in (
      c.loop-id.invariant.0,
      λ once.
          copied-none c.in-Some.id item rest keys old
          (λ i there.
          (let k = place-there keys c.in-Some.id (held keys c.in-Some.id i there) in
          none-some k.0 (sym (sym c.get_index_of.ensures.index ∙ c.in_default.is) ∙ k.1)))
          ∙ ap (λ (left : List (OwnedOf ModuleItem)). with_rest keys old (trees_of left)) (sym c.in-Some.ensures.steps)
          ∙ c.loop-id.invariant.1 once,
    )

pub returns : goal.returns
returns c = λ once.
    let keys = c.args.places.now.keys in
    let lists = map module_item_lists c.loop-id.copies.items in
    sym (ap (λ (left : List (OwnedOf ModuleItem)). with_rest keys lists (trees_of left)) c.in-None.ensures.steps.0
    ∙ copied-end keys lists c.loop-id.invariant.0)
    ∙ c.loop-id.invariant.1 once
