-- The items stand in the new order.
use Rattle.std.proofs.Common.{ℕ, List, map, sym, subst}
use Rattle.std.specs.Prelude.{IsPermutation}
use Rattle.std.proofs.lemmas.Result.{on_ok_weaker}
use Rattle.bundle_merge_modules.specs.Parts.{all_in_order as in_order_of}
use Rattle.bundle_rules.specs.Parts.{Parts, in_order}
use Rattle.bundle_merge_modules.specs.Held.{parts_held, trees_of}
use Rattle.bundle_merge_modules.specs.Placed.{IsNewOrder}
use Rattle.bundle_merge_modules.specs.Sorted.{IsSortedWhole}
use Rattle.bundle_merge_modules.proofs.InlinedLemmas.{moved, sorted-into, sorted-whole}
use Rattle.bundle_merge_modules.proofs.modules.Modules.sort.Goals as goal

pub returns-clause-sorted : goal.returns-clause-sorted
returns-clause-sorted c =
    let g = c.args.graph.now in
    let entry = c.args.entry in
    let old = c.self.inside.parts in
    let new = c.arrange.new.self in
    let order = c.deref.result.now in
    let is = subst (λ (l : List ℕ). IsNewOrder g entry (trees_of (in_order_of old)) l) (sym c.deref.ensures.value) c.in_ok-order.ensures in
    on_ok_weaker c.arrange.result
    (λ a. sorted-into g entry c.args.self.now (parts_held new) (subst (λ (before : Parts). IsSortedWhole g entry before (parts_held new)) c.self.view_is (sorted-whole g entry old order new is a)))
    c.arrange.ensures.arranged

pub returns-clause-whole : goal.returns-clause-whole
returns-clause-whole c =
    let g = c.args.graph.now in
    let entry = c.args.entry in
    let old = c.self.inside.parts in
    let new = c.arrange.new.self in
    let order = c.deref.result.now in
    let is = subst (λ (l : List ℕ). IsNewOrder g entry (trees_of (in_order_of old)) l) (sym c.deref.ensures.value) c.in_ok-order.ensures in
    on_ok_weaker c.arrange.result
    (λ a. subst (λ (before : Parts). IsSortedWhole g entry before (parts_held new)) c.self.view_is (sorted-whole g entry old order new is a))
    c.arrange.ensures.arranged

pub returns-clause-moved : goal.returns-clause-moved
returns-clause-moved c =
    let g = c.args.graph.now in
    let entry = c.args.entry in
    let old = c.self.inside.parts in
    let new = c.arrange.new.self in
    let order = c.deref.result.now in
    let is = subst (λ (l : List ℕ). IsNewOrder g entry (trees_of (in_order_of old)) l) (sym c.deref.ensures.value) c.in_ok-order.ensures in
    on_ok_weaker c.arrange.result
    (λ a. subst (λ (before : Parts). IsPermutation (map (λ pair. pair.1) (in_order before)) (map (λ pair. pair.1) (in_order (parts_held new)))) c.self.view_is (moved g entry old order new is a))
    c.arrange.ensures.arranged
