use Rattle.std.proofs.Common.{◌≡◌, ◌<◌, All, List, length, map, refl, sym, ap, ◌∙◌, subst, arith}
use Rattle.std.proofs.lemmas.List.{length-map}
use Rattle.bundle_syntax.specs.Item.{Item, item_of}
use Rattle.bundle_rules.specs.Scopes.{Top}
use Rattle.bundle_rules.specs.Declarations.{ByContext}
use Rattle.bundle_rules.specs.Order.{group_of}
use Rattle.bundle_rules.specs.Statements.{TopItem, top_items}
use Rattle.bundle_order_sort.specs.declared.Dependency.{Dependency}
use Rattle.bundle_order.specs.Found.{AreFound}
use Rattle.bundle_order.specs.declared.seen.Seen.{Seen}
use Rattle.bundle_order.specs.Cut.{cut_item, cut_items, dependencies_of}
use Rattle.bundle_order.specs.Numbered.{numbered_row, numbered_group}
use Rattle.bundle_order.specs.Owners.{range_module}
use Rattle.bundle_order.specs.Told.{told_at}
use Rattle.bundle_order.proofs.EventLemmas.{numbered_alike, seen_all_within}
use Rattle.bundle_order.proofs.needs.dependencies.Goals as goal

pub returns-clause-found : goal.returns-clause-found
returns-clause-found c = λ is only.
    let tree = map item_of c.args.pieces.now in
    let table = c.args.denotations.now in
    let told = told_at tree table c.args.top in
    let ranges = c.args.items.now in
    let cut = cut_items tree ranges in
    let owners = map range_module ranges in
    let seen = c.deref.ensures.value ∙ c.in_ok-seen.ensures in
    let within : All (λ (one : Seen). one.binding < c.len.result) c.deref.result.now = subst (λ n. All (λ (one : Seen). one.binding < n) c.deref.result.now) (let count : length table.bindings.items ≡ c.len.result = omega (arith, c.len.ensures, table.bindings.ok.0) in count) (seen_all_within tree table c.args.top c.deref.result.now cut seen) in
    let count : length (map (numbered_row told) cut) ≡ length owners = length-map cut (numbered_row told) ∙ (length-map ranges (cut_item tree) ∙ sym (length-map ranges range_module)) in
    let found = c.in_ok-found.ensures.exact (group_of ByContext Top tree cut owners) (numbered_group told cut owners) (numbered_alike tree table c.args.top is only told (λ p. refl) cut owners) seen (c.deref-2.ensures.value ∙ c.in_ok-owners.ensures) count within in
    subst (λ (l : List (List Dependency)). AreFound (group_of ByContext Top tree cut owners) l) (sym (c.in_ok-sorted.ensures.found ∙ ap (λ l. map (λ v. v.items) l) c.deref-3.ensures.value)) found

pub returns-clause-whole : goal.returns-clause-whole
returns-clause-whole c = λ all is_tree is_cut is only.
    let tree = map item_of c.args.pieces.now in
    let owners = map range_module c.args.items.now in
    subst (λ (l : List Item). AreFound (group_of ByContext Top l (top_items l) owners) (map dependencies_of c.in_ok-sorted.sorted.items)) is_tree
    (subst (λ (l : List TopItem). AreFound (group_of ByContext Top tree l owners) (map dependencies_of c.in_ok-sorted.sorted.items)) is_cut (returns-clause-found c is only))
