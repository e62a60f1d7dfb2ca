-- What is found in the closed list is that of the items.
use Rattle.std.proofs.Common.{◌≡◌, ℕ, Option, List, [], ◌∷◌, ◌++◌, map, sym, ap, ◌∙◌, subst}
use Rattle.std.proofs.lemmas.List.{map-append}
use Rattle.bundle_syntax.specs.declared.piece.Piece.{Piece}
use Rattle.bundle_syntax.specs.declared.piece.Piece.TheVariants as p
use Rattle.bundle_syntax.specs.Item as h
use Rattle.bundle_syntax.specs.Item.{Item, item_of}
use Rattle.bundle_rules.specs.Scopes.{Es, Top}
use Rattle.bundle_rules.specs.Declarations.{ByContext}
use Rattle.bundle_rules.specs.Order.{group_of}
use Rattle.bundle_rules.specs.Parts.{tree_of_items}
use Rattle.bundle_rules.specs.Sorting.{flat}
use Rattle.bundle_rules.specs.Statements.{TopItem, placed}
use Rattle.bundle_scope_denote.specs.Listed.{IsDenotationTable}
use Rattle.bundle_order.specs.Found.{AreFound}
use Rattle.bundle_order.specs.declared.needs.ItemRange.{ItemRange}
use Rattle.bundle_order.specs.Cut.{cut_items, dependencies_of}
use Rattle.bundle_order.specs.Owners.{range_module}
use Rattle.bundle_order.proofs.group.Group.dependencies.Goals as goal

pub returns-clause-found : goal.returns-clause-found
returns-clause-found c = λ lists owners g.
    let list = c.deref-2.result.now in
    let ranges = c.args.self.ranges.items in
    let found = map dependencies_of c.in_ok-sorted.sorted.items in
    let same = c.deref.ensures.value ∙ sym c.deref-2.ensures.value in
    let is : IsDenotationTable ByContext Es (map item_of list) c.in_ok-table.table = subst (λ (l : List Piece). IsDenotationTable ByContext Es (map item_of l) c.in_ok-table.table) same c.in_ok-table.ensures in
    let tree : map item_of list ≡ tree_of_items (flat lists) = ap (λ (l : List Piece). map item_of l) (c.deref-2.ensures.value ∙ c.in_ok-push.ensures.items) ∙ (map-append item_of c.args.self.list.items (p.Close ∷ []) ∙ ap (λ (l : List Item). l ++ h.Close ∷ []) g.list) in
    subst (λ (o : List (Option ℕ)). AreFound (group_of ByContext Top (tree_of_items (flat lists)) (placed 1 lists) o) found) g.owned
    (subst (λ (k : List TopItem). AreFound (group_of ByContext Top (tree_of_items (flat lists)) k (map range_module ranges)) found) (g.cut (h.Close ∷ []))
    (subst (λ (t : List Item). AreFound (group_of ByContext Top t (cut_items t ranges) (map range_module ranges)) found) tree
    (subst (λ (r : List ItemRange). AreFound (group_of ByContext Top (map item_of list) (cut_items (map item_of list) r) (map range_module r)) found) c.deref-3.ensures.value (c.in_ok-sorted.ensures.found is is.top))))
