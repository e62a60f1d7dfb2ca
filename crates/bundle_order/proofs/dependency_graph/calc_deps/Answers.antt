-- There are as many dependencies as items.
use Rattle.std.proofs.Common.{◌≡◌, Vec, Global, List, length, map, sym, ap, ◌∙◌, subst}
use Rattle.std.proofs.lemmas.List.{length-map}
use Rattle.bundle_order_graph.specs.Statements.{weight}
use Rattle.bundle_syntax.specs.declared.piece.Piece.{Piece}
use Rattle.bundle_syntax.specs.Item.{Item, item_of}
use Rattle.bundle_tree_listed.specs.Tree.{module_item_items}
use Rattle.bundle_rules.specs.Declarations.{ByContext}
use Rattle.bundle_rules.specs.Scopes.{Top}
use Rattle.bundle_order_sort.specs.declared.SortItem.{SortItem}
use Rattle.bundle_rules.specs.Order.{Group, group_of}
use Rattle.bundle_rules.specs.Parts.{tree_of_items}
use Rattle.bundle_rules.specs.Sorting.{IsDependency, flat, group_of_items, owners_by}
use Rattle.bundle_rules.specs.Statements.{placed}
use Rattle.bundle_order.specs.Found.{AreFound}
use Rattle.bundle_order.specs.Cut.{dependencies_of}
use Rattle.bundle_order.specs.Grouped.{IsGroup, ends_of, group_placed}
use Rattle.bundle_order.specs.Items.{AreItemNodes, AreBetween}
use Rattle.bundle_order.proofs.NumberingLemmas.{AreBetween-graph, weights}
use Rattle.bundle_order.proofs.ReferenceLemmas.{whole}
use Rattle.bundle_order.proofs.dependency_graph.calc_deps.Goals as goal

pub returns-clause-nodes : goal.returns-clause-nodes
returns-clause-nodes c =
    let all : length c.deref-2.result.now ≡ length c.args.items.now = ap length c.deref-2.ensures.value ∙ (c.in_ok-needs.ensures.len ∙ (c.in_ok-group.ensures.len ∙ (ap length c.deref.ensures.value ∙ c.in_ok-lists.ensures.len))) in
    subst (λ count. AreItemNodes c.in_ok-graph_of.field-0 count) all c.in_ok-graph_of.ensures.nodes

pub returns-clause-edges : goal.returns-clause-edges
returns-clause-edges c =
    let all : length c.deref-2.result.now ≡ length c.args.items.now = ap length c.deref-2.ensures.value ∙ (c.in_ok-needs.ensures.len ∙ (c.in_ok-group.ensures.len ∙ (ap length c.deref.ensures.value ∙ c.in_ok-lists.ensures.len))) in
    subst (λ count. AreBetween c.in_ok-graph_of.field-0 count) all (AreBetween-graph _ _ c.in_ok-graph_of.ensures)

pub returns-clause-dependencies : goal.returns-clause-dependencies
returns-clause-dependencies c = λ up.
    let lists = map (module_item_items 0) c.args.items.now in
    let owners = owners_by (map ends_of c.args.modules.now) 0 lists in
    let graph = c.in_ok-graph_of.field-0 in
    let items = c.deref-2.result.now in
    let listed = ap (λ (l : List (Vec Piece Global)). map (λ (v : Vec Piece Global). map item_of v.items) l) c.deref.ensures.value ∙ c.in_ok-lists.ensures.lists in
    let group : IsGroup c.in_ok-group.group lists owners = subst (λ (l : List (List Item)). IsGroup c.in_ok-group.group l (owners_by (map ends_of c.args.modules.now) 0 l)) listed (c.in_ok-group.ensures.group up) in
    let found : AreFound (group_placed lists owners) (map dependencies_of items) = subst (λ (l : List SortItem). AreFound (group_placed lists owners) (map dependencies_of l)) (sym c.deref-2.ensures.value) (c.in_ok-needs.ensures.found lists owners group) in
    let same : group_placed lists owners ≡ group_of_items (flat lists) owners = ap (λ (l : List (List Item)). group_of ByContext Top (tree_of_items (flat lists)) (placed 1 l) owners) (sym (whole c.args.items.now)) in
    record {
      nodes = subst (λ count. AreItemNodes graph count) (sym (length-map c.args.items.now (module_item_items 0))) (returns-clause-nodes c);
      once = c.in_ok-graph_of.ensures.once;
      weights = λ s t. subst (λ (g : Group). IsDependency g s t (weight graph s t)) same (weights (group_placed lists owners) graph items c.in_ok-graph_of.ensures found s t);
    }
