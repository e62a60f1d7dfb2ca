use Rattle.std.proofs.Common.{◌≡◌, ℕ, None, List, [], map, get_or, refl, sym, ap, ◌∙◌, subst, arith}
use Rattle.std.specs.List.{filter}
use Rattle.std.proofs.lemmas.List.{get_or-map, length-map, map-set}
use Rattle.bundle_order_sort.specs.Items.{AddsNeeds, IsNeeded, IsOwn}
use Rattle.bundle_order_sort.specs.Left.{KeepsLeft, is_left}
use Rattle.bundle_order_sort.proofs.LeftLemmas.{KeepsLeft-same, KeepsLeft-one, adds-left, adds-nothing, own-unneeded}
use Rattle.bundle_order_graph.proofs.LeadLemmas.{Leads-within}
use Rattle.bundle_order_sort.proofs.stack.add_left.Goals as goal

pub returns-then-list-lists-clause-added : goal.returns-then-list-lists-clause-added
returns-then-list-lists-clause-added c =
    let lists : List (List ℕ) = map (λ v. v.items) c.args.lists.now in
    let r = c.args.reference in
    adds-nothing c.args.items.now lists c.args.ranks.now c.args.progress.now c.args.item r (λ t l n. omega (arith, Leads-within lists r.list t l, length-map c.args.lists.now (λ v. v.items), c.if-list-lists.true)) c.args.needed.now.items c.args.needed.now.items refl

pub returns-then-list-lists-clause-left : goal.returns-then-list-lists-clause-left
returns-then-list-lists-clause-left c = KeepsLeft-same c.args.progress.now (map (λ v. v.items) c.args.lists.now) (map (λ v. v.items) c.args.lists.now) refl

pub bounds-soles-list : goal.bounds-soles-list
bounds-soles-list c = omega (arith, c.if-list-lists.false, c.requires.soles.len, length-map c.args.lists.now (λ v. v.items))

pub returns-then-is_own-clause-added : goal.returns-then-is_own-clause-added
returns-then-is_own-clause-added c =
    let items = c.args.items.now in
    let lists : List (List ℕ) = map (λ v. v.items) c.args.lists.now in
    let r = c.args.reference in
    let own : IsOwn items (get_or c.args.soles.now r.list None) c.args.item = c.is_own.ensures.0 c.if-is_own.true in
    adds-nothing items lists c.args.ranks.now c.args.progress.now c.args.item r (λ t l n. own-unneeded items lists c.args.soles.now c.args.ranks.now c.requires.soles r.list c.args.item t r.is_weak own l n) c.args.needed.now.items c.args.needed.now.items refl

pub returns-then-is_own-clause-left : goal.returns-then-is_own-clause-left
returns-then-is_own-clause-left c = KeepsLeft-same c.args.progress.now (map (λ v. v.items) c.args.lists.now) (map (λ v. v.items) c.args.lists.now) refl

pub returns-clause-added : goal.returns-clause-added
returns-clause-added c =
    let items = c.args.items.now in
    let lists : List (List ℕ) = map (λ v. v.items) c.args.lists.now in
    let r = c.args.reference in
    let ps = c.args.progress.now in
    let row : get_or lists r.list [] ≡ c.deref.result.now = get_or-map (λ v. v.items) c.args.lists.now r.list c.index-lists-list.result [] (omega (arith, c.if-list-lists.false)) ∙ sym c.deref.ensures.value in
    let left : c.in_ok-left.left.items ≡ filter (is_left ps) (get_or lists r.list []) = c.in_ok-left.ensures ∙ ap (λ (l : List ℕ). filter (is_left ps) l) (sym row) in
    let adds : AddsNeeds (λ t. IsNeeded items c.args.ranks.now c.args.item t r.is_weak) c.in_ok-left.left.items c.args.needed.now.items c.add_needs.new.needed.items = subst (λ (l : List ℕ). AddsNeeds (λ t. IsNeeded items c.args.ranks.now c.args.item t r.is_weak) l c.args.needed.now.items c.add_needs.new.needed.items) c.deref-2.ensures.value c.in_ok-add_needs.ensures in
    adds-left items lists c.args.ranks.now ps c.args.item r c.in_ok-left.left.items left c.args.needed.now.items c.add_needs.new.needed.items adds

pub returns-clause-left : goal.returns-clause-left
returns-clause-left c =
    let lists : List (List ℕ) = map (λ v. v.items) c.args.lists.now in
    let r = c.args.reference in
    let ps = c.args.progress.now in
    let inside = c.if-list-lists.false in
    let row : get_or lists r.list [] ≡ c.deref.result.now = get_or-map (λ v. v.items) c.args.lists.now r.list c.index-lists-list.result [] (omega (arith, inside)) ∙ sym c.deref.ensures.value in
    let left : c.in_ok-left.left.items ≡ filter (is_left ps) (get_or lists r.list []) = c.in_ok-left.ensures ∙ ap (λ (l : List ℕ). filter (is_left ps) l) (sym row) in
    subst (λ (l : List (List ℕ)). KeepsLeft ps lists l) (sym (map-set (λ v. v.items) c.args.lists.now r.list c.in_ok-left.left)) (KeepsLeft-one ps lists r.list (omega (arith, inside, length-map c.args.lists.now (λ v. v.items))) c.in_ok-left.left.items left)
