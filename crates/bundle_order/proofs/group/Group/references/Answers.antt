-- What is found in the closed list is that of the items.
use Rattle.std.proofs.Common.{◌≡◌, ℕ, Bool, Option, List, [], ◌∷◌, ◌++◌, map, refl, sym, ap, ◌∙◌, subst}
use Rattle.std.proofs.lemmas.List.{map-append}
use Rattle.bundle_syntax.specs.declared.piece.Piece.{Piece}
use Rattle.bundle_syntax.specs.declared.piece.Piece.TheVariants as p
use Rattle.bundle_syntax.specs.Item as h
use Rattle.bundle_syntax.specs.Item.{Item, item_of}
use Rattle.bundle_rules.specs.Scopes.{Es, Top}
use Rattle.bundle_rules.specs.Declarations.{ByContext}
use Rattle.bundle_rules.specs.Order.{group_of}
use Rattle.bundle_rules.specs.Parts.{tree_of_items}
use Rattle.bundle_rules.specs.Sorting.{flat}
use Rattle.bundle_rules.specs.Statements.{TopItem, placed}
use Rattle.bundle_scope_denote.specs.Listed.{IsDenotationTable}
use Rattle.bundle_order.specs.Found.{AreReferences}
use Rattle.bundle_order.specs.declared.needs.ItemRange.{ItemRange}
use Rattle.bundle_order.specs.Cut.{cut_items, references_of}
use Rattle.bundle_order.specs.Owners.{range_module, shared_owner_of, range_owner}
use Rattle.bundle_order.specs.Owned.{owner_by}
use Rattle.bundle_order.proofs.group.Group.references.Goals as goal

twice : {A B C : Type 0} (g : B → C) (f : A → B) (xs : List A) → map g (map f xs) ≡ map (λ x. g (f x)) xs
twice g f [] = refl
twice {A} {B} {C} g f (x ∷ xs) = ap (λ (l : List C). g (f x) ∷ l) (twice g f xs)

pub returns-clause-owned : goal.returns-clause-owned
returns-clause-owned c = λ lists owners g.
    let items = c.in_ok-shared.shared.0.items in
    let ranges = c.args.self.ranges.items in
    sym (twice owner_by shared_owner_of items)
    ∙ (ap (λ (l : List (ℕ × Bool)). map owner_by l) (c.in_ok-shared.ensures.owners ∙ ap (λ (l : List ItemRange). map range_owner l) c.deref-3.ensures.value)
    ∙ (twice owner_by range_owner ranges ∙ g.owned))

pub returns-clause-found : goal.returns-clause-found
returns-clause-found c = λ lists owners g.
    let list = c.deref-2.result.now in
    let ranges = c.args.self.ranges.items in
    let found = map references_of c.in_ok-shared.shared.0.items in
    let shared : List (List ℕ) = map (λ v. v.items) c.in_ok-shared.shared.1.items in
    let same = c.deref.ensures.value ∙ sym c.deref-2.ensures.value in
    let is : IsDenotationTable ByContext Es (map item_of list) c.in_ok-table.table = subst (λ (l : List Piece). IsDenotationTable ByContext Es (map item_of l) c.in_ok-table.table) same c.in_ok-table.ensures in
    let tree : map item_of list ≡ tree_of_items (flat lists) = ap (λ (l : List Piece). map item_of l) (c.deref-2.ensures.value ∙ c.in_ok-push.ensures.items) ∙ (map-append item_of c.args.self.list.items (p.Close ∷ []) ∙ ap (λ (l : List Item). l ++ h.Close ∷ []) g.list) in
    subst (λ (o : List (Option ℕ)). AreReferences (group_of ByContext Top (tree_of_items (flat lists)) (placed 1 lists) o) found shared) g.owned
    (subst (λ (k : List TopItem). AreReferences (group_of ByContext Top (tree_of_items (flat lists)) k (map range_module ranges)) found shared) (g.cut (h.Close ∷ []))
    (subst (λ (t : List Item). AreReferences (group_of ByContext Top t (cut_items t ranges) (map range_module ranges)) found shared) tree
    (subst (λ (r : List ItemRange). AreReferences (group_of ByContext Top (map item_of list) (cut_items (map item_of list) r) (map range_module r)) found shared) c.deref-3.ensures.value (c.in_ok-shared.ensures.found is is.top))))
