use Rattle.std.proofs.Common.{◌++◌, ◌∷◌, [], List, map, sym, ap, ◌∙◌}
use Rattle.std.specs.Borrow.{Bor}
use Rattle.std.proofs.lemmas.List.{append-nil, append_assoc, map_push}
use Rattle.bundle_tree_ast.specs.declared.module.ModuleItem.{ModuleItem}
use Rattle.bundle_merge_modules.specs.Parts.{OwnedOf}
use Rattle.bundle_merge_modules.proofs.sort.items_in.Goals as goal

abbrev items_of : List (OwnedOf ModuleItem) → List ModuleItem
items_of pairs = map (λ pair. pair.1) pairs

abbrev lent : List (Bor ModuleItem) → List ModuleItem
lent items = map (λ item. item.now) items

pub loop-item-preserved : goal.loop-item-preserved
loop-item-preserved c =
    let old = c.loop-item.items.items in
    let item = c.in-Some.item in
    let rest = c.next.new.self in
    ap (λ (l : List (Bor ModuleItem)). lent l ++ items_of rest) c.in_ok-push.ensures.items
    ∙ (ap (λ (l : List ModuleItem). l ++ items_of rest) (map_push (λ (one : Bor ModuleItem). one.now) old item)
    ∙ (append_assoc (lent old) (item.now ∷ []) (items_of rest)
    ∙ (ap (λ (l : List (OwnedOf ModuleItem)). lent old ++ items_of l) (sym c.in-Some.ensures.steps)
    ∙ c.loop-item.invariant)))

pub returns : goal.returns
returns c =
    let items = lent c.loop-item.items.items in
    sym (ap (λ (l : List (OwnedOf ModuleItem)). items ++ items_of l) c.in-None.ensures.steps.0 ∙ append-nil items) ∙ c.loop-item.invariant
