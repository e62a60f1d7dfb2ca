use Rattle.std.proofs.Common.{◌++◌, List, ℕ, map, sym, ap, ◌∙◌}
use Rattle.std.proofs.lemmas.List.{append-nil, append_assoc}
use Rattle.bundle_tree_ast.specs.declared.module.ModuleItem.{ModuleItem}
use Rattle.bundle_merge_modules.specs.Held.{trees_of}
use Rattle.bundle_tree_listed.specs.Tree.{module_item_items}
use Rattle.bundle_rules.specs.Idents.{Ident}
use Rattle.bundle_marks.specs.Idents.{pair_named}
use Rattle.bundle_merge_modules.specs.Made.{alias_list}
use Rattle.bundle_merge_modules.proofs.InlinedLemmas.{made_by}
use Rattle.bundle_merge_modules.proofs.inline.pairs_in.Goals as goal

abbrev left_of : List (ℕ × ModuleItem) → List (Ident × Ident)
left_of rest = made_by (trees_of rest)

pub loop-item-preserved : goal.loop-item-preserved
loop-item-preserved c =
    let old = map pair_named c.loop-item.pairs.items in
    let rest = c.next.new.self in
    ap (λ (l : List (Ident × Ident)). l ++ left_of rest) c.in_ok-add_pair.ensures
    ∙ (append_assoc old (alias_list (module_item_items 0 c.in-Some.item.now)) (left_of rest)
    ∙ (ap (λ (l : List (ℕ × ModuleItem)). old ++ left_of l) (sym c.in-Some.ensures.steps)
    ∙ c.loop-item.invariant))

pub returns : goal.returns
returns c =
    let pairs = map pair_named c.loop-item.pairs.items in
    sym (ap (λ (l : List (ℕ × ModuleItem)). pairs ++ left_of l) c.in-None.ensures.steps.0 ∙ append-nil pairs) ∙ c.loop-item.invariant
