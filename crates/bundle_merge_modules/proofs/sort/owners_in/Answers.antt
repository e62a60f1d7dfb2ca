use Rattle.std.proofs.Common.{◌++◌, ◌∷◌, [], ℕ, List, map, sym, ap, ◌∙◌}
use Rattle.std.proofs.lemmas.List.{append-nil, append_assoc}
use Rattle.bundle_tree_ast.specs.declared.module.ModuleItem.{ModuleItem}
use Rattle.bundle_merge_modules.specs.Parts.{OwnedOf}
use Rattle.bundle_merge_modules.proofs.sort.owners_in.Goals as goal

abbrev modules_of : List (OwnedOf ModuleItem) → List ℕ
modules_of pairs = map (λ pair. pair.0) pairs

pub loop-id-preserved : goal.loop-id-preserved
loop-id-preserved c =
    let old = c.loop-id.owners.items in
    let rest = c.next.new.self in
    ap (λ (l : List ℕ). l ++ modules_of rest) c.in_ok-push.ensures.items
    ∙ (append_assoc old (c.in-Some.id ∷ []) (modules_of rest)
    ∙ (ap (λ (l : List (OwnedOf ModuleItem)). old ++ modules_of l) (sym c.in-Some.ensures.steps)
    ∙ c.loop-id.invariant))

pub returns : goal.returns
returns c =
    let owners = c.loop-id.owners.items in
    sym (ap (λ (l : List (OwnedOf ModuleItem)). owners ++ modules_of l) c.in-None.ensures.steps.0 ∙ append-nil owners) ∙ c.loop-id.invariant
