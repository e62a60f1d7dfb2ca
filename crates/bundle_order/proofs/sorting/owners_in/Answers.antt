use Rattle.std.proofs.Common.{◌≡◌, ◌+◌, ◌++◌, ◌∷◌, [], ℕ, Vec, Global, List, length, get_or, map, take, sym, ap, ◌∙◌, arith}
use Rattle.std.proofs.lemmas.List.{length-map, length-take-le, map-append, take_all, take_more}
use Rattle.bundle_tree_ast.specs.declared.module.ModuleItem.{ModuleItem}
use Rattle.bundle_order.specs.Numbering.{owners_of}
use Rattle.bundle_order.proofs.SortedLemmas.{owners-push}
use Rattle.bundle_order.proofs.sorting.owners_in.Goals as goal

abbrev items_of : Vec ModuleItem Global → List ModuleItem
items_of v = v.items

pub loop-number-preserved : goal.loop-number-preserved
loop-number-preserved c =
    let all = c.args.modules.now in
    let n = c.loop-number.number in
    let items = c.index-modules-number.result in
    let less = c.loop-number-test.true in
    let before = map items_of (take n all) in
    let count : n ≡ 0 + length before = omega (arith, length-map (take n all) items_of, length-take-le n all (omega (arith, less))) in
    c.in_ok-add_owner.ensures
    ∙ (ap (λ (l : List ℕ). l ++ map (λ (item : ModuleItem). n) c.deref.result.now) c.loop-number.invariant
    ∙ (ap (λ (l : List ModuleItem). owners_of 0 before ++ map (λ (item : ModuleItem). n) l) (c.deref.ensures.value ∙ ap items_of c.index-modules-number.is)
    ∙ (ap (λ k. owners_of 0 before ++ map (λ (item : ModuleItem). k) (get_or all n items).items) count
    ∙ (sym (owners-push 0 before (get_or all n items).items)
    ∙ ap (λ (l : List (List ModuleItem)). owners_of 0 l) (sym (map-append items_of (take n all) (get_or all n items ∷ [])) ∙ ap (λ (l : List (Vec ModuleItem Global)). map items_of l) (sym (take_more all n items less)))))))

pub returns : goal.returns
returns c = c.loop-number.invariant ∙ ap (λ (l : List (Vec ModuleItem Global)). owners_of 0 (map items_of l)) (take_all c.loop-number.number c.args.modules.now c.loop-number-test.false)
