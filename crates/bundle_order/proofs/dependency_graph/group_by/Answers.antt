use Rattle.std.proofs.Common.{◌≡◌, ℕ, ◌+◌, Vec, Global, Option, List, [], ◌∷◌, ◌++◌, length, get_or, map, take, slice_get, sym, ap, ◌∙◌, subst, arith}
use Rattle.std.proofs.lemmas.List.{length-map, length-take-le, map-append, take_all, take_more}
use Rattle.bundle_syntax.specs.declared.piece.Piece.{Piece}
use Rattle.bundle_syntax.specs.Item.{Item, item_of}
use Rattle.bundle_rules.specs.Sorting.{owner_in, owners_by}
use Rattle.bundle_order.specs.Grouped.{IsGroup, ends_of, owner_at}
use Rattle.bundle_order.proofs.NumberingLemmas.{owner-is, owners-push}
use Rattle.bundle_order.proofs.dependency_graph.group_by.Goals as goal

abbrev listed : Vec Piece Global → List Item
listed v = map item_of v.items

pub loop-number-preserved : goal.loop-number-preserved
loop-number-preserved c =
    let ranges = map ends_of c.args.modules.now in
    let all = c.args.lists.now in
    let n = c.loop-number.number in
    let m = c.range_from-module.result in
    let item = c.index-lists-number.result in
    let inv = c.loop-number.invariant in
    let past = c.range_from-module.ensures.past inv.past in
    let before = map listed (take n all) in
    let x = map item_of c.deref.result.now in
    let count : 0 + length before ≡ n = omega (arith, length-map (take n all) listed, length-take-le n all (omega (arith, c.loop-number-test.true)), c.loop-number-test.true) in
    let lists : before ++ x ∷ [] ≡ map listed (take (n + 1) all) =
    ap (λ (l : List Piece). before ++ map item_of l ∷ []) c.deref.ensures.value
    ∙ (ap (λ (v : Vec Piece Global). before ++ listed v ∷ []) c.index-lists-number.is
    ∙ (sym (map-append listed (take n all) (get_or all n item ∷ []))
    ∙ ap (λ (l : List (Vec Piece Global)). map listed l) (sym (take_more all n item c.loop-number-test.true)))) in
    record {
      len = c.in_ok-add.ensures.len ∙ ap (λ k. k + 1) inv.len;
      within = c.range_from-module.ensures.within;
      past = λ i a l e. let p = past i a l e in omega (arith, p);
      group = λ up.
          let owner : c.module_at.result ≡ owner_in (0 + length before) 0 ranges = c.module_at.ensures ∙ (ap (λ k. owner_at n k (slice_get ranges m)) (let zero : m ≡ 0 + m = omega arith in zero) ∙ (sym (owner-is n 0 m ranges up past c.range_from-module.ensures.at) ∙ ap (λ k. owner_in k 0 ranges) (sym count))) in
          subst (λ (l : List (List Item)). IsGroup c.add.new.self l (owners_by ranges 0 l)) lists
          (subst (λ (o : List (Option ℕ)). IsGroup c.add.new.self (before ++ x ∷ []) o) (ap (λ (o : Option ℕ). owners_by ranges 0 before ++ o ∷ []) owner ∙ sym (owners-push ranges 0 before x))
          (c.in_ok-add.ensures.group before (owners_by ranges 0 before) (inv.group up)));
    }

pub returns-clause-group : goal.returns-clause-group
returns-clause-group c = λ up.
    subst (λ (l : List (Vec Piece Global)). IsGroup c.loop-number.group (map listed l) (owners_by (map ends_of c.args.modules.now) 0 (map listed l))) (take_all c.loop-number.number c.args.lists.now c.loop-number-test.false) (c.loop-number.invariant.group up)
