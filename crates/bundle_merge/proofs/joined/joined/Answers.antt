-- The copies are those of the modules on the list.
use Rattle.std.proofs.Common.{◌≡◌, List, ℕ, length, map, inl, inr, refl, ap, sym, ◌∙◌, subst}
use Rattle.std.proofs.lemmas.List.{length-map}
use Rattle.std.proofs.lemmas.Result.{IfOk-weaker, IfErr-weaker, err_from_is_err_and}
use Rattle.bundle_rules.specs.Parts.{in_order, items_in}
use Rattle.bundle_link_index.specs.Numbered.{HasNoDoubles}
use Rattle.bundle_link.proofs.NumberLemmas.{once-same}
use Rattle.bundle_merge_theory.proofs.planned.RequestLemmas.{list-once}
use Rattle.bundle_merge_items.specs.Added.{module_item_lists}
use Rattle.bundle_merge.specs.Prepared.{items_of_each}
use Rattle.bundle_merge.proofs.Known.{prepared-fault}
use Rattle.bundle_merge.proofs.Places.{one-place}
use Rattle.bundle_merge.proofs.joined.joined.Goals as goal

pub returns-in_err-copies-clause-lacks : goal.returns-in_err-copies-clause-lacks
returns-in_err-copies-clause-lacks c =
    let q = err_from_is_err_and c.from_residual.result c.from_residual.ensures.1 in
    rw (q.1, q.2) (λ p given its w ready places. inl refl)

pub returns-clause-bundle : goal.returns-clause-bundle
returns-clause-bundle c =
    IfOk-weaker c.joined_of.result _ _
    (λ made all p given its w ready places.
    (let list = c.args.linker.now.linked.list.items in
    let once : HasNoDoubles list = one-place list (list-once p list w.of.linked.list) in
    let keys = places ∙ once-same list once in
    let copied = c.in_ok-copies.ensures (subst (λ (l : List ℕ). HasNoDoubles l) (sym keys) once) in
    all p given its c.args.prepared.now w ready keys
    (ap (map module_item_lists) c.deref.ensures.value ∙ copied
    ∙ ap (items_of_each (in_order c.args.prepared.now)) keys)))
    c.joined_of.ensures.bundle

pub returns-clause-below : goal.returns-clause-below
returns-clause-below c =
    IfOk-weaker c.joined_of.result _ _
    (λ made all p given its w ready places.
    (let list = c.args.linker.now.linked.list.items in
    let once : HasNoDoubles list = one-place list (list-once p list w.of.linked.list) in
    let keys = places ∙ once-same list once in
    let copied = c.in_ok-copies.ensures (subst (λ (l : List ℕ). HasNoDoubles l) (sym keys) once) in
    all p given its c.args.prepared.now w ready keys
    (ap (map module_item_lists) c.deref.ensures.value ∙ copied
    ∙ ap (items_of_each (in_order c.args.prepared.now)) keys)))
    c.joined_of.ensures.below

pub returns-in_err-copies-clause-told : goal.returns-in_err-copies-clause-told
returns-in_err-copies-clause-told c =
    let q = err_from_is_err_and c.from_residual.result c.from_residual.ensures.1 in
    rw (q.1, q.2) (λ p its w places. inl (inl refl))

pub returns-clause-told : goal.returns-clause-told
returns-clause-told c =
    IfErr-weaker c.joined_of.result _ _
    (λ refusal told p its w places.
    (let linker = c.args.linker.now in
    let list = linker.linked.list.items in
    let prepared = in_order c.args.prepared.now in
    let once : HasNoDoubles list = one-place list (list-once p list w.of.linked.list) in
    let keys = places ∙ once-same list once in
    let copies = c.deref.result.now in
    let copied : map module_item_lists copies ≡ items_of_each prepared list =
    ap (map module_item_lists) c.deref.ensures.value
    ∙ c.in_ok-copies.ensures (subst (λ (l : List ℕ). HasNoDoubles l) (sym keys) once)
    ∙ ap (items_of_each prepared) keys in
    let long : length copies ≡ length list =
    sym (length-map copies module_item_lists) ∙ ap length copied ∙ length-map list (items_in prepared) in
    elim (told p its w long) [
      | inl lack ↦ inl lack
      | inr fault ↦ inr (prepared-fault linker prepared copies copied refusal fault)
    ]))
    c.joined_of.ensures.told

pub returns-clause-lacks : goal.returns-clause-lacks
returns-clause-lacks c =
    IfErr-weaker c.joined_of.result _ _
    (λ refusal lacks p given its w ready places.
    (let list = c.args.linker.now.linked.list.items in
    let once : HasNoDoubles list = one-place list (list-once p list w.of.linked.list) in
    let keys = places ∙ once-same list once in
    let copied = c.in_ok-copies.ensures (subst (λ (l : List ℕ). HasNoDoubles l) (sym keys) once) in
    lacks p given its c.args.prepared.now w ready keys
    (ap (map module_item_lists) c.deref.ensures.value ∙ copied
    ∙ ap (items_of_each (in_order c.args.prepared.now)) keys)))
    c.joined_of.ensures.lacks
