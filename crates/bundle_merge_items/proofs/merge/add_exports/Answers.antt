-- A bundle of no module exports nothing, and any other what its entry links.
use Rattle.std.proofs.Common.{◌≡◌, ◌-◌, ◌≤◌, ℕ, zero, suc, List, [], ◌++◌, append-nil, map, length, sym, ap, subst, ◌∙◌, arith}
use Rattle.std.proofs.lemmas.Result.{on_ok_weaker}
use Rattle.bundle_rules.specs.Idents.{Ident}
use Rattle.bundle_rules.specs.Nodes.{Text}
use Rattle.bundle_link_targets.specs.declared.linking.Linking.{Linking}
use Rattle.bundle_merge_injected.specs.Listed.{pair_of}
use Rattle.bundle_merge_names.specs.declared.names.BundleNames.{BundleNames}
use Rattle.bundle_merge_items.specs.Added.{AreExports, AreLinkedPairs, none_there, of_entry, export_list_of, module_item_lists}
use Rattle.bundle_merge_items.proofs.merge.add_exports.Goals as goal

of-none : (linking : Linking) (names : BundleNames) (count : ℕ) → (1 ≤ count → ⊥) →
    AreExports linking names count []
of-none linking names count none =
    let same : zero ≡ count = omega (arith, none) in
    subst (λ n. AreExports linking names n []) same none_there

of-some : (linking : Linking) (names : BundleNames) (count entry : ℕ) (pairs : List (Text × Ident)) →
    1 ≤ count → entry ≡ count - 1 → AreLinkedPairs linking names entry pairs →
    AreExports linking names count (export_list_of pairs)
of-some linking names count entry pairs one is linked =
    let same : suc entry ≡ count = omega (arith, one, is) in
    subst (λ n. AreExports linking names n (export_list_of pairs)) same (of_entry pairs linked)

pub returns-in-None : goal.returns-in-None
returns-in-None c = (
  [],
  of-none c.args.bundle.now.linking.now c.args.names.now (length c.args.bundle.now.parts.now)
      c.in-None.ensures,
  sym (append-nil (module_item_lists c.args.items.now)),
)

pub returns-in_ok-pairs-in-Some : goal.returns-in_ok-pairs-in-Some
returns-in_ok-pairs-in-Some c =
    let one : 1 ≤ length c.args.bundle.now.parts.now = omega arith in
    let before : c.in-Some.entry ≡ length c.args.bundle.now.parts.now - 1 = omega arith in
    on_ok_weaker c.add_export_list.result
    (λ is. (
      export_list_of (map pair_of c.in_ok-pairs-in-Some.pairs.items),
      of-some c.args.bundle.now.linking.now c.args.names.now (length c.args.bundle.now.parts.now)
          c.in-Some.entry (map pair_of c.in_ok-pairs-in-Some.pairs.items) one before
          c.in_ok-pairs-in-Some.ensures,
      is ∙ ap (λ pairs. module_item_lists c.args.items.now ++ export_list_of (map pair_of pairs))
          c.deref.ensures.value,
    ))
    c.add_export_list.ensures
