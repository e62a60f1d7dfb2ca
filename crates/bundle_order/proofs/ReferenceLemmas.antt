-- The lists of items are the nodes that stand in their module.
-- What items depend on, where all of their references were found.
use Rattle.std.proofs.Common.{◌≡◌, zero, List, [], ◌∷◌, ◌++◌, map, refl, ap, ◌∙◌, append_assoc, Bool, true, false, ℕ, ◌⊎◌, get_or, Contains, sym, subst, inl, inr, arith}
use Rattle.std.proofs.lemmas.Bool.{true≢false, cases_eq}
use Rattle.std.proofs.lemmas.List.{length-map}
use Rattle.bundle_syntax.specs.Item as in_item
use Rattle.bundle_syntax.specs.Item.{Item}
use Rattle.bundle_tree_ast.specs.declared.module.ModuleItem.{ModuleItem}
use Rattle.bundle_rules.specs.Nodes.{parts, side_by_side}
use Rattle.bundle_rules.specs.Parts.{tree_of_items}
use Rattle.bundle_rules.specs.Sorting.{flat}
use Rattle.bundle_order_sort.specs.declared.Reference.{Reference}
use Rattle.bundle_order_sort.specs.declared.SharedItem.{SharedItem}
use Rattle.bundle_order_graph.specs.Classes.{Leads}
use Rattle.bundle_order_sort.specs.Items.{NamesShared, DependsShared}
use Rattle.bundle_rules.specs.Order as o
use Rattle.bundle_rules.specs.Order.{Group, IsStrong}
use Rattle.bundle_order_sort.proofs.ElementLemmas.{Contains-none, Contains-cons}
use Rattle.bundle_tree_listed.specs.Tree.{module_item_items}
use Rattle.bundle_tree_list.proofs.Modules.{item_single}
use Rattle.bundle_order.specs.Found.{AreReferences, HasReference}
use Rattle.bundle_order.specs.Cut.{references_of}
use Rattle.bundle_order.proofs.NumberingLemmas.{row-at, row-of, provides-within}

-- ---- nodes
pub whole : (items : List ModuleItem) → parts (tree_of_items (flat (map (module_item_items 0) items))) ≡ map (module_item_items 0) items
whole [] = refl
whole (x ∷ items) =
    let xs = module_item_items 0 x in
    let rest = flat (map (module_item_items 0) items) in
    ap (λ (l : List Item). side_by_side zero l) (append_assoc xs rest (in_item.Close ∷ []))
    ∙ ((item_single 0 x).beside (rest ++ in_item.Close ∷ []) ∙ ap (λ (l : List (List Item)). xs ∷ l) (whole items))

-- ---- whether an item is referred to strongly
number-or-not : (xs : List ℕ) (t : ℕ) → Contains xs t ⊎ (Contains xs t → ⊥)
number-or-not [] t = inr (λ c. Contains-none t c)
number-or-not (x ∷ xs) t = step (cases_eq x t) (number-or-not xs t)
  where
    step : (x ≡ t) ⊎ (x ≡ t → ⊥) → Contains xs t ⊎ (Contains xs t → ⊥) → Contains (x ∷ xs) t ⊎ (Contains (x ∷ xs) t → ⊥)
    step (inl e) rest = inl ((Contains-cons x xs t).1 (inl e))
    step (inr ne) (inl c) = inl ((Contains-cons x xs t).1 (inr c))
    step (inr ne) (inr none) = inr (λ c. elim ((Contains-cons x xs t).0 c) [ inl e ↦ ne e | inr d ↦ none d ])

-- a strong one of these references is to a list that has t
abbrev Strongly : List (List ℕ) → ℕ → List Reference → Type 0
Strongly lists t references = (b : ℕ) × Contains references (record { list = b; is_weak = false }) × Leads lists b t

listed-or-not : (lists : List (List ℕ)) (t : ℕ) (references : List Reference) → Strongly lists t references ⊎ (Strongly lists t references → ⊥)
listed-or-not lists t [] = inr (λ h. Contains-none (record { list = h.0; is_weak = false }) h.1)
listed-or-not lists t (r ∷ rest) = step r.is_weak refl (number-or-not (get_or lists r.list []) t) (listed-or-not lists t rest)
  where
    step : (w : Bool) → r.is_weak ≡ w → Leads lists r.list t ⊎ (Leads lists r.list t → ⊥) → Strongly lists t rest ⊎ (Strongly lists t rest → ⊥) → Strongly lists t (r ∷ rest) ⊎ (Strongly lists t (r ∷ rest) → ⊥)
    step w e here (inl h) = inl (h.0, (Contains-cons r rest (record { list = h.0; is_weak = false })).1 (inr h.1), h.2)
    step false e (inl l) (inr none) = inl (r.list, (Contains-cons r rest (record { list = r.list; is_weak = false })).1 (inl (ap (λ w. let x : Reference = record { list = r.list; is_weak = w } in x) e)), l)
    step false e (inr missing) (inr none) = inr (λ h. elim ((Contains-cons r rest (record { list = h.0; is_weak = false })).0 h.1) [ inl f ↦ missing (subst (λ i. Leads lists i t) (sym (ap (λ (x : Reference). x.list) f)) h.2) | inr d ↦ none (h.0, d, h.2) ])
    step true e here (inr none) = inr (λ h. elim ((Contains-cons r rest (record { list = h.0; is_weak = false })).0 h.1) [ inl f ↦ true≢false (sym e ∙ ap (λ (x : Reference). x.is_weak) f) | inr d ↦ none (h.0, d, h.2) ])

module _ (g : Group) (items : List SharedItem) (lists : List (List ℕ)) (found : AreReferences g (map references_of items) lists) where
  names : (s t : ℕ) (w : Bool) → HasReference (map references_of items) lists s t w → o.Depends g s t → NamesShared items lists s t w
  names s t w h d =
      let row = row-at references_of items s (record { list = h.1.0; is_weak = w }) h.1.1 in
      record {
        list = h.1.0;
        refers = record { item = row.0; at = row.1; listed = row.2 };
        listed = h.1.2;
        within = (let l = provides-within g t d.binding d.provides in let n = found.len in let m = length-map items references_of in omega (arith, l, n, m));
        other = h.0;
      }

  has : (s t : ℕ) (w : Bool) → NamesShared items lists s t w → HasReference (map references_of items) lists s t w
  has s t w n = (n.other, (n.list, subst (λ (l : List Reference). Contains l (record { list = n.list; is_weak = w })) (sym (row-of references_of items s n.refers.item n.refers.at)) n.refers.listed, n.listed))

  pub Depends-forth : (s t : ℕ) → DependsShared items lists s t → o.Depends g s t
  Depends-forth s t d = (found.depends s t).0 (d.0, has s t d.0 d.1)

  pub Depends-back : (s t : ℕ) → o.Depends g s t → DependsShared items lists s t
  Depends-back s t d = let h = (found.depends s t).1 d in (h.0, names s t h.0 h.1 d)

  pub IsStrong-forth : (s t : ℕ) → NamesShared items lists s t false → IsStrong g s t
  IsStrong-forth s t n = (found.strong s t).0 (has s t false n)

  pub IsStrong-back : (s t : ℕ) → IsStrong g s t → NamesShared items lists s t false
  IsStrong-back s t i = names s t false ((found.strong s t).1 i) i.depends

  pub strong-or-not : (s t : ℕ) → IsStrong g s t ⊎ (IsStrong g s t → ⊥)
  strong-or-not s t = elim (cases_eq t s) [
    | inl e ↦ inr (λ i. i.depends.other (sym e))
    | inr ne ↦ elim (listed-or-not lists t (get_or (map references_of items) s [])) [
      | inl h ↦ inl ((found.strong s t).0 (ne, h))
      | inr missing ↦ inr (λ i. missing ((found.strong s t).1 i).1)
    ]
  ]
