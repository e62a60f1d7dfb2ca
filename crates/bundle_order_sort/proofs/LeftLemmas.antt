-- What lists still say of items that are not out, and what is known of the needs of items that are begun.
use Rattle.std.proofs.Common.{◌≡◌, Bool, true, not, ℕ, ◌+◌, ◌<◌, ◌⊎◌, ◌↔◌, Option, None, Some, IfSome, List, [], ◌∷◌, ◌++◌, length, get_or, set, take, slice_get, Contains, refl, sym, ap, ◌∙◌, subst, inl, inr, arith}
use Rattle.std.specs.List.{filter}
use Rattle.std.proofs.lemmas.Bool.{cases_eq, cases_Bool, false≢true}
use Rattle.std.proofs.lemmas.Option.{same_Some}
use Rattle.std.proofs.lemmas.List.{get_or-set_same, get_or-set_other, get_or_append_left, get_or_push}
use Rattle.bundle_order_sort.specs.declared.Reference.{Reference}
use Rattle.bundle_order_sort.specs.declared.SharedItem.{SharedItem}
use Rattle.bundle_order_sort.specs.declared.stack.Progress.{Progress}
use Rattle.bundle_order_graph.specs.Classes.{Leads}
use Rattle.bundle_order_sort.specs.Items.{AreSoles, IsNeeded, IsItemOf, IsOwn, NeedsByRank}
use Rattle.bundle_order_sort.specs.Left.{IsNeedLeft, KeepsLeft, is_left}
use Rattle.bundle_order_sort.specs.Numbers.{IsOut, progress_of}
use Rattle.bundle_order_sort.proofs.ElementLemmas.{Contains-filter, Contains-more, Contains-none}
use Rattle.bundle_order_sort.proofs.StackLemmas.{before_or_at}

-- ---- what is left of lists
pub KeepsLeft-same : (ps : List Progress) (lists lists' : List (List ℕ)) → lists' ≡ lists → KeepsLeft ps lists lists'
KeepsLeft-same ps lists lists' e = record {
  from = λ l t c. subst (λ (r : List (List ℕ)). Leads r l t) e c;
  kept = λ l t c void. subst (λ (r : List (List ℕ)). Leads r l t) (sym e) c;
}

pub KeepsLeft-trans : (ps : List Progress) (a b c : List (List ℕ)) → KeepsLeft ps a b → KeepsLeft ps b c → KeepsLeft ps a c
KeepsLeft-trans ps a b c f g = record {
  from = λ l t h. f.from l t (g.from l t h);
  kept = λ l t h void. g.kept l t (f.kept l t h void) void;
}

is_left-out : (ps : List Progress) (t : ℕ) → is_left ps t ≡ true → IsOut ps t → ⊥
is_left-out ps t e o = false≢true (sym (ap not o) ∙ e)

left-is : (ps : List Progress) (t : ℕ) → (IsOut ps t → ⊥) → is_left ps t ≡ true
left-is ps t void = elim (cases_Bool (progress_of ps t).out) [ inl o ↦ absurd (void o) | inr e ↦ ap not e ]

-- one list is replaced by what is left of it
pub KeepsLeft-one : (ps : List Progress) (lists : List (List ℕ)) (k : ℕ) → k < length lists → (row : List ℕ) → row ≡ filter (is_left ps) (get_or lists k []) → KeepsLeft ps lists (set lists k row)
KeepsLeft-one ps lists k h row is = record {
  from = λ l t c. elim (cases_eq l k) [
    | inl e ↦ subst (λ i. Leads lists i t) (sym e) ((Contains-filter (is_left ps) (get_or lists k []) t).0 (subst (λ (r : List ℕ). Contains r t) (here l e) c)).0
    | inr ne ↦ subst (λ (r : List ℕ). Contains r t) (get_or-set_other lists k l row [] ne) c
  ];
  kept = λ l t c void. elim (cases_eq l k) [
    | inl e ↦ subst (λ (r : List ℕ). Contains r t) (sym (here l e)) ((Contains-filter (is_left ps) (get_or lists k []) t).1 (subst (λ i. Leads lists i t) e c, left-is ps t void))
    | inr ne ↦ subst (λ (r : List ℕ). Contains r t) (sym (get_or-set_other lists k l row [] ne)) c
  ];
}
  where
    here : (l : ℕ) → l ≡ k → get_or (set lists k row) l [] ≡ filter (is_left ps) (get_or lists k [])
    here l e = ap (λ i. get_or (set lists k row) i []) e ∙ (get_or-set_same lists k row [] h ∙ is)

-- ---- whole lists of one module
pub AreSoles-left : (items : List SharedItem) (ps : List Progress) (lists lists' : List (List ℕ)) (soles : List (Option ℕ)) → length lists' ≡ length lists → KeepsLeft ps lists lists' → AreSoles items lists soles → AreSoles items lists' soles
AreSoles-left items ps lists lists' soles len keeps w = record {
  len = w.len ∙ sym len;
  each = λ l t c m e. w.each l t (keeps.from l t c) m e;
}

-- the module of one list more is told
pub soles-push : (items : List SharedItem) (lists : List (List ℕ)) (soles soles' : List (Option ℕ)) (n : ℕ) (sole : Option ℕ) → soles' ≡ soles ++ sole ∷ [] → length soles ≡ n → ((k t : ℕ) → k < n → Leads lists k t → (m : ℕ) → get_or soles k None ≡ Some m → IsItemOf items t m) → IfSome sole (λ m. (t : ℕ) → Leads lists n t → IsItemOf items t m) → (k t : ℕ) → k < n + 1 → Leads lists k t → (m : ℕ) → get_or soles' k None ≡ Some m → IsItemOf items t m
soles-push items lists soles soles' n sole is len so_far all k t h c m e = by (before_or_at k n h)
  where
    e' : get_or (soles ++ sole ∷ []) k None ≡ Some m
    e' = ap (λ (l : List (Option ℕ)). get_or l k None) (sym is) ∙ e

    by : (k < n) ⊎ (k ≡ n) → IsItemOf items t m
    by (inl l) = so_far k t l c m (sym (get_or_append_left soles (sole ∷ []) None k (omega (arith, l, len))) ∙ e')
    by (inr same) =
        let it : sole ≡ Some m = sym (get_or_push soles sole None k (len ∙ sym same)) ∙ e' in
        subst (λ o. IfSome o (λ x. (u : ℕ) → Leads lists n u → IsItemOf items u x)) it all t (subst (λ i. Leads lists i t) same c)

-- an item needs none of a list of which all items are of its module
pub own-unneeded : (items : List SharedItem) (lists : List (List ℕ)) (soles : List (Option ℕ)) (ranks : List ℕ) → AreSoles items lists soles → (l s t : ℕ) (w : Bool) → IsOwn items (get_or soles l None) s → Leads lists l t → IsNeeded items ranks s t w → ⊥
own-unneeded items lists soles ranks are l s t w own c needed = by (get_or soles l None) refl own
  where
    by : (o : Option ℕ) → get_or soles l None ≡ o → IsOwn items o s → ⊥
    by None e h = absurd h
    by (Some m) e h = needed.apart (record { module_number = m; one = h; other = are.each l t c m e })

-- ---- what one reference adds
module _ (items : List SharedItem) (lists : List (List ℕ)) (ranks : List ℕ) (ps : List Progress) (s : ℕ) where
  -- a list that adds nothing
  pub adds-nothing : (r : Reference) → ((t : ℕ) → Leads lists r.list t → IsNeeded items ranks s t r.is_weak → ⊥) → (needed needed' : List ℕ) → needed' ≡ needed → (t : ℕ) → Contains needed' t ↔ (Contains needed t ⊎ IsNeedLeft items lists ranks ps s r t)
  adds-nothing r none needed needed' e t = (
    λ c. inl (subst (λ (l : List ℕ). Contains l t) e c),
    λ o. elim o [ inl c ↦ subst (λ (l : List ℕ). Contains l t) (sym e) c | inr h ↦ absurd (none t h.listed h.needed) ],
  )

  pub adds-left : (r : Reference) (left : List ℕ) → left ≡ filter (is_left ps) (get_or lists r.list []) → (needed needed' : List ℕ) → ((t : ℕ) → Contains needed' t ↔ (Contains needed t ⊎ (Contains left t × IsNeeded items ranks s t r.is_weak))) → (t : ℕ) → Contains needed' t ↔ (Contains needed t ⊎ IsNeedLeft items lists ranks ps s r t)
  adds-left r left is needed needed' adds t = (
    λ c. elim ((adds t).0 c) [ inl o ↦ inl o | inr p ↦ inr (forth p.0 p.1) ],
    λ o. (adds t).1 (elim o [ inl c ↦ inl c | inr h ↦ inr (subst (λ (l : List ℕ). Contains l t) (sym is) ((Contains-filter (is_left ps) (get_or lists r.list []) t).1 (h.listed, left-is ps t h.left)), h.needed) ]),
  )
    where
      forth : Contains left t → IsNeeded items ranks s t r.is_weak → IsNeedLeft items lists ranks ps s r t
      forth c n =
          let g = (Contains-filter (is_left ps) (get_or lists r.list []) t).0 (subst (λ (l : List ℕ). Contains l t) is c) in
          record { left = is_left-out ps t g.1; listed = g.0; needed = n }

  -- by one of these references an item is needed and not out
  abbrev pub IsLeftOf : List Reference → ℕ → Type 0
  IsLeftOf references t = (r : Reference) × Contains references r × IsNeedLeft items lists ranks ps s r t

  pub IsLeftOf-none : (needed : List ℕ) → needed ≡ [] → (t : ℕ) → Contains needed t ↔ IsLeftOf [] t
  IsLeftOf-none needed e t = (λ c. absurd (Contains-none t (subst (λ (l : List ℕ). Contains l t) e c)), λ h. absurd (Contains-none h.0 h.1))

  pub IsLeftOf-more : (references : List Reference) (i : ℕ) (d : Reference) → i < length references → (lists' : List (List ℕ)) → KeepsLeft ps lists lists' → (needed needed' : List ℕ) → ((t : ℕ) → Contains needed t ↔ IsLeftOf (take i references) t) → ((t : ℕ) → Contains needed' t ↔ (Contains needed t ⊎ IsNeedLeft items lists' ranks ps s (get_or references i d) t)) → (t : ℕ) → Contains needed' t ↔ IsLeftOf (take (i + 1) references) t
  IsLeftOf-more references i d h lists' keeps needed needed' so_far adds t = (λ c. forth ((adds t).0 c), λ p. (adds t).1 (back p.0 p.2 ((Contains-more references i d p.0 h).0 p.1)))
    where
      forth : Contains needed t ⊎ IsNeedLeft items lists' ranks ps s (get_or references i d) t → IsLeftOf (take (i + 1) references) t
      forth (inl c) = let g = (so_far t).0 c in (g.0, (Contains-more references i d g.0 h).1 (inl g.1), g.2)
      forth (inr g) = (get_or references i d, (Contains-more references i d (get_or references i d) h).1 (inr refl), record { left = g.left; listed = keeps.from (get_or references i d).list t g.listed; needed = g.needed })

      back : (q : Reference) → IsNeedLeft items lists ranks ps s q t → Contains (take i references) q ⊎ (get_or references i d ≡ q) → Contains needed t ⊎ IsNeedLeft items lists' ranks ps s (get_or references i d) t
      back q g (inl c) = inl ((so_far t).1 (q, c, g))
      back q g (inr e) =
          let g' : IsNeedLeft items lists ranks ps s (get_or references i d) t = subst (λ (x : Reference). IsNeedLeft items lists ranks ps s x t) (sym e) g in
          inr (record { left = g'.left; listed = keeps.kept (get_or references i d).list t g'.listed g'.left; needed = g'.needed })

-- by all of its references an item needs what it needs by the ranks
pub IsLeftOf-all : (items : List SharedItem) (lists : List (List ℕ)) (ranks : List ℕ) (ps : List Progress) (s : ℕ) (item : SharedItem) → slice_get items s ≡ Some item → (t : ℕ) → IsLeftOf items lists ranks ps s item.references.items t ↔ ((IsOut ps t → ⊥) × NeedsByRank items lists ranks s t)
IsLeftOf-all items lists ranks ps s item at t = (
  λ g. (g.2.left, record { reference = g.0; refers = record { item = item; at = at; listed = g.1 }; listed = g.2.listed; needed = g.2.needed }),
  λ p. let n = p.1 in (n.reference, subst (λ (i : SharedItem). Contains i.references.items n.reference) (same_Some n.refers.item item (sym n.refers.at ∙ at)) n.refers.listed, record { left = p.0; listed = n.listed; needed = n.needed }),
)
