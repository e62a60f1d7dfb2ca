-- The needs of an item are known once it is begun.
use Rattle.std.proofs.Common.{◌≡◌, true, false, not, ◌&&◌, ◌||◌, nat_lt, ℕ, ◌<◌, ◌⊎◌, ◌↔◌, List, [], length, get_or, set, Contains, sym, ap, ◌∙◌, subst, inl, inr, arith}
use Rattle.std.proofs.lemmas.Bool.{cases_eq, cases_Bool, false≢true}
use Rattle.std.proofs.lemmas.List.{get_or-set_same, get_or-set_other, length-set}
use Rattle.bundle_order_graph.proofs.WalkLemmas.{Path-mono}
use Rattle.bundle_order_sort.specs.declared.SharedItem.{SharedItem}
use Rattle.bundle_order_sort.specs.declared.stack.Progress.{Progress}
use Rattle.bundle_order_sort.specs.Chains.{WaitsForNone, AreChains}
use Rattle.bundle_order_sort.specs.Items.{NeedsByRank}
use Rattle.bundle_order_sort.specs.Left.{KeepsLeft}
use Rattle.bundle_order_sort.specs.Numbers.{NeedsNumber, IsOut, is_awaited, progress_of}

-- what an item needs by what is left of lists, and is not out, it needs by the whole lists
pub needed-left : (items : List SharedItem) (lists lists' : List (List ℕ)) (ranks : List ℕ) (ps : List Progress) → KeepsLeft ps lists lists' → (s : ℕ) (needed : List ℕ) → ((t : ℕ) → Contains needed t ↔ ((IsOut ps t → ⊥) × NeedsByRank items lists' ranks s t)) → (t : ℕ) → Contains needed t ↔ ((IsOut ps t → ⊥) × NeedsByRank items lists ranks s t)
needed-left items lists lists' ranks ps keeps s needed each t = (
  λ c. let p = (each t).0 c in (p.0, record { reference = p.1.reference; refers = p.1.refers; listed = keeps.from p.1.reference.list t p.1.listed; needed = p.1.needed }),
  λ p. (each t).1 (p.0, record { reference = p.1.reference; refers = p.1.refers; listed = keeps.kept p.1.reference.list t p.1.listed p.0; needed = p.1.needed }),
)

-- more items go out
pub KeepsLeft-progress : (ps ps' : List Progress) → ((t : ℕ) → IsOut ps t → IsOut ps' t) → (lists lists' : List (List ℕ)) → KeepsLeft ps lists lists' → KeepsLeft ps' lists lists'
KeepsLeft-progress ps ps' outs lists lists' keeps = record {
  from = keeps.from;
  kept = λ l t c void. keeps.kept l t c (λ o. void (outs t o));
}

module _ (N : ℕ → ℕ → Type 0) where
  -- what is listed for an item is a need of it, what a begun item needs is out or listed, and nothing is listed for the others
  pub record IsKnown (ps : List Progress) (needs : List (List ℕ)) : Type 0 where
    pub sound : (s t : ℕ) → NeedsNumber needs s t → N s t
    pub begun : (s t : ℕ) → (progress_of ps s).begun ≡ true → N s t → (IsOut ps t → ⊥) → NeedsNumber needs s t
    pub waiting : (s t : ℕ) → (progress_of ps s).begun ≡ false → NeedsNumber needs s t → ⊥

  pub IsKnown-starts : (ps : List Progress) (needs : List (List ℕ)) → ((s t : ℕ) → NeedsNumber needs s t → ⊥) → ((s : ℕ) → (progress_of ps s).begun ≡ false) → IsKnown ps needs
  IsKnown-starts ps needs none new = record {
    sound = λ s t n. absurd (none s t n);
    begun = λ s t b n void. absurd (false≢true (sym (new s) ∙ b));
    waiting = λ s t b n. none s t n;
  }

  pub IsKnown-progress : (ps ps' : List Progress) (needs : List (List ℕ)) → ((t : ℕ) → IsOut ps t → IsOut ps' t) → ((t : ℕ) → (progress_of ps' t).begun ≡ (progress_of ps t).begun) → IsKnown ps needs → IsKnown ps' needs
  IsKnown-progress ps ps' needs outs same w = record {
    sound = w.sound;
    begun = λ s t b n void. w.begun s t (sym (same s) ∙ b) n (λ o. void (outs t o));
    waiting = λ s t b n. w.waiting s t (sym (same s) ∙ b) n;
  }

  -- an item is begun, and its needs that are not out are listed
  module _ (ps ps' : List Progress) (needs : List (List ℕ)) (s : ℕ) (inside : s < length needs) (needed : List ℕ) (each : (t : ℕ) → Contains needed t ↔ ((IsOut ps t → ⊥) × N s t)) (w : IsKnown ps needs) where
    listed-here : (u : ℕ) → u ≡ s → get_or (set needs s needed) u [] ≡ needed
    listed-here u e = ap (λ i. get_or (set needs s needed) i []) e ∙ get_or-set_same needs s needed [] inside

    pub IsKnown-begins : ((t : ℕ) → IsOut ps t → IsOut ps' t) → (progress_of ps' s).begun ≡ true → ((t : ℕ) → (t ≡ s → ⊥) → (progress_of ps' t).begun ≡ (progress_of ps t).begun) → IsKnown ps' (set needs s needed)
    IsKnown-begins outs now others = record {
      sound = λ u t c. elim (cases_eq u s) [
        | inl e ↦ subst (λ x. N x t) (sym e) ((each t).0 (subst (λ (l : List ℕ). Contains l t) (listed-here u e) c)).1
        | inr ne ↦ w.sound u t (subst (λ (l : List ℕ). Contains l t) (get_or-set_other needs s u needed [] ne) c)
      ];
      begun = λ u t b n void. elim (cases_eq u s) [
        | inl e ↦ subst (λ (l : List ℕ). Contains l t) (sym (listed-here u e)) ((each t).1 ((λ o. void (outs t o)), subst (λ x. N x t) e n))
        | inr ne ↦ subst (λ (l : List ℕ). Contains l t) (sym (get_or-set_other needs s u needed [] ne)) (w.begun u t (sym (others u ne) ∙ b) n (λ o. void (outs t o)))
      ];
      waiting = λ u t b c. elim (cases_eq u s) [
        | inl e ↦ absurd (false≢true (sym b ∙ (ap (λ i. (progress_of ps' i).begun) e ∙ now)))
        | inr ne ↦ w.waiting u t (sym (others u ne) ∙ b) (subst (λ (l : List ℕ). Contains l t) (get_or-set_other needs s u needed [] ne) c)
      ];
    }

    -- what is noted of the chains stays true
    pub AreChains-begins : (progress_of ps s).begun ≡ false → ((t : ℕ) → N s t → t < length needs) → (ranks ends cursors : List ℕ) → AreChains needs ranks ps ends cursors → AreChains (set needs s needed) ranks ps ends (set cursors s 0)
    AreChains-begins new within ranks ends cursors h = record {
      ranks_len = h.ranks_len ∙ sym (length-set needs s needed);
      progress_len = h.progress_len ∙ sym (length-set needs s needed);
      ends_len = h.ends_len ∙ sym (length-set needs s needed);
      cursors_len = length-set cursors s 0 ∙ (h.cursors_len ∙ sym (length-set needs s needed));
      within = λ u t c. subst (λ k. t < k) (sym (length-set needs s needed)) (elim (cases_eq u s) [
        | inl e ↦ within t ((each t).0 (subst (λ (l : List ℕ). Contains l t) (listed-here u e) c)).1
        | inr ne ↦ h.within u t (subst (λ (l : List ℕ). Contains l t) (get_or-set_other needs s u needed [] ne) c)
      ]);
      end = λ u k. elim (h.end u (subst (λ x. u < x) (length-set needs s needed) k)) [
        | inl e ↦ inl e
        | inr f ↦ inr (record { path = Path-mono stays f.path; lower = f.lower })
      ];
      passed = λ u k l m. passed u k l m (cases_eq u s);
    }
      where
        stays : (x y : ℕ) → NeedsNumber needs x y → NeedsNumber (set needs s needed) x y
        stays x y n = elim (cases_eq x s) [
          | inl e ↦ absurd (w.waiting x y (ap (λ i. (progress_of ps i).begun) e ∙ new) n)
          | inr ne ↦ subst (λ (l : List ℕ). Contains l y) (sym (get_or-set_other needs s x needed [] ne)) n
        ]

        passed : (u k : ℕ) → k < get_or (set cursors s 0) u 0 → k < length (get_or (set needs s needed) u []) → (u ≡ s) ⊎ (u ≡ s → ⊥) → is_awaited ranks ps u (get_or (get_or (set needs s needed) u []) k 0) ≡ false
        passed u k l m (inl e) = absurd (omega (arith, l, ap (λ i. get_or (set cursors s 0) i 0) e ∙ get_or-set_same cursors s 0 0 (omega (arith, inside, h.cursors_len))))
        passed u k l m (inr ne) =
            let same : get_or (set needs s needed) u [] ≡ get_or needs u [] = get_or-set_other needs s u needed [] ne in
            subst (λ (r : List ℕ). is_awaited ranks ps u (get_or r k 0) ≡ false) (sym same) (h.passed u k (subst (λ x. k < x) (get_or-set_other cursors s u 0 0 ne) l) (subst (λ (r : List ℕ). k < length r) same m))

  -- a begun item that waits for nothing that is listed waits for nothing
  pub none-awaited : (ps : List Progress) (needs : List (List ℕ)) → IsKnown ps needs → (ranks : List ℕ) (s : ℕ) → (progress_of ps s).begun ≡ true → WaitsForNone needs ranks ps s → (t : ℕ) → N s t → is_awaited ranks ps s t ≡ false
  none-awaited ps needs w ranks s b none t n = elim (cases_Bool (progress_of ps t).out) [
    | inl o ↦ ap (λ x. not x && (nat_lt (get_or ranks t 0) (get_or ranks s 0) || not (progress_of ps s).begun)) o
    | inr f ↦ none t (w.begun s t b n (λ o. false≢true (sym f ∙ o)))
  ]
