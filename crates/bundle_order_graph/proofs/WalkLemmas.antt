-- Walks, once an edge is added.
use Rattle.std.proofs.Common.{◌≡◌, ℕ, ◌⊎◌, ◌↔◌, refl, sym, subst, inl, inr}
use Rattle.bundle_order_graph.specs.Walks.{Reaches, itself, along, Path}

pub Reaches-trans : {E : ℕ → ℕ → Type 0} {a b c : ℕ} → Reaches E a b → Reaches E b c → Reaches E a c
Reaches-trans itself r = r
Reaches-trans (along e p) r = along e (Reaches-trans p r)

pub Path-trans : {E : ℕ → ℕ → Type 0} {a b c : ℕ} → Path E a b → Path E b c → Path E a c
Path-trans p q = (p.0, p.1, Reaches-trans p.2 (along q.1 q.2))

-- fewer edges, fewer walks
pub Reaches-mono : {E F : ℕ → ℕ → Type 0} {a b : ℕ} → ((x y : ℕ) → E x y → F x y) → Reaches E a b → Reaches F a b
Reaches-mono f itself = itself
Reaches-mono f (along {a} {b} e p) = along (f a b e) (Reaches-mono f p)

pub Path-mono : {E F : ℕ → ℕ → Type 0} {a b : ℕ} → ((x y : ℕ) → E x y → F x y) → Path E a b → Path F a b
Path-mono {a} f p = (p.0, f a p.0 p.1, Reaches-mono f p.2)

-- F has the edges of E and one from `from` to `to`
module _ (E F : ℕ → ℕ → Type 0) (from to : ℕ) (edges : (x y : ℕ) → F x y ↔ (E x y ⊎ ((x ≡ from) × (y ≡ to)))) where
  split : {a b : ℕ} → Reaches F a b → Reaches E a b ⊎ (Reaches E a from × Reaches E to b)
  split itself = inl itself
  split (along {a} {b} {c} e p) = by (split p) ((edges a b).0 e)
    where
      by : Reaches E b c ⊎ (Reaches E b from × Reaches E to c) → E a b ⊎ ((a ≡ from) × (b ≡ to)) → Reaches E a c ⊎ (Reaches E a from × Reaches E to c)
      by (inl r) (inl f) = inl (along f r)
      by (inr r) (inl f) = inr (along f r.0, r.1)
      by (inl r) (inr s) = inr (subst (λ x. Reaches E a x) s.0 itself, subst (λ x. Reaches E x c) s.1 r)
      by (inr r) (inr s) = inr (subst (λ x. Reaches E a x) s.0 itself, r.1)

  reached_or_same : {a b : ℕ} → Reaches E a b → (b ≡ a) ⊎ Path E a b
  reached_or_same itself = inl refl
  reached_or_same (along {a} {b} e p) = inr (b, e, p)

  old : {a b : ℕ} → Reaches E a b → Reaches F a b
  old p = Reaches-mono (λ x y e. (edges x y).1 (inl e)) p

  -- a walk goes along the old edges, or once along the new one
  pub Path-joined : (i j : ℕ) → Path F i j ↔ (Path E i j ⊎ (((i ≡ from) ⊎ Path E i from) × ((j ≡ to) ⊎ Path E to j)))
  Path-joined i j = (λ p. forth p.0 ((edges i p.0).0 p.1) (split p.2), λ c. elim c [ inl p ↦ (p.0, (edges i p.0).1 (inl p.1), old p.2) | inr q ↦ back q.0 (tail q.1) ])
    where
      forth : (m : ℕ) → E i m ⊎ ((i ≡ from) × (m ≡ to)) → Reaches E m j ⊎ (Reaches E m from × Reaches E to j) → Path E i j ⊎ (((i ≡ from) ⊎ Path E i from) × ((j ≡ to) ⊎ Path E to j))
      forth m (inl e) (inl r) = inl (m, e, r)
      forth m (inl e) (inr r) = inr (inr (m, e, r.0), reached_or_same r.1)
      forth m (inr s) (inl r) = inr (inl s.0, reached_or_same (subst (λ x. Reaches E x j) s.1 r))
      forth m (inr s) (inr r) = inr (inl s.0, reached_or_same r.1)

      tail : (j ≡ to) ⊎ Path E to j → Reaches F to j
      tail (inl e) = subst (λ x. Reaches F to x) (sym e) itself
      tail (inr p) = old (along p.1 p.2)

      back : (i ≡ from) ⊎ Path E i from → Reaches F to j → Path F i j
      back (inl e) r = (to, (edges i to).1 (inr (e, refl)), r)
      back (inr p) r = (p.0, (edges i p.0).1 (inl p.1), Reaches-trans (old p.2) (along ((edges from to).1 (inr (refl, refl))) r))
