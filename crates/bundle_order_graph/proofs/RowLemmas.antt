-- What a new edge makes of the rows.
use Rattle.std.proofs.Common.{◌≡◌, ◌≢◌, ℕ, zero, suc, ◌+◌, ◌-◌, ◌/◌, ◌<◌, ◌≤◌, ◌⊎◌, ◌↔◌, List, [], ◌∷◌, ◌++◌, get_or, length, refl, sym, ◌∙◌, subst, inl, inr, arith}
use Rattle.std.proofs.lemmas.Bool.{cases_eq, cases_lt}
use Rattle.std.proofs.lemmas.List.{get_or_past, get_or_append_left, get_or-append_right}
use Rattle.bundle_order_graph.specs.Bits.{Has, row_at, HasBit, SameRows, Gains, IsWideFor, Absorbs, Joins, IsTransitive}
use Rattle.bundle_order_graph.proofs.BitLemmas.{Has-cases, Has-nil}

module _ (old : List (List ℕ)) (from to : ℕ) (closed : IsTransitive old) where
  -- a row that has the end of the edge has all that the edge leads to
  pub Joins-nothing : (i : ℕ) → HasBit old i to → (j : ℕ) → HasBit old i j ↔ Joins old from to i j
  Joins-nothing i has j = (λ h. inl h, λ c. elim c [ inl h ↦ h | inr p ↦ by p.1 ])
    where
      by : ((j ≡ to) ⊎ HasBit old to j) → HasBit old i j
      by (inl e) = subst (λ x. HasBit old i x) (sym e) has
      by (inr h) = closed i to j has h

  -- an edge along which a walk led before adds nothing
  pub Joins-known : HasBit old from to → (i j : ℕ) → HasBit old i j ↔ Joins old from to i j
  Joins-known has i j = (λ h. inl h, λ c. elim c [ inl h ↦ h | inr p ↦ (Joins-nothing i (reaches p.0) j).1 (inr p) ])
    where
      reaches : ((i ≡ from) ⊎ HasBit old i from) → HasBit old i to
      reaches (inl e) = subst (λ x. HasBit old x to) (sym e) has
      reaches (inr h) = closed i from to h has

-- past the last row there is nothing
HasBit-past : (rows : List (List ℕ)) (i j : ℕ) → length rows ≤ i → HasBit rows i j → ⊥
HasBit-past rows i j past h = Has-nil j (subst (λ x. Has x j) (get_or_past rows i [] past) h)

-- the rows below k are up to date with the edge, and the others as they were
pub record Connected (old wide : List (List ℕ)) (from to k : ℕ) (now : List (List ℕ)) : Type 0 where
  pub len : length now ≡ length old
  pub lens : (i : ℕ) → length (row_at now i) ≡ length (row_at wide i)
  pub done : (i j : ℕ) → i < k → HasBit now i j ↔ Joins old from to i j
  pub todo : (i j : ℕ) → k ≤ i → HasBit now i j ↔ HasBit old i j

pub Connected-start : (old wide : List (List ℕ)) (from to : ℕ) → length wide ≡ length old → SameRows old wide → Connected old wide from to 0 wide
Connected-start old wide from to len same = record { len = len; lens = λ i. refl; done = λ i j h. absurd (omega (arith, h)); todo = λ i j h. same i j }

module _ (old wide : List (List ℕ)) (from to : ℕ) (closed : IsTransitive old) (k : ℕ) (now : List (List ℕ)) (c : Connected old wide from to k now) where
  -- at k itself, the row is still as it was
  gains_then : Gains now from to k → Gains old from to k
  gains_then g = record {
    comes = elim g.comes [ inl e ↦ inl e | inr h ↦ inr ((c.todo k from (omega arith)).0 h) ];
    lacks = λ h. g.lacks ((c.todo k to (omega arith)).1 h);
  }

  -- what stands beyond the edge stays the same while rows are brought up to date
  beyond : (j : ℕ) → ((j ≡ to) ⊎ HasBit now to j) → (j ≡ to) ⊎ HasBit old to j
  beyond j (inl e) = inl e
  beyond j (inr h) = elim (cases_lt to k) [
    | inl below ↦ elim ((c.done to j below).0 h) [ inl o ↦ inr o | inr p ↦ p.1 ]
    | inr past ↦ inr ((c.todo to j past).0 h)
  ]

  beyond_now : (j : ℕ) → ((j ≡ to) ⊎ HasBit old to j) → (j ≡ to) ⊎ HasBit now to j
  beyond_now j (inl e) = inl e
  beyond_now j (inr h) = elim (cases_lt to k) [
    | inl below ↦ inr ((c.done to j below).1 (inl h))
    | inr past ↦ inr ((c.todo to j past).1 h)
  ]

  -- the rows that gain were widened
  pub wide_enough : ((i : ℕ) → i < length old → Gains old from to i → IsWideFor wide to i) → k < length old → Gains now from to k → IsWideFor now to k
  wide_enough ok within g =
      let w = ok k within (gains_then g) in
      record { word = subst (λ n. to / 64 < n) (sym (c.lens k)) w.word; words = subst (λ n. n ≤ length (row_at now k)) (sym (c.lens to)) (subst (λ n. length (row_at wide to) ≤ n) (sym (c.lens k)) w.words) }

  -- a row that gains
  pub Connected-gains : (new : List (List ℕ)) → Gains now from to k → Absorbs now k to new → Connected old wide from to (k + 1) new
  Connected-gains new g a = record {
    len = a.len ∙ c.len;
    lens = λ i. a.lens i ∙ c.lens i;
    done = λ i j h. elim (cases_eq i k) [ inl e ↦ subst (λ x. HasBit new x j ↔ Joins old from to x j) (sym e) (at_k j) | inr ne ↦ (λ b. (c.done i j (omega (arith, h, ne))).0 ((a.others i j ne).0 b), λ b. (a.others i j ne).1 ((c.done i j (omega (arith, h, ne))).1 b)) ];
    todo = λ i j h. let ne : i ≢ k = λ e. omega (arith, e, h) in (λ b. (c.todo i j (omega (arith, h))).0 ((a.others i j ne).0 b), λ b. (a.others i j ne).1 ((c.todo i j (omega (arith, h))).1 b));
  }
    where
      comes : (k ≡ from) ⊎ HasBit old k from
      comes = (gains_then g).comes

      old_of : (j : ℕ) → HasBit now k j ⊎ ((j ≡ to) ⊎ HasBit now to j) → Joins old from to k j
      old_of j (inl h) = inl ((c.todo k j (omega arith)).0 h)
      old_of j (inr h) = inr (comes, beyond j h)

      now_of : (j : ℕ) → Joins old from to k j → HasBit now k j ⊎ ((j ≡ to) ⊎ HasBit now to j)
      now_of j (inl h) = inl ((c.todo k j (omega arith)).1 h)
      now_of j (inr p) = inr (beyond_now j p.1)

      at_k : (j : ℕ) → HasBit new k j ↔ Joins old from to k j
      at_k j = (λ b. old_of j ((a.own j).0 b), λ b. (a.own j).1 (now_of j b))

  -- a row that gains nothing
  pub Connected-stays : (Gains now from to k → ⊥) → Connected old wide from to (k + 1) now
  Connected-stays none = record {
    len = c.len;
    lens = c.lens;
    done = λ i j h. elim (cases_eq i k) [ inl e ↦ subst (λ x. HasBit now x j ↔ Joins old from to x j) (sym e) (at_k j) | inr ne ↦ c.done i j (omega (arith, h, ne)) ];
    todo = λ i j h. c.todo i j (omega (arith, h));
  }
    where
      old_k : (j : ℕ) → HasBit now k j ↔ HasBit old k j
      old_k j = c.todo k j (omega arith)

      reaches : ((k ≡ from) ⊎ HasBit old k from) → HasBit old k to
      reaches comes = elim (Has-cases (row_at now k) to) [
        | inl h ↦ (old_k to).0 h
        | inr lacks ↦ absurd (none (record { comes = elim comes [ inl e ↦ inl e | inr h ↦ inr ((old_k from).1 h) ]; lacks = lacks }))
      ]

      at_k : (j : ℕ) → HasBit now k j ↔ Joins old from to k j
      at_k j = (λ b. inl ((old_k j).0 b), λ b. elim b [ inl h ↦ (old_k j).1 h | inr p ↦ (old_k j).1 ((Joins-nothing old from to closed k (reaches p.0) j).1 (inr p)) ])

-- all rows are up to date
pub Connected-all : (old wide : List (List ℕ)) (from to k : ℕ) (now : List (List ℕ)) → Connected old wide from to k now → from < length old → length old ≤ k → (i j : ℕ) → HasBit now i j ↔ Joins old from to i j
Connected-all old wide from to k now c within all i j = by (cases_lt i k)
  where
    by : (i < k) ⊎ (k ≤ i) → HasBit now i j ↔ Joins old from to i j
    by (inl h) = c.done i j h
    by (inr h) = (λ b. absurd (HasBit-past now i j (omega (arith, h, all, c.len)) b), λ b. absurd (nothing b))
      where
        nothing : Joins old from to i j → ⊥
        nothing (inl b) = HasBit-past old i j (omega (arith, h, all)) b
        nothing (inr p) = elim p.0 [ inl e ↦ omega (arith, e, within, h, all) | inr b ↦ HasBit-past old i from (omega (arith, h, all)) b ]

-- an empty row at the end adds nothing
pub SameRows-push : (rows : List (List ℕ)) → SameRows rows (rows ++ [] ∷ [])
SameRows-push rows i j = (λ h. subst (λ (l : List ℕ). Has l j) row h, λ h. subst (λ (l : List ℕ). Has l j) (sym row) h)
  where
    single : (k : ℕ) → ◌≡◌ {A = List ℕ} (get_or ([] ∷ []) k []) []
    single zero = refl
    single (suc k) = get_or_past [] k [] (omega arith)

    row : get_or (rows ++ [] ∷ []) i [] ≡ get_or rows i []
    row = elim (cases_lt i (length rows)) [
      | inl h ↦ get_or_append_left rows ([] ∷ []) [] i h
      | inr past ↦ get_or-append_right rows ([] ∷ []) (length rows) i [] refl past ∙ (single (i - length rows) ∙ sym (get_or_past rows i [] past))
    ]

pub SameRows-trans : (a b c : List (List ℕ)) → SameRows a b → SameRows b c → SameRows a c
SameRows-trans a b c p q i j = (λ h. (p i j).0 ((q i j).0 h), λ h. (q i j).1 ((p i j).1 h))
