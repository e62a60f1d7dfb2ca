-- The dependencies of items, as they are found.
use Rattle.std.specs.Prelude.{◌≡◌, ◌≢◌, ◌⊎◌, ℕ, ◌<◌, ◌↔◌, Bool, true, false, List, [], length, slice_index_or, Contains, map}
use Rattle.std.specs.List.Sorted.{IsStrictlyIncreasing}
use Rattle.bundle_order_graph.specs.Classes.{Leads}
use Rattle.bundle_order_sort.specs.declared.Dependency.{Dependency}
use Rattle.bundle_order_sort.specs.declared.Reference.{Reference}
use Rattle.bundle_rules.specs.Order.{Depends, Group, IsStrong, IsWeak}

-- it is found that item s depends on item t, weakly or not
abbrev pub HasFound : List (List Dependency) → ℕ → ℕ → Bool → Type 0
HasFound found s t is_weak =
    Contains (slice_index_or found s []) (record { item = t; is_weak = is_weak })

-- for each item of a group its dependencies are found, strong and weak ones, ascending and each
-- once
pub record AreFound (g : Group) (found : List (List Dependency)) : Type 0 where
  pub len : length found ≡ length g.items
  pub strong : (s t : ℕ) → HasFound found s t false ↔ IsStrong g s t
  pub weak : (s t : ℕ) → HasFound found s t true ↔ IsWeak g s t
  pub ascending : (s : ℕ) → IsStrictlyIncreasing (map (λ one. one.item) (slice_index_or found s []))

-- item t is not this one, and is listed for one of these bindings
abbrev pub IsEnd : List (List ℕ) → List ℕ → ℕ → ℕ → Type 0
IsEnd providers bindings number t =
    (t ≢ number) × ((b : ℕ) × Contains bindings b × Leads providers b t)

-- these items are added but for this one
abbrev pub AddsEnds : List ℕ → ℕ → List ℕ → List ℕ → Type 0
AddsEnds items number old new =
    (t : ℕ) → Contains new t ↔ (Contains old t ⊎ ((t ≢ number) × Contains items t))

-- these are the dependencies of item s, which refers to these bindings, and strongly to those
pub record AreItemDependencies
    (providers : List (List ℕ)) (all strong : List ℕ) (s : ℕ)
    (found : List Dependency) : Type 0 where
  pub strong_ones : (t : ℕ) →
      Contains found (record { item = t; is_weak = false })
      ↔ (IsEnd providers all s t × IsEnd providers strong s t)
  pub weak_ones : (t : ℕ) →
      Contains found (record { item = t; is_weak = true })
      ↔ (IsEnd providers all s t × (IsEnd providers strong s t → ⊥))
  pub ascending : IsStrictlyIncreasing (map (λ one. one.item) found)

-- the same in lists for all items
abbrev pub IsFoundAt :
    List (List ℕ) → List (List ℕ) → List (List ℕ) → ℕ → List (List Dependency) → Type 0
IsFoundAt providers all strong s found =
    AreItemDependencies providers (slice_index_or all s []) (slice_index_or strong s []) s
    (slice_index_or found s [])

-- item s refers, weakly or not, to a binding that item t, another one, declares or sets up, where
-- these are the references of all items and the items that each binding has
abbrev pub HasReference : List (List Reference) → List (List ℕ) → ℕ → ℕ → Bool → Type 0
HasReference references lists s t is_weak =
    (t ≢ s)
    × ((b : ℕ) × Contains (slice_index_or references s []) (record { list = b; is_weak = is_weak })
    × Leads lists b t)

-- for each item of a group its references are found, strong and weak ones
pub record AreReferences
    (g : Group) (references : List (List Reference)) (lists : List (List ℕ)) : Type 0 where
  pub len : length references ≡ length g.items
  pub strong : (s t : ℕ) → HasReference references lists s t false ↔ IsStrong g s t
  pub depends : (s t : ℕ) →
      ((is_weak : Bool) × HasReference references lists s t is_weak) ↔ Depends g s t

-- these are references to all of these bindings, and the strong ones to those
pub record IsReferred (all strong : List ℕ) (found : List Reference) : Type 0 where
  pub sound : (b : ℕ) (is_weak : Bool) →
      Contains found (record { list = b; is_weak = is_weak }) →
      Contains all b × ((is_weak ≡ false) ↔ Contains strong b)
  pub complete : (b : ℕ) →
      Contains all b →
      (is_weak : Bool) × Contains found (record { list = b; is_weak = is_weak })

-- the same in lists for so many items
abbrev pub AreReferred : ℕ → List (List ℕ) → List (List ℕ) → List (List Reference) → Type 0
AreReferred count all strong found =
    (s : ℕ) →
    s < count →
    IsReferred (slice_index_or all s []) (slice_index_or strong s []) (slice_index_or found s [])
